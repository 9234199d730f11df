-- `multiply_mod_x_d` meets its promise, exit by exit.
use mathlib.Core.Path.{sym, ap₂, ◌∙◌}
use Rattle.fieldvec.proofs.Laws.{shown_ok, exit}
use Rattle.fieldvec.specs.Lists.{elements}
use Rattle.polynomial.specs.Products.{product_modulo}
use Rattle.polynomial.specs.Answers.{about, fitting, product_of}
use Rattle.polynomial.proofs.About.{about_outside, about_whole}
use Rattle.polynomial.proofs.multiply_mod_x_d.Goals as goal

pub returns-in_err-elements : goal.returns-in_err-elements
unfolding product_of
returns-in_err-elements c =
    let out = exit c.args.p.now _ c.from_residual.result c.from_residual.ensures.1 c.in_err-elements.ensures in
    out.1 ∙ sym (about_outside c.args.p.now (λ a. about c.args.q.now (λ b. fitting (product_modulo a b c.args.d))) out.0)

pub returns-in_err-elements-2 : goal.returns-in_err-elements-2
unfolding product_of
returns-in_err-elements-2 c =
    let shown = shown_ok c.args.p.now _ c.in_ok-elements.ensures in
    let r = c.from_residual-in_err-elements-2 in
    let out = exit c.args.q.now _ r.result r.ensures.1 c.in_err-elements-2.ensures in
    out.1
    ∙ sym (about_whole c.args.p.now (λ a. about c.args.q.now (λ b. fitting (product_modulo a b c.args.d))) shown.0
    ∙ about_outside c.args.q.now (λ b. let a = elements c.args.p.now in fitting (product_modulo a b c.args.d)) out.0)

pub returns : goal.returns
unfolding product_of
returns c =
    let p = shown_ok c.args.p.now _ c.in_ok-elements.ensures in
    let q = shown_ok c.args.q.now _ c.in_ok-elements-2.ensures in
    c.product_of.ensures ∙ ap₂ (λ a b. fitting (product_modulo a b c.args.d)) p.1 q.1
    ∙ sym (about_whole c.args.p.now (λ a. about c.args.q.now (λ b. fitting (product_modulo a b c.args.d))) p.0
    ∙ about_whole c.args.q.now (λ b. let a = elements c.args.p.now in fitting (product_modulo a b c.args.d)) q.0)
