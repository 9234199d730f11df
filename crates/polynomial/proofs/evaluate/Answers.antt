-- `evaluate` meets its promise, exit by exit.
use mathlib.Core.Path.{sym, ap, ◌∙◌}
use Rattle.std.specs.Prelude.{Ok}
use Rattle.fieldvec.proofs.Laws.{shown_ok, exit}
use borrow.Author.Rules.{rules}
use Rattle.polynomial.specs.Polynomials.{value_at}
use Rattle.polynomial.specs.Answers.{value_of}
use Rattle.polynomial.proofs.About.{about_outside, about_whole}
use Rattle.polynomial.proofs.evaluate.Goals as goal

pub returns-in_err-elements : goal.returns-in_err-elements
unfolding value_of
returns-in_err-elements c =
    let out = exit c.args.p.now _ c.from_residual.result c.from_residual.ensures.1 c.in_err-elements.ensures in
    out.1 ∙ sym (about_outside c.args.p.now (λ l. Ok (value_at l c.args.x)) out.0)

pub returns : goal.returns
unfolding value_of
returns c =
    let shown = shown_ok c.args.p.now _ c.in_ok-elements.ensures in
    ap Ok (c.value_by.ensures c.args.x (record { times = λ v r small e. search rules }) ∙ ap (λ l. value_at l c.args.x) shown.1) ∙ sym (about_whole c.args.p.now (λ l. Ok (value_at l c.args.x)) shown.0)
