-- `leading_term` meets its promise, exit by exit.
use mathlib.Core.Path.{sym, ap, ◌∙◌}
use Rattle.std.specs.Prelude.{Ok}
use Rattle.fieldvec.proofs.Laws.{shown_ok, exit}
use Rattle.polynomial.specs.Polynomials.{leading}
use Rattle.polynomial.specs.Answers.{leading_of}
use Rattle.polynomial.proofs.About.{about_outside, about_whole}
use Rattle.polynomial.proofs.leading_term.Goals as goal

pub returns-in_err-elements : goal.returns-in_err-elements
unfolding leading_of
returns-in_err-elements c =
    let out = exit c.args.p.now _ c.from_residual.result c.from_residual.ensures.1 c.in_err-elements.ensures in
    out.1 ∙ sym (about_outside c.args.p.now (λ l. Ok (leading l)) out.0)

pub returns : goal.returns
unfolding leading_of leading
returns c =
    let shown = shown_ok c.args.p.now _ c.in_ok-elements.ensures in
    ap Ok (c.leading_of.ensures ∙ ap leading shown.1) ∙ sym (about_whole c.args.p.now (λ l. Ok (leading l)) shown.0)
