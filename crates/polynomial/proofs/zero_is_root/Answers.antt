-- `zero_is_root` meets its promise, exit by exit.
use mathlib.Core.Path.{sym, ap, ◌∙◌}
use Rattle.std.specs.Prelude.{Ok}
use Rattle.fieldvec.proofs.Laws.{shown_ok, exit}
use Prim.Native.Nat.{ℕ, ◌%◌}
use lib.Dec.{eqb}
use Rattle.polynomial.specs.Polynomials.{is_root}
use Rattle.polynomial.proofs.Values.{value_at_zero}
use Rattle.polynomial.specs.Answers.{zero_is_root}
use Rattle.polynomial.proofs.About.{about_outside, about_whole}
use Rattle.polynomial.proofs.zero_is_root.Goals as goal

pub returns-in_err-elements : goal.returns-in_err-elements
unfolding zero_is_root
returns-in_err-elements c =
    let out = exit c.args.p.now _ c.from_residual.result c.from_residual.ensures.1 c.in_err-elements.ensures in
    out.1 ∙ sym (about_outside c.args.p.now (λ l. Ok (is_root l 0)) out.0)

pub returns : goal.returns
unfolding zero_is_root
returns c =
    let shown = shown_ok c.args.p.now _ c.in_ok-elements.ensures in
    ap Ok (ap (λ (v : ℕ). eqb v 0) (ap (λ (v : ℕ). v % 1024) c.coefficient_at.ensures ∙ sym (value_at_zero c.in_ok-elements.field-0.now)) ∙ ap (λ l. is_root l 0) shown.1) ∙ sym (about_whole c.args.p.now (λ l. Ok (is_root l 0)) shown.0)
