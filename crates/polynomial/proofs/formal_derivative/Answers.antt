-- `formal_derivative` meets its promise, exit by exit.
use mathlib.Core.Path.{sym, ap, ◌∙◌}
use Prim.Native.Nat.{◌+◌, ◌≤◌, ◌%◌}
use native.Mathlib.Nat.{mod-eq_of_lt}
use native.Mathlib.Omega.{arith}
use borrow.Author.Rules.{rules}
use lib.ListN.{length, get_or, drop}
use Rattle.std.specs.Prelude.{Ok}
use Rattle.fieldvec.proofs.Laws.{shown_ok, exit, elements_short}
use Rattle.fieldvec.specs.Lists.{listed}
use Rattle.polynomial.specs.Polynomials.{multiple, multiples, derivative}
use Rattle.fieldvec.proofs.Made.{from_fn_at}
use Rattle.polynomial.proofs.Trim.{trimmed_filled}
use Rattle.polynomial.proofs.Values.{multiple_lt, derived_length, derived_at}
use Rattle.polynomial.specs.Answers.{derivative_of}
use Rattle.polynomial.proofs.About.{about_outside, about_whole}
use Rattle.polynomial.proofs.formal_derivative.Goals as goal

pub returns-in_err-s : goal.returns-in_err-s
unfolding derivative_of
returns-in_err-s c =
    let out = exit c.args.p.now _ c.from_residual.result c.from_residual.ensures.1 c.in_err-s.ensures in
    out.1 ∙ sym (about_outside c.args.p.now (λ l. Ok (listed (derivative l))) out.0)

pub returns : goal.returns
unfolding derivative_of derivative
returns c =
    let p = c.args.p.now in
    let shown = shown_ok c.args.p.now _ c.in_ok-s.ensures in
    let s = c.in_ok-s.s.now in
    let room : length s ≤ 7 = rw shown.1 (elements_short p shown.0) in
    let at = from_fn_at _ (λ i. multiple (i + 1) (get_or c.in_ok-s.s.now (i + 1) 0) % 1024) _ (λ i r q e. search rules) c.from_fn.result 7 c.from_fn.ensures.items in
    ap Ok (c.trimmed_list.ensures
    ∙ ap listed (trimmed_filled c.from_fn.result (multiples 1 (drop 1 s)) c.from_fn.ensures.items.long (omega (arith, room, derived_length s))
    (λ k h. at k h ∙ mod-eq_of_lt (multiple_lt _ _) ∙ sym (derived_at s k)))
    ∙ ap (λ l. listed (derivative l)) shown.1)
    ∙ sym (about_whole c.args.p.now (λ l. Ok (listed (derivative l))) shown.0)
