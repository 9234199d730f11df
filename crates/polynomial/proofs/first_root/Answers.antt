-- `first_root` meets its promise, exit by exit.
use mathlib.Core.Path.{sym, ap, ◌∙◌}
use mathlib.Core.List.{List}
use Prim.Native.Nat.{ℕ, ◌%◌}
use native.Mathlib.Omega.{arith}
use borrow.Author.Tests.{eq-eqb, ne_eqb}
use lib.Dec.{eqb}
use Rattle.std.specs.Prelude.{Option, Result, Ok, Err}
use Rattle.laws.specs.Pick.{pick}
use Rattle.numbers.specs.declared.Refusal.{Refusal}
use Rattle.numbers.specs.declared.Refusal.TheVariants.{DivisionByZero}
use Rattle.fieldvec.specs.Lists.{elements}
use Rattle.fieldvec.proofs.Laws.{shown_ok, exit}
use Rattle.polynomial.specs.Answers.{root_after, first_root}
use Rattle.polynomial.proofs.About.{about_outside, about_whole}
use Rattle.polynomial.proofs.Chien.{root_nowhere, none_after}
use Rattle.polynomial.proofs.first_root.Goals as goal

abbrev found : ℕ → ℕ → List ℕ → Result (Option ℕ) Refusal
found base k cs = pick (eqb (base % 1024) 0) (Err DivisionByZero) (Ok (root_after cs base k))

pub returns-in_err-elements : goal.returns-in_err-elements
unfolding first_root
returns-in_err-elements c =
    let out = exit c.args.p.now _ c.from_residual.result c.from_residual.ensures.1 c.in_err-elements.ensures in
    out.1 ∙ sym (about_outside c.args.p.now (found c.args.base c.args.from) out.0)

pub returns-then-base-eq0 : goal.returns-then-base-eq0
unfolding first_root
returns-then-base-eq0 c =
    let shown = shown_ok c.args.p.now _ c.in_ok-elements.ensures in
    sym (about_whole c.args.p.now (found c.args.base c.args.from) shown.0 ∙ rw (eq-eqb _ _ c.if-base-eq0.true))

pub returns-then-from-ge-GROUP_ORDER : goal.returns-then-from-ge-GROUP_ORDER
unfolding first_root
returns-then-from-ge-GROUP_ORDER c =
    let shown = shown_ok c.args.p.now _ c.in_ok-elements.ensures in
    let cs = elements c.args.p.now in
    let nowhere = root_nowhere cs c.args.base c.args.from c.if-from-ge-GROUP_ORDER.true in
    ap Ok (none_after cs c.args.base c.args.from (omega (arith, nowhere, c.if-from-ge-GROUP_ORDER.true)))
    ∙ sym (about_whole c.args.p.now (found c.args.base c.args.from) shown.0 ∙ rw (ne_eqb _ _ c.if-base-eq0.false))

pub root_from-requires : goal.root_from-requires
root_from-requires c = let shown = shown_ok c.args.p.now _ c.in_ok-elements.ensures in (shown.0, omega arith)

pub returns : goal.returns
unfolding first_root
returns c =
    let shown = shown_ok c.args.p.now _ c.in_ok-elements.ensures in
    c.root_from.ensures ∙ sym (about_whole c.args.p.now (found c.args.base c.args.from) shown.0 ∙ rw (ne_eqb _ _ c.if-base-eq0.false))
