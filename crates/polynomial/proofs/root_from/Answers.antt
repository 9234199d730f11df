-- The search for a root (proofs/Chien.antt). No step of it is refused: each list is as long as the polynomial's.
use mathlib.Core.Path.{refl, ap, ◌∙◌}
use native.Mathlib.Omega.{arith}
use Rattle.std.specs.Prelude.{Ok}
use Rattle.gf32_ext.specs.Field.{power}
use Rattle.fieldvec.specs.Lists.{elements, powers_given}
use Rattle.fieldvec.proofs.Laws.{shown_ok, shown_err, accepts, left_made, elements_short}
use Rattle.polynomial.specs.Polynomials.{value_at}
use Rattle.polynomial.proofs.Chien.{kept_size, powers_kept, powers_for, first_kept, root_end, root_turn, root_nowhere, some_after, none_after}
use Rattle.polynomial.proofs.root_from.Goals as goal

pub returns-in_err-step : goal.returns-in_err-step
returns-in_err-step c = absurd (powers_kept c.args.p.now (omega arith) c.requires.0 c.args.base c.in_err-step.ensures)

pub returns-in_err-start : goal.returns-in_err-start
returns-in_err-start c = absurd (powers_kept c.args.p.now (omega arith) c.requires.0 c.power_of.result c.in_err-start.ensures)

pub returns-in_err-multiply_pointwise : goal.returns-in_err-multiply_pointwise
returns-in_err-multiply_pointwise c =
    absurd (accepts c.args.p.now (first_kept c.args.p.now (omega arith) c.requires.0 c.power_of.result c.in_ok-start.ensures) c.in_err-multiply_pointwise.ensures.result)

pub loop-e-init : goal.loop-e-init
loop-e-init c = (
  left_made c.args.p.now
      (first_kept c.args.p.now (omega arith) c.requires.0 (power c.args.base c.args.from)
      (c.in_ok-start.ensures ∙ ap (λ x. powers_given x c.args.p.now.len) c.power_of.ensures))
      c.multiply_pointwise.ensures.list,
  refl,
)

pub returns-in_err-elements : goal.returns-in_err-elements
returns-in_err-elements c =
    let sized = kept_size (elements c.args.p.now) (elements_short c.args.p.now c.requires.0) (power c.args.base c.loop-e.e) c.loop-e.invariant.0 in
    let over = (shown_err c.loop-e.terms _ c.in_err-elements.ensures).0 in
    absurd (omega (arith, elements_short c.args.p.now c.requires.0))

pub returns-then-total_of-eq0 : goal.returns-then-total_of-eq0
returns-then-total_of-eq0 c =
    let p = c.args.p.now in
    let shown = shown_ok c.loop-e.terms _ c.in_ok-elements.ensures in
    ap Ok (some_after (elements p) c.args.base c.args.from c.loop-e.e c.loop-e-test.true
    (root_end (elements p) (elements_short p c.requires.0) c.args.base c.loop-e.e c.loop-e.invariant.0
    (c.total_of.ensures ∙ ap (λ l. value_at l 1) shown.1) c.loop-e-test.true c.if-total_of-eq0.true
    ∙ c.loop-e.invariant.1))

pub returns-in_err-multiply_pointwise-2 : goal.returns-in_err-multiply_pointwise-2
returns-in_err-multiply_pointwise-2 c =
    let p = c.args.p.now in
    let shown = shown_ok c.loop-e.terms _ c.in_ok-elements.ensures in
    let turn = root_turn (elements p) (elements_short p c.requires.0) c.args.base c.loop-e.e c.loop-e.invariant.0
    (c.total_of.ensures ∙ ap (λ l. value_at l 1) shown.1) c.loop-e-test.true
    (powers_for p (omega arith) c.requires.0 c.args.base c.in_ok-step.ensures) c.if-total_of-eq0.false in
    absurd (accepts c.loop-e.terms turn.0 c.in_err-multiply_pointwise-2.ensures.result)

pub loop-e-preserved : goal.loop-e-preserved
loop-e-preserved c =
    let p = c.args.p.now in
    let shown = shown_ok c.loop-e.terms _ c.in_ok-elements.ensures in
    let turn = root_turn (elements p) (elements_short p c.requires.0) c.args.base c.loop-e.e c.loop-e.invariant.0
    (c.total_of.ensures ∙ ap (λ l. value_at l 1) shown.1) c.loop-e-test.true
    (powers_for p (omega arith) c.requires.0 c.args.base c.in_ok-step.ensures) c.if-total_of-eq0.false in
    (left_made c.loop-e.terms turn.0 c.multiply_pointwise-in-loop-e.ensures.list, turn.1 ∙ c.loop-e.invariant.1)

pub returns : goal.returns
returns c =
    let cs = elements c.args.p.now in
    let end = root_nowhere cs c.args.base c.loop-e.e c.loop-e-test.false in
    ap Ok (none_after cs c.args.base c.args.from (omega (arith, end, c.loop-e.invariant.1)))
