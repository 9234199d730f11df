-- `FieldVec::pop` meets its promise, exit by exit.
use mathlib.Core.Path.{refl, sym, ◌∙◌}
use native.Mathlib.Omega.{arith}
use Rattle.fieldvec.proofs.Laws.{shown_ok, exit, refuses, changes, elements_short, popped_back_outside, popped_back_none, popped_back_last}
use Rattle.fieldvec.proofs.FieldVec.pop.Goals as goal

pub returns-in_err-elements : goal.returns-in_err-elements
returns-in_err-elements c =
    let out = exit c.args.self.now _ c.from_residual.result c.from_residual.ensures.1 c.in_err-elements.ensures in
    refuses c.args.self.now out.1 (popped_back_outside c.args.self.now out.0)

pub returns-in_default : goal.returns-in_default
returns-in_default c =
    let shown = shown_ok c.args.self.now _ c.in_ok-elements.ensures in
    refuses c.args.self.now refl (popped_back_none c.args.self.now (omega arith) shown.0 (rw shown.1 at c.in_default.ensures.cases))

pub bounds-self-at : goal.bounds-self-at
bounds-self-at c =
    let shown = shown_ok c.args.self.now _ c.in_ok-elements.ensures in
    let places = rw shown.1 at c.in-Some.ensures.cases.1 in
    omega (arith, elements_short c.args.self.now shown.0)

pub returns : goal.returns
returns c =
    let shown = shown_ok c.args.self.now _ c.in_ok-elements.ensures in
    changes c.args.self.now
    (popped_back_last c.args.self.now (omega arith) shown.0 c.in-Some.rest.now c.in-Some.last.now c.widened-value.result
    (sym shown.1 ∙ c.in-Some.ensures.cases.0) c.widened-value.ensures)
