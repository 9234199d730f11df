-- `FieldVec::pop_front` meets its promise, exit by exit.
use mathlib.Core.Path.{refl, sym, ◌∙◌}
use native.Mathlib.Omega.{arith}
use lib.ListN.{get_or}
use borrow.Author.Rules.{rules}
use Rattle.fieldvec.proofs.Build.{listed_filled}
use Rattle.fieldvec.proofs.Made.{from_fn_at}
use Rattle.fieldvec.proofs.Laws.{shown_ok, exit, refuses, changes, elements_short, popped_front_outside, popped_front_none, popped_front_first}
use Rattle.fieldvec.proofs.FieldVec.pop_front.Goals as goal

pub returns-in_err-elements : goal.returns-in_err-elements
returns-in_err-elements c =
    let out = exit c.args.self.now _ c.from_residual.result c.from_residual.ensures.1 c.in_err-elements.ensures in
    refuses c.args.self.now out.1 (popped_front_outside c.args.self.now out.0)

pub returns-in_default : goal.returns-in_default
returns-in_default c =
    let shown = shown_ok c.args.self.now _ c.in_ok-elements.ensures in
    refuses c.args.self.now refl (popped_front_none c.args.self.now (omega arith) shown.0 (rw shown.1 at c.in_default.ensures.cases))

pub returns : goal.returns
returns c =
    let shown = shown_ok c.args.self.now _ c.in_ok-elements.ensures in
    let places = rw shown.1 at c.in-Some.ensures.cases.1 in
    let rest = c.in-Some.rest.now in
    let at = from_fn_at _ (λ i. get_or c.in-Some.rest.now i 0) _ (λ i r q e. search rules) c.from_fn-items.result 7 c.from_fn-items.ensures.items in
    changes c.args.self.now
    (popped_front_first c.args.self.now (omega arith) shown.0 rest c.in-Some.first.now c.widened-value.result _
    (sym shown.1 ∙ c.in-Some.ensures.cases.0) c.widened-value.ensures
    (listed_filled c.from_fn-items.result rest c.from_fn-items.ensures.items.long (omega (arith, elements_short c.args.self.now shown.0)) at))
