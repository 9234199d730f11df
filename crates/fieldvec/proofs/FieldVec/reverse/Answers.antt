-- `FieldVec::reverse` meets its promise, exit by exit.
use mathlib.Core.Path.{sym, ap, ◌∙◌}
use mathlib.Core.List.{reverse}
use lib.ListN.{length, get_or, length-reverse}
use native.Mathlib.Omega.{arith}
use borrow.Author.Rules.{rules}
use Rattle.fieldvec.specs.Lists.{elements}
use Rattle.fieldvec.proofs.Build.{made, listed_filled}
use Rattle.fieldvec.proofs.Made.{from_fn_at}
use Rattle.fieldvec.proofs.Laws.{shown_ok, exit, refuses, changes, elements_short, reversed_outside, reversed_whole}
use Rattle.fieldvec.proofs.FieldVec.reverse.Goals as goal

pub returns-in_err-elements : goal.returns-in_err-elements
returns-in_err-elements c =
    let out = exit c.args.self.now _ c.from_residual.result c.from_residual.ensures.1 c.in_err-elements.ensures in
    refuses c.args.self.now out.1 (reversed_outside c.args.self.now out.0)

pub returns : goal.returns
returns c =
    let list = c.args.self.now in
    let shown = shown_ok list _ c.in_ok-elements.ensures in
    let turned = length-reverse (elements list) in
    let at = from_fn_at _ (λ i. get_or (reverse c.in_ok-elements.elements.now) i 0) _ (λ i r q e. search rules) c.from_fn-items.result 7 c.from_fn-items.ensures.items in
    let filled = listed_filled c.from_fn-items.result (reverse (elements list)) c.from_fn-items.ensures.items.long
    (omega (arith, turned, elements_short list shown.0)) (rw shown.1 at at) in
    changes list (reversed_whole list (omega arith) shown.0 _ (ap (made c.from_fn-items.result) (ap length shown.1 ∙ sym turned) ∙ filled))
