-- `FieldVec::multiply_pointwise` meets its promise, exit by exit.
use mathlib.Core.Path.{refl, sym, ap, ap₂, ◌∙◌}
use Prim.Native.Nat.{◌≤◌}
use native.Mathlib.Omega.{arith}
use borrow.Author.Rules.{rules}
use lib.ListN.{length, get_or}
use Rattle.gf32_ext.specs.Field.{product}
use Rattle.fieldvec.specs.Lists.{listed, pointwise}
use Rattle.fieldvec.proofs.Build.{made, listed_filled, pointwise_length, pointwise_at}
use Rattle.fieldvec.proofs.Made.{from_fn_at}
use Rattle.fieldvec.proofs.Laws.{shown_ok, exit, refuses, changes, elements_length, elements_short, multiplied_refused, multiplied_whole}
use Rattle.fieldvec.proofs.FieldVec.multiply_pointwise.Goals as goal

pub returns-in_err-factors : goal.returns-in_err-factors
returns-in_err-factors c =
    let r = c.from_residual in
    let out = exit c.args.other.now _ r.result r.ensures.1 c.in_err-factors.ensures in
    refuses c.args.self.now out.1 (multiplied_refused c.args.self.now c.args.other.now (λ h e. omega (arith, out.0)))

pub returns-in_err-elements : goal.returns-in_err-elements
returns-in_err-elements c =
    let r = c.from_residual-in_err-elements in
    let out = exit c.args.self.now _ r.result r.ensures.1 c.in_err-elements.ensures in
    refuses c.args.self.now out.1 (multiplied_refused c.args.self.now c.args.other.now (λ h e. omega (arith, out.0)))

pub returns-then-elements-factors : goal.returns-then-elements-factors
returns-then-elements-factors c =
    let shown = shown_ok c.args.self.now _ c.in_ok-elements.ensures in
    let other = shown_ok c.args.other.now _ c.in_ok-factors.ensures in
    let unlike = rw (shown.1, other.1) at c.if-elements-factors.true in
    refuses c.args.self.now refl
    (multiplied_refused c.args.self.now c.args.other.now
    (λ h e. unlike (elements_length c.args.self.now (omega arith) shown.0 ∙ e ∙ sym (elements_length c.args.other.now (omega arith) other.0))))

pub returns : goal.returns
returns c =
    let shown = shown_ok c.args.self.now _ c.in_ok-elements.ensures in
    let other = shown_ok c.args.other.now _ c.in_ok-factors.ensures in
    let s = c.in_ok-elements.elements.now in
    let t = c.in_ok-factors.factors.now in
    let room : length s ≤ 7 = rw shown.1 (elements_short c.args.self.now shown.0) in
    let same = rw (shown.1, other.1) at c.if-elements-factors.false in
    let long = pointwise_length s t c.if-elements-factors.false in
    let at = from_fn_at _ (λ i. product (get_or c.in_ok-elements.elements.now i 0) (get_or c.in_ok-factors.factors.now i 0)) _ (λ i r q e. search rules) c.from_fn-items.result 7 c.from_fn-items.ensures.items in
    changes c.args.self.now
    (multiplied_whole c.args.self.now c.args.other.now _
    (sym (elements_length c.args.self.now (omega arith) shown.0) ∙ same ∙ elements_length c.args.other.now (omega arith) other.0) shown.0
    (ap (made c.from_fn-items.result) (sym long)
    ∙ listed_filled c.from_fn-items.result (pointwise s t) c.from_fn-items.ensures.items.long (omega (arith, long))
    (λ k h. at k h ∙ sym (pointwise_at s t c.if-elements-factors.false k))
    ∙ ap₂ (λ s t. listed (pointwise s t)) shown.1 other.1))
