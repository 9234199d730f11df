-- `lift` meets its promise, by the test.
use mathlib.Core.Path.{sym, ap, ◌∙◌}
use Prim.Native.Nat.{◌%◌}
use native.Mathlib.Omega.{arith}
use borrow.Author.Rules.{rules}
use Rattle.std.proofs.Math.ListN.{get_or-map}
use mathlib.Core.List.{map}
use lib.ListN.{get_or, length-map}
use borrow.Author.Tests.{lt-ltb, le-ltb}
use Rattle.std.specs.Prelude.{Ok}
use Rattle.fieldvec.specs.Lists.{symbol_of, lifted}
use Rattle.fieldvec.proofs.Build.{made, listed_filled}
use Rattle.fieldvec.proofs.Made.{from_fn_at}
use Rattle.fieldvec.proofs.lift.Goals as goal

pub returns-then-symbols-gt-CAPACITY : goal.returns-then-symbols-gt-CAPACITY
unfolding lifted
returns-then-symbols-gt-CAPACITY c = rw (lt-ltb _ _ c.if-symbols-gt-CAPACITY.true)

pub returns : goal.returns
unfolding lifted
returns c =
    let symbols = c.args.symbols.now in
    let long = length-map symbols symbol_of in
    let at = from_fn_at _ (λ i. get_or c.args.symbols.now i 0 % 32) _ (λ i r q e. search rules) c.from_fn-items.result 7 c.from_fn-items.ensures.items in
    rw (le-ltb _ _ c.if-symbols-gt-CAPACITY.false)
    (ap Ok (ap (made c.from_fn-items.result) (sym long)
    ∙ listed_filled c.from_fn-items.result (map symbol_of symbols) c.from_fn-items.ensures.items.long (omega (arith, long))
    (λ k h. at k h ∙ sym (get_or-map symbol_of symbols k 0))))
