-- When exactly 19 and 20 come.
use mathlib.Core.Path.{◌≡◌, refl, sym}
use mathlib.Core.Logic.{◌↔◌}
use mathlib.Core.Bool.{Bool, true, false}
use mathlib.Core.List.{List, [], ◌∷◌}
use Prim.Native.Nat.{ℕ, ◌+◌, ◌<◌}
use lib.Dec.{ltb}
use lib.ListN.{length, take, drop}
use borrow.Author.Tests.{ltb-true}
use Rattle.laws.specs.Pick.{pick}
use Rattle.answers.specs.Order.{◌gives◌}
use Rattle.answers.specs.Reading.{address_verdict}
use Rattle.answers.proofs.Orders.{refused_first}
use Rattle.answers.proofs.Refusals.{address_never}
use Rattle.batch.specs.Batch.{entry_verdict, batch_verdict}
use Rattle.batch.specs.declared.Entry.{Entry}
use Rattle.batch.proofs.Entries.{many_refused, reaches_outside}
use Rattle.numbers.specs.declared.Refusal.TheVariants.{BatchLong, EntryOutside}
use Rattle.std.specs.Prelude.{Err}

pub batch_19 : (entries : List Entry) → (batch_verdict entries ≡ Err BatchLong) ↔ (32 < length entries)
unfolding batch_verdict
batch_19 entries =
    let first = refused_first tt BatchLong 0 (ltb 32 (length entries) gives BatchLong ∷ []) tt in
    (λ e. ltb-true 32 (length entries) (first e).1, many_refused entries)

pub entry_20 : (buffer : List ℕ) (e : Entry) → (entry_verdict buffer e ≡ Err EntryOutside) ↔ (length buffer < e.start + e.len)
unfolding entry_verdict
entry_20 buffer e = (by_test (ltb (length buffer) (e.start + e.len)) refl, λ h. sym (reaches_outside buffer e h))
  where
    by_test : (b : Bool) → ltb (length buffer) (e.start + e.len) ≡ b
        → pick b (Err EntryOutside) (address_verdict (take e.len (drop e.start buffer))) ≡ Err EntryOutside → length buffer < e.start + e.len
    by_test true seen given = ltb-true (length buffer) (e.start + e.len) seen
    by_test false seen given = absurd (address_never (take e.len (drop e.start buffer)) EntryOutside tt given)
