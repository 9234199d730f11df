-- One entry: what its verdict is inside the buffer and outside it. The code compares start and length without their sum, the definition by it.
-- A list of entries: what its verdict is up to the limit and over it.
use mathlib.Core.Path.{◌≡◌}
use mathlib.Core.List.{List}
use Prim.Native.Nat.{ℕ, ◌+◌, ◌<◌, ◌≤◌}
use borrow.Author.Tests.{lt-ltb, le-ltb}
use lib.ListN.{length, take, drop}
use Rattle.answers.specs.Reading.{address_verdict}
use Rattle.batch.specs.Batch.{entry_verdict, batch_verdict}
use Rattle.batch.specs.declared.Entry.{Entry}
use Rattle.numbers.specs.declared.Refusal.TheVariants.{BatchLong, EntryOutside}
use Rattle.std.specs.Prelude.{Ok, Err}

-- what stands at a place that a list does not have
abbrev pub none : Entry
none = record { start = 0; len = 0; verdict = 0; version = 0; program = 0 }

pub few_accepted : (entries : List Entry) → length entries ≤ 32 → batch_verdict entries ≡ Ok tt
unfolding batch_verdict
few_accepted entries h = rw (le-ltb 32 (length entries) h)

pub many_refused : (entries : List Entry) → 32 < length entries → batch_verdict entries ≡ Err BatchLong
unfolding batch_verdict
many_refused entries h = rw (lt-ltb 32 (length entries) h)

module _ (buffer : List ℕ) (e : Entry) where
  pub reaches_outside : length buffer < e.start + e.len → Err EntryOutside ≡ entry_verdict buffer e
  unfolding entry_verdict
  reaches_outside h = rw (lt-ltb (length buffer) (e.start + e.len) h)

  pub stays_inside : e.start + e.len ≤ length buffer → address_verdict (take e.len (drop e.start buffer)) ≡ entry_verdict buffer e
  unfolding entry_verdict
  stays_inside h = rw (le-ltb (length buffer) (e.start + e.len) h)
