-- The values, put into the buffer one a turn.
-- The invariant: for each list whose values the function gives, the buffer is the list up to `at`, and from there on what it was.
use mathlib.Core.Path.{◌≡◌}
use mathlib.Core.List.{List}
use Prim.Native.Nat.{ℕ}
use lib.ListN.{length}
use Rattle.laws.proofs.Front.{front}
use Rattle.iter.specs.Writing.{Gives}
use Rattle.iter.proofs.write.Given as goal

abbrev pub invariant-loop-at : goal.invariant-loop-at
invariant-loop-at g l = (list : List ℕ) → length list ≡ l.count → Gives (goal.F-post g l.value) list → l.front ≡ front list l.initial.front l.at
