-- The powers passed stand in their places, and the next power is at hand.
use mathlib.Core.Path.{◌≡◌}
use Prim.Native.Nat.{ℕ, ◌<◌}
use lib.ListN.{get_or}
use Rattle.gf32_ext.specs.Field.{power}
use Rattle.fieldvec.proofs.first_powers.Given as goal

abbrev pub invariant-loop-item : goal.invariant-loop-item
invariant-loop-item l = ((k : ℕ) → k < l.item-index → get_or l.front k 0 ≡ power l.base k) × (l.next ≡ power l.base l.item-index)
