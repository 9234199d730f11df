-- The table holds the powers of a: one comparison for all places.
use Rattle.laws.specs.Xor.{◌⊕◌}
use Rattle.laws.proofs.Below.{equal_below}
use Prim.Native.Nat.{◌%◌}
use native.Mathlib.Nat.{mod-lt, zero-lt-suc}
use lib.ListN.{get_or}
use Rattle.gf32.specs.Field.{times_a}
use Rattle.gf32.specs.Exponents.{power_of}
use Rattle.gf32.specs.declared.tables.TheConstants.{POWERS}
use Rattle.gf32.proofs.power.Goals as goal

pub returns : goal.returns
unfolding power_of times_a ◌⊕◌
returns c = equal_below (λ k. get_or POWERS k 0) power_of 31 tt (c.args.n % 31) (mod-lt c.args.n (zero-lt-suc 30))
