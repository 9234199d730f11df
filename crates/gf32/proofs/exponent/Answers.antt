-- The table holds each number's place among the powers of a: one comparison for all places.
use Rattle.laws.specs.Xor.{◌⊕◌}
use Rattle.laws.proofs.Below.{equal_below}
use Prim.Native.Nat.{◌%◌}
use native.Mathlib.Nat.{mod-lt, zero-lt-suc}
use lib.ListN.{get_or}
use Rattle.gf32.specs.Field.{times_a}
use Rattle.gf32.specs.Exponents.{log_of}
use Rattle.gf32.specs.declared.tables.TheConstants.{EXPONENTS}
use Rattle.gf32.proofs.exponent.Goals as goal

pub returns : goal.returns
unfolding log_of times_a ◌⊕◌
returns c = equal_below (λ k. get_or EXPONENTS k 0) log_of 32 tt (c.args.x % 32) (mod-lt c.args.x (zero-lt-suc 31))
