-- The table holds the generator times each number: one comparison for all places.
use mathlib.Core.Path.{refl, sym}
use native.Mathlib.Omega.{arith}
use lib.Bits.{bit_and, and_le_r}
use lib.ListN.{get_or}
use Rattle.laws.proofs.Below.{equal_below}
use Rattle.paper.specs.Checksum.{generator}
use Rattle.checksum.specs.declared.steps.TheConstants.{MIXED}
use Rattle.checksum.proofs.Columns.{sum_of, arm_mixed}
use Rattle.checksum.proofs.steps.mix.Goals as goal

pub returns : goal.returns
returns c =
    let low = bit_and c.args.top 31 in
    arm_mixed c.args.top low _ refl
    (sym (equal_below (λ k. get_or MIXED k 0) (sum_of generator) 32 tt low (omega (arith, and_le_r c.args.top 31))))
