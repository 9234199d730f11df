-- The table holds the same one step later: one comparison for all places.
use mathlib.Core.Path.{refl, sym}
use native.Mathlib.Omega.{arith}
use lib.Bits.{bit_and, and_le_r}
use lib.ListN.{get_or}
use Rattle.laws.proofs.Below.{equal_below}
use Rattle.checksum.specs.declared.steps.TheConstants.{MIXED_TWICE}
use Rattle.checksum.proofs.Columns.{sum_of}
use Rattle.checksum.proofs.StepLaws.{generator_stepped, arm_stepped}
use Rattle.checksum.proofs.steps.mix_twice.Goals as goal

pub returns : goal.returns
returns c =
    let low = bit_and c.args.top 31 in
    arm_stepped c.args.top low _ refl
    (sym (equal_below (λ k. get_or MIXED_TWICE k 0) (sum_of generator_stepped) 32 tt low (omega (arith, and_le_r c.args.top 31))))
