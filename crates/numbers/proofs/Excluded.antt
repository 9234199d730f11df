-- Wrong answers that the promises rule out, each on concrete inputs.
use Rattle.std.specs.Prelude.{◌≡◌, ℕ, Result, Ok, Err}
use Rattle.std.proofs.Common.{arith}
use Rattle.numbers.specs.declared.Refusal.{Refusal}
use Rattle.numbers.specs.declared.Refusal.TheVariants.{OutsideCharset, BatchLong, RangesOverlap}
use Rattle.numbers.specs.Promises.{NumberGiven}

-- what is accepted, by what it gives
pub number_not_what_is_given : NumberGiven {A = ℕ} (Ok 5) 5 → ⊥
number_not_what_is_given h = omega (arith, h)

-- the place among the variants, which is not the number from 29 on
pub number_not_the_place : NumberGiven {A = ℕ} (Err RangesOverlap) 29 → ⊥
number_not_the_place h = omega (arith, h)

-- a refusal as what is accepted
pub number_not_zero_for_one : NumberGiven {A = ℕ} (Err OutsideCharset) 0 → ⊥
number_not_zero_for_one h = omega (arith, h)
