-- A walk's step as numbers, case by case.
use mathlib.Core.Path.{◌≡◌, refl}
use Prim.Native.Nat.{ℕ}
use Rattle.std.specs.Prelude.{Option, Some, None}
use Rattle.iter.specs.Numbers.{number_of_step, given_of_step, value_of_step, place_of_step}

-- of a step and the place of the walk after it
pub record StepNumbers (step : Option ℕ) (after given value place : ℕ) : Type 0 where
  pub number : number_of_step step ≡ 0
  pub given_or_not : given_of_step step ≡ given
  pub value_given : value_of_step step ≡ value
  pub at : place_of_step step after ≡ place

pub of_a_value : (v after : ℕ) → StepNumbers (Some v) after 1 v after
of_a_value v after = record { number = refl; given_or_not = refl; value_given = refl; at = refl }

pub of_no_value : (after : ℕ) → StepNumbers None after 0 0 0
of_no_value after = record { number = refl; given_or_not = refl; value_given = refl; at = refl }
