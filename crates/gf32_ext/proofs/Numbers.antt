-- An answer as numbers, case by case: the number is 0 for a value and the refusal's own otherwise; what a refusal has no value for is 0.
use mathlib.Core.Path.{◌≡◌, refl}
use Prim.Native.Nat.{ℕ}
use Rattle.std.specs.Prelude.{Ok, Err}
use Rattle.numbers.specs.declared.Refusal.{Refusal}
use Rattle.numbers.specs.Numbers.{number_of, number_in}
use Rattle.std.specs.Result.{result_unwrap_or}

pub quotient_given : (v : ℕ) → (number_in {A = ℕ} (Ok v) ≡ 0) × (result_unwrap_or {E = Refusal} (Ok v) 0 ≡ v)
quotient_given v = (refl, refl)

pub quotient_refused : (k : Refusal) → (number_in {A = ℕ} (Err k) ≡ number_of k) × (result_unwrap_or {T = ℕ} (Err k) 0 ≡ 0)
quotient_refused k = (refl, refl)
