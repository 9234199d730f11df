-- An answer as numbers, case by case: the number is 0 unless it refuses, and the refusal's own then; what a refusal has no value for is 0.
use mathlib.Core.Path.{◌≡◌, refl}
use mathlib.Core.Bool.{Bool, true, false}
use Prim.Native.Nat.{ℕ}
use Rattle.std.specs.Prelude.{Ok, Err}
use Rattle.std.specs.Result.{result_unwrap_or}
use Rattle.numbers.specs.declared.Refusal.{Refusal}
use Rattle.numbers.specs.Numbers.{number_of, number_in}
use Rattle.fieldvec.specs.Numbers.{truth_in}

pub element_given : (v : ℕ) → (number_in {A = ℕ} (Ok v) ≡ 0) × (result_unwrap_or {E = Refusal} (Ok v) 0 ≡ v)
element_given v = (refl, refl)

pub element_refused : (k : Refusal) → (number_in {A = ℕ} (Err k) ≡ number_of k) × (result_unwrap_or {T = ℕ} (Err k) 0 ≡ 0)
element_refused k = (refl, refl)

pub equality_same : (number_in (Ok true) ≡ 0) × (truth_in (Ok true) ≡ 1)
equality_same = (refl, refl)

pub equality_different : (number_in (Ok false) ≡ 0) × (truth_in (Ok false) ≡ 0)
equality_different = (refl, refl)

pub equality_refused : (k : Refusal) → (number_in {A = Bool} (Err k) ≡ number_of k) × (truth_in (Err k) ≡ 0)
equality_refused k = (refl, refl)
