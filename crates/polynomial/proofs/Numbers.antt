-- An answer as numbers, case by case: the number is 0 unless it refuses, and the refusal's own then; what a refusal has no value for is 0.
use mathlib.Core.Path.{◌≡◌, refl}
use mathlib.Core.Bool.{Bool, true, false}
use Prim.Native.Nat.{ℕ}
use Rattle.std.specs.Prelude.{Option, Some, None, Ok, Err}
use Rattle.std.specs.Result.{result_unwrap_or}
use Rattle.numbers.specs.declared.Refusal.{Refusal}
use Rattle.numbers.specs.Numbers.{number_of, number_in}
use Rattle.fieldvec.specs.Numbers.{truth_in}
use Rattle.polynomial.specs.Numbers.{found_of_root, exponent_of_root}

pub exponent_given : (v : ℕ) → (number_in {A = ℕ} (Ok v) ≡ 0) × (result_unwrap_or {E = Refusal} (Ok v) 0 ≡ v)
exponent_given v = (refl, refl)

pub exponent_refused : (k : Refusal) → (number_in {A = ℕ} (Err k) ≡ number_of k) × (result_unwrap_or {T = ℕ} (Err k) 0 ≡ 0)
exponent_refused k = (refl, refl)

pub truth_yes : (number_in (Ok true) ≡ 0) × (truth_in (Ok true) ≡ 1)
truth_yes = (refl, refl)

pub truth_no : (number_in (Ok false) ≡ 0) × (truth_in (Ok false) ≡ 0)
truth_no = (refl, refl)

pub truth_refused : (k : Refusal) → (number_in {A = Bool} (Err k) ≡ number_of k) × (truth_in (Err k) ≡ 0)
truth_refused k = (refl, refl)

pub root_found : (e : ℕ) → (number_in (Ok (Some e)) ≡ 0) × (found_of_root (Ok (Some e)) ≡ 1) × (exponent_of_root (Ok (Some e)) ≡ e)
root_found e = (refl, refl, refl)

pub root_none : (number_in {A = Option ℕ} (Ok None) ≡ 0) × (found_of_root (Ok None) ≡ 0) × (exponent_of_root (Ok None) ≡ 0)
root_none = (refl, refl, refl)

pub root_refused : (k : Refusal) → (number_in {A = Option ℕ} (Err k) ≡ number_of k) × (found_of_root (Err k) ≡ 0) × (exponent_of_root (Err k) ≡ 0)
root_refused k = (refl, refl, refl)
