-- What each public function promises, and that two answers which keep the promise are equal.
use Rattle.std.specs.Prelude.{◌≡◌, Result, ℕ}
use Rattle.laws.proofs.Bools.{same}
use Rattle.numbers.specs.declared.Refusal.{Refusal}
use Rattle.gf32_ext.specs.Field.{sum, product, inverse_of, quotient}

-- gf32_ext::add
abbrev pub Added : ℕ → ℕ → ℕ → Type 0
Added x y r = r ≡ sum x y

pub added_once : (x y r s : ℕ) → Added x y r → Added x y s → r ≡ s
added_once x y r s p q = same p q

-- gf32_ext::multiply
abbrev pub Multiplied : ℕ → ℕ → ℕ → Type 0
Multiplied x y r = r ≡ product x y

pub multiplied_once : (x y r s : ℕ) → Multiplied x y r → Multiplied x y s → r ≡ s
multiplied_once x y r s p q = same p q

-- gf32_ext::inverse
abbrev pub Inverted : ℕ → Result ℕ Refusal → Type 0
Inverted y r = r ≡ inverse_of y

pub inverted_once : (y : ℕ) (r s : Result ℕ Refusal) → Inverted y r → Inverted y s → r ≡ s
inverted_once y r s p q = same p q

-- gf32_ext::divide
abbrev pub Divided : ℕ → ℕ → Result ℕ Refusal → Type 0
Divided x y r = r ≡ quotient x y

pub divided_once : (x y : ℕ) (r s : Result ℕ Refusal) → Divided x y r → Divided x y s → r ≡ s
divided_once x y r s p q = same p q
