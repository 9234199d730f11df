-- What each public function promises, and that two answers which keep the promise are equal.
use Rattle.std.specs.Prelude.{◌≡◌, ℕ, Result}
use Rattle.std.proofs.Common.{sym, ◌∙◌}
use Rattle.numbers.specs.declared.Refusal.{Refusal}
use Rattle.numbers.specs.Numbers.{number_in}

-- numbers::number_in
abbrev pub NumberGiven : {A : Type 0} → Result A Refusal → ℕ → Type 0
NumberGiven answer r = r ≡ number_in answer

pub number_given_once : {A : Type 0} (answer : Result A Refusal) (r s : ℕ) → NumberGiven answer r → NumberGiven answer s → r ≡ s
number_given_once answer r s p q = p ∙ sym q
