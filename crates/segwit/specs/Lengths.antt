-- When a program's length is accepted, and when it is refused with 15 and 16, in words that name no algorithm.
use Rattle.std.specs.Prelude.{◌≡◌, ◌⊎◌, ℕ, ◌≤◌, ◌<◌}
use Rattle.numbers.specs.declared.Refusal.{Refusal}
use Rattle.numbers.specs.declared.Refusal.TheVariants.{ProgramLength, ProgramLengthVersion0}

-- BIP-173, "Segwit address format": what a program's length must be; the fields are those of paper's ValidAddress
pub record LegalLength (v n : ℕ) : Type 0 where
  pub size : (2 ≤ n) × (n ≤ 40)
  pub size_of_version_0 : v ≡ 0 → (n ≡ 20) ⊎ (n ≡ 32)

-- document 01, answers 15 and 16: what each refusal says
pub data LengthRefusal (v n : ℕ) : Refusal → Type 0 where
  outside : (n < 2) ⊎ (40 < n) → LengthRefusal v n ProgramLength
  not_for_version_0 : 2 ≤ n → n ≤ 40 → v ≡ 0 → (n ≡ 20 → ⊥) → (n ≡ 32 → ⊥) → LengthRefusal v n ProgramLengthVersion0
