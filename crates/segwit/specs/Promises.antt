-- What each function promises, and that only one answer meets it.
use Rattle.std.specs.Prelude.{◌≡◌, ℕ}
use Rattle.laws.proofs.Bools.{same}
use Rattle.answers.specs.Rules.{version_verdict, length_verdict}
use Rattle.numbers.specs.declared.Refusal.{Refusal}
use Rattle.std.specs.Prelude.{Result, ⊤}

-- segwit::check_version
abbrev pub VersionChecked : ℕ → Result ⊤ Refusal → Type 0
VersionChecked version r = r ≡ version_verdict version

pub version_checked_once : (version : ℕ) (r s : Result ⊤ Refusal) → VersionChecked version r → VersionChecked version s → r ≡ s
version_checked_once version r s p q = same p q

-- segwit::check_program_length
abbrev pub ProgramLengthChecked : ℕ → ℕ → Result ⊤ Refusal → Type 0
ProgramLengthChecked version n r = r ≡ length_verdict version n

pub program_length_checked_once : (version n : ℕ) (r s : Result ⊤ Refusal) → ProgramLengthChecked version n r → ProgramLengthChecked version n s → r ≡ s
program_length_checked_once version n r s p q = same p q
