-- What the public function promises, and that two answers which keep the promise are equal.
use Rattle.std.specs.Prelude.{◌≡◌, Result, List, ℕ}
use Rattle.laws.proofs.Bools.{same}
use Rattle.numbers.specs.declared.Refusal.{Refusal}
use Rattle.checksum.specs.Parameters.{constant_for}
use Rattle.checksum.specs.declared.Checksum.{Checksum}
use Rattle.correction.specs.Locator.{locate_verdict}

-- correction::locate
abbrev pub WasLocated : Checksum → List ℕ → Result ℕ Refusal → Type 0
WasLocated checksum s r = r ≡ locate_verdict (constant_for checksum) s

pub was_located_once : (checksum : Checksum) (s : List ℕ) (r r' : Result ℕ Refusal) → WasLocated checksum s r → WasLocated checksum s r' → r ≡ r'
was_located_once checksum s r r' p q = same p q
