-- What a valid string holds, in the papers' words: what the readers hand back.
use Rattle.std.specs.Prelude.{◌≡◌, List, ◌++◌, map, ℕ, length}
use Rattle.paper.specs.Charset.{symbol}
use Rattle.paper.specs.Bits.{to_bytes}
use Rattle.paper.specs.Valid.{ValidString}

-- s is a valid string under this checksum with this prefix, and its data part is `part` and the six characters of the checksum
pub record Holds (constant : ℕ) (s prefix part : List ℕ) : Type 0 where
  pub check : List ℕ
  pub six : length check ≡ 6
  pub valid : ValidString constant 1023 s prefix (part ++ check)

-- s holds n symbols, and n bytes: leftover bits are dropped unlooked
abbrev pub HoldsSymbols : ℕ → List ℕ → ℕ → Type 0
HoldsSymbols constant s n = (prefix : List ℕ) × (part : List ℕ) × Holds constant s prefix part × (length part ≡ n)

abbrev pub HoldsBytes : ℕ → List ℕ → ℕ → Type 0
HoldsBytes constant s n = (prefix : List ℕ) × (part : List ℕ) × Holds constant s prefix part × (length (to_bytes (map symbol part)) ≡ n)
