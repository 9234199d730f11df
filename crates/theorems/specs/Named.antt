-- When the locator names a place, and when none, as statements.
use Rattle.std.specs.Prelude.{◌≡◌, ◌⊎◌, List, map, ℕ, ◌<◌, length, Err}
use Rattle.numbers.specs.declared.Refusal.TheVariants.{ChecksumWrong}
use Rattle.paper.specs.Charset.{symbol}
use Rattle.paper.specs.Checksum.{residue}
use Rattle.answers.specs.Reading.{data_part, prefix_part, read_verdict, payload, accepts_parts}
use Rattle.detection.specs.Places.{Explains}

-- what document 01 asks of a place that is named: reading under this checksum says 9, and some change of the symbol there
-- would give the accepting residue
abbrev pub Named : ℕ → List ℕ → ℕ → Type 0
Named constant s p =
    (read_verdict constant s ≡ Err ChecksumWrong) × (p < 1023) × Explains (residue (prefix_part s) (map symbol (data_part s))) constant p

-- and of a string for which none is named, answer 21: reading accepts it, or says 9 and no place explains
abbrev pub Unplaced : ℕ → List ℕ → Type 0
Unplaced constant s =
    (read_verdict constant s ≡ accepts_parts (length (prefix_part s)) (length (payload s)))
    ⊎ ((read_verdict constant s ≡ Err ChecksumWrong) × ((p : ℕ) → p < 1023 → Explains (residue (prefix_part s) (map symbol (data_part s))) constant p → ⊥))
