-- A residue that takes in what a function makes of each byte.
use Rattle.std.specs.Prelude.{◌≡◌, List, map, ℕ}
use Rattle.paper.specs.Checksum.{polymod}

-- where each call that gives r for a byte has r ≡ of byte, the symbols are those of `of`
abbrev pub TookEach : (ℕ → ℕ → Type 0) → ℕ → List ℕ → ℕ → Type 0
TookEach Gives start bytes r =
    (of : ℕ → ℕ) → ((byte symbol : ℕ) → Gives byte symbol → symbol ≡ of byte) → r ≡ polymod start (map of bytes)
