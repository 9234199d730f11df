-- Two ranges of memory, each the address of its first byte and how many bytes it has, as numbers without bound. What is told of them is 0 if they lie apart,
-- else answer 37. A range of no bytes lies apart from all others. One that reaches past the top of the address space is no memory, and counts as overlapping.
use Rattle.std.specs.Prelude.{◌⊎◌, ℕ, ◌+◌, ◌≤◌, ◌<◌, eqb, leb, ltb}
use Rattle.laws.specs.Pick.{pick}

-- the address x is that of one of the range's bytes
abbrev pub LiesIn : ℕ → ℕ → ℕ → Type 0
LiesIn x start count = (start ≤ x) × (x < start + count)

-- how many addresses there are
abbrev pub top : ℕ
top = 18446744073709551616

-- m bytes at a and n bytes at b are no good together: both have bytes, and one of them reaches past the top or they share an address
abbrev pub Meeting : ℕ → ℕ → ℕ → ℕ → Type 0
Meeting a m b n = (0 < m) × (0 < n) × ((top < a + m) ⊎ ((top < b + n) ⊎ ((x : ℕ) × LiesIn x a m × LiesIn x b n)))

-- m bytes at a, and n bytes at b
unfoldable pub overlap_number : ℕ → ℕ → ℕ → ℕ → ℕ
overlap_number a m b n =
    pick (eqb m 0) 0
    (pick (eqb n 0) 0
    (pick (ltb top (a + m)) 37
    (pick (ltb top (b + n)) 37
    (pick (leb (a + m) b) 0
    (pick (leb (b + n) a) 0
    37)))))
