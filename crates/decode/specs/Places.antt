-- Document 01, "Forms we want to read": a part of the caller's buffer, not a copy. A slice points into a block of memory, at an offset.
use Rattle.std.specs.Prelude.{◌≡◌, List, ℕ, ◌+◌, ◌≤◌, length, take, drop, Result, Ok, Err}
use Rattle.numbers.specs.declared.Refusal.{Refusal}
use Rattle.answers.specs.declared.Parts.{Parts}

abbrev pub Place : Type 0
Place = ℕ × ℕ

-- so many bytes further on in the same block
abbrev pub further : Place → ℕ → Place
further place n = (place.0, n + place.1)

-- where a part starts in the string; on a refusal the empty part lies at the string's start
abbrev pub start_of : Result Parts Refusal → ℕ → ℕ
start_of (Ok parts) start = start
start_of (Err refusal) start = 0

-- a part of a string that lies in the string's block: its bytes are those that the string has there
pub record PartOf (lent : Place) (s : List ℕ) (at : Place) (r : List ℕ) : Type 0 where
  pub offset : ℕ
  pub there : at ≡ further lent offset
  pub inside : offset + length r ≤ length s
  pub bytes : r ≡ take (length r) (drop offset s)
