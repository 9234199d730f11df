-- A string taken apart at its last separator: the Rust's UncheckedHrpstring, as a record of two lengths beside the caller's slice (document 01,
-- "What must change shape").
use Rattle.std.specs.Prelude.{List, ℕ, length, Result}
use Rattle.answers.specs.Order.{first_of}
use Rattle.answers.specs.Reading.{string_rules, prefix_part, data_part, as_parts}
use Rattle.numbers.specs.declared.Refusal.{Refusal}
use Rattle.answers.specs.declared.Parts.{Parts}

-- how long the prefix is, and how many characters the data part has
unfoldable pub parts_of : List ℕ → Parts
parts_of s = as_parts (length (prefix_part s)) (length (data_part s))

-- answers 1 to 6, before any checksum is looked at
unfoldable pub split_verdict : List ℕ → Result Parts Refusal
split_verdict s = first_of (string_rules s) (parts_of s)
