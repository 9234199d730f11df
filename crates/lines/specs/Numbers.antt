-- What a piece's answer is to a caller that knows no enums: its number and values, zero with a refusal.
use Rattle.std.specs.Prelude.{ℕ, Result, Ok, Err}
use Rattle.numbers.specs.declared.Refusal.{Refusal}
use Rattle.numbers.specs.Numbers.{number_in}
use Rattle.lines.specs.declared.Fed.{Fed}

abbrev pub number_of_fed : Result Fed Refusal → ℕ
number_of_fed r = number_in r

unfoldable pub taken_of_fed : Result Fed Refusal → ℕ
taken_of_fed (Ok fed) = fed.taken
taken_of_fed (Err refusal) = 0

unfoldable pub written_of_fed : Result Fed Refusal → ℕ
written_of_fed (Ok fed) = fed.written
written_of_fed (Err refusal) = 0

unfoldable pub len_of_fed : Result Fed Refusal → ℕ
len_of_fed (Ok fed) = fed.len
len_of_fed (Err refusal) = 0
