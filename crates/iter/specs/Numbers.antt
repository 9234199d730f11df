-- Document 01, "Answers": a walk's step as numbers. A walk refuses nothing, so the number is 0 in each case; 1 or 0 says whether a value is
-- given, which may be 0 itself. At the end the numbers of the value and of the place are 0, though the walk keeps its place.
use Rattle.std.specs.Prelude.{ℕ, Option, Some, None}

abbrev pub number_of_step : Option ℕ → ℕ
number_of_step (Some v) = 0
number_of_step None = 0

abbrev pub given_of_step : Option ℕ → ℕ
given_of_step (Some v) = 1
given_of_step None = 0

abbrev pub value_of_step : Option ℕ → ℕ
value_of_step (Some v) = v
value_of_step None = 0

-- the place is that of the walk after the step that gave a value
abbrev pub place_of_step : Option ℕ → ℕ → ℕ
place_of_step (Some v) at = at
place_of_step None at = 0
