-- What the command-line checker writes for some inputs, computed from the definitions.
use mathlib.Core.Path.{◌≡◌, refl}
use mathlib.Core.List.{[], ◌∷◌, ◌++◌}
use Rattle.laws.specs.Text.{bytes}
use Rattle.answers.proofs.Computing.{computing}
use Rattle.lines.specs.Lines.{lines_of, answer_to, answers_to, output_of}

pub lines_two : output_of (bytes "bc1" ++ 10 ∷ bytes "BC1SW50QGDZ25J" ++ []) ≡ bytes "11" ++ 10 ∷ bytes "0" ++ 10 ∷ []
unfolding computing lines_of answer_to answers_to output_of
lines_two = refl

pub lines_empty : output_of [] ≡ []
unfolding computing lines_of answer_to answers_to output_of
lines_empty = refl

pub lines_empty_line : output_of (10 ∷ []) ≡ bytes "3" ++ 10 ∷ []
unfolding computing lines_of answer_to answers_to output_of
lines_empty_line = refl

-- nothing is trimmed: a carriage return is a character outside the charset
pub lines_return : output_of (bytes "BC1SW50QGDZ25J" ++ 13 ∷ 10 ∷ []) ≡ bytes "1" ++ 10 ∷ []
unfolding computing lines_of answer_to answers_to output_of
lines_return = refl
