-- Document 01, "Answers": a truth as a number, 1 for true and 0 for false, and 0 on a refusal.
use Rattle.std.specs.Prelude.{Bool, false, Result, ℕ}
use Rattle.std.specs.Result.{result_unwrap_or}
use Rattle.laws.specs.Pick.{pick}
use Rattle.numbers.specs.declared.Refusal.{Refusal}

abbrev pub truth_in : Result Bool Refusal → ℕ
truth_in r = pick (result_unwrap_or r false) 1 0
