-- What a search comes to: a pattern, "none" or a refusal, each with the steps used.
use Rattle.std.specs.Prelude.{ℕ, Option, Some, None, Result, Ok, Err}
use Rattle.numbers.specs.declared.Refusal.{Refusal}
use Rattle.search.specs.declared.Pattern.{Pattern}
use Rattle.search.specs.declared.Outcome.{Outcome}

abbrev pub outcome : Result (Option Pattern) Refusal → ℕ → Outcome
outcome found steps = record { found = found; steps = steps }

abbrev pub shown : Pattern → ℕ → Outcome
shown p = outcome (Ok (Some p))

abbrev pub none : ℕ → Outcome
none = outcome (Ok None)

abbrev pub refused : Refusal → ℕ → Outcome
refused refusal = outcome (Err refusal)
