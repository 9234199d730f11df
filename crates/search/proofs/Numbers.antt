-- The search's answer as numbers, case by case: what each result is for a pattern, for "none" and for a refusal.
use mathlib.Core.Path.{◌≡◌, refl}
use mathlib.Core.Logic.{◌≢◌}
use mathlib.Core.List.{[], ◌∷◌}
use Prim.Native.Nat.{ℕ}
use borrow.Author.Tests.{ne_eqb}
use Rattle.numbers.specs.Numbers.{number_of}
use Rattle.numbers.specs.declared.Refusal.{Refusal}
use Rattle.numbers.specs.declared.Refusal.TheVariants.{BudgetSpent}
use Rattle.search.specs.declared.Pattern.{Pattern}
use Rattle.search.specs.Patterns.{change, pattern_of}
use Rattle.search.specs.Outcome.{shown, none, refused}
use Rattle.search.specs.Numbers.{number_of_found, pattern_of_found, steps_of_found}

pub of_a_pattern : (p : Pattern) (steps : ℕ)
    → (number_of_found (shown p steps) ≡ 0) × (pattern_of_found (shown p steps) ≡ p) × (steps_of_found (shown p steps) ≡ steps)
of_a_pattern p steps = (refl, refl, refl)

pub of_none : (steps : ℕ)
    → (number_of_found (none steps) ≡ 0) × (pattern_of_found (none steps) ≡ pattern_of []) × (steps_of_found (none steps) ≡ steps)
of_none steps = (refl, refl, refl)

-- the steps are kept with 24 alone
pub of_24 : (steps : ℕ)
    → (number_of_found (refused BudgetSpent steps) ≡ 24) × (pattern_of_found (refused BudgetSpent steps) ≡ pattern_of []) × (steps_of_found (refused BudgetSpent steps) ≡ steps)
of_24 steps = (refl, refl, refl)

pub of_a_refusal : (refusal : Refusal) (steps : ℕ) → number_of refusal ≢ 24
    → (number_of_found (refused refusal steps) ≡ number_of refusal) × (pattern_of_found (refused refusal steps) ≡ pattern_of [])
    × (steps_of_found (refused refusal steps) ≡ 0)
of_a_refusal refusal steps other = (refl, refl, rw (ne_eqb (number_of refusal) 24 other))

-- no pattern: all zeros
pub of_no_pattern : pattern_of [] ≡ record { count = 0; changes = change 0 0 ∷ change 0 0 ∷ change 0 0 ∷ change 0 0 ∷ [] }
of_no_pattern = refl
