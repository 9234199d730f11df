-- Answers that keep the promise, one of each kind that can be told without a run: 23, 22, "none" and 24.
use mathlib.Core.Path.{refl}
use mathlib.Core.List.{List, [], ◌∷◌}
use Prim.Native.Nat.{ℕ, ◌≤◌}
use native.Mathlib.Nat.{le_refl}
use native.Mathlib.Omega.{arith}
use lib.Dec.{lit<, lit≤}
use lib.ListN.{length, replicate}
use Rattle.numbers.specs.declared.Refusal.TheVariants.{ScratchSmall, WindowOutside, BudgetSpent}
use Rattle.search.specs.Search.{NonePasses}
use Rattle.search.specs.Outcome.{none, refused}
use Rattle.search.specs.Patterns.{changes_of, described}
use Rattle.search.specs.Promises.{Searched}
use Rattle.detection.proofs.Pieces.{avoids_less}
use Rattle.detection.proofs.EightyNine.{clean_four}
use Rattle.search.proofs.Windows.{none_passes_if_clean}
use Rattle.search.proofs.Ran.{searched_outside, searched_small, searched_ran}
use Rattle.search.proofs.Wrong.{steps_88}

pub window_0 : Searched 0 (7 ∷ []) 1000 (refused WindowOutside 0) (7 ∷ [])
window_0 = searched_outside 0 (7 ∷ []) 1000 (λ inside. omega (arith, inside.0))

pub one_word : Searched 88 (7 ∷ []) 1000 (refused ScratchSmall 0) (7 ∷ [])
one_word = searched_small 88 (7 ∷ []) 1000 (lit≤ tt, lit≤ tt) (lit< tt)

none_88 : NonePasses 88
none_88 = none_passes_if_clean 88 (avoids_less 0 88 89 4 4 (lit≤ tt) (le_refl 4) clean_four)

pub none_at_88 : (before : List ℕ) → 65536 ≤ length before → Searched 88 before 1000000000 (none 101977253) (replicate (length before) 0)
none_at_88 before many =
    searched_ran 88 before 1000000000 (lit≤ tt, lit≤ tt) many (none 101977253) (replicate (length before) 0) (none_88, omega (arith, steps_88), lit≤ tt) refl

pub spent_at_88 : (before : List ℕ) → 65536 ≤ length before → Searched 88 before 1000 (refused BudgetSpent 1000) (replicate (length before) 0)
spent_at_88 before many =
    searched_ran 88 before 1000 (lit≤ tt, lit≤ tt) many (refused BudgetSpent 1000) (replicate (length before) 0)
    (refl, refl, omega (arith, steps_88), λ q candidate. absurd (none_88 (described 88 (changes_of q)) candidate.passes)) refl
