-- `search::walk` and `search::try_symbols` call each other: proofs/Turns.antt and proofs/Symbols.antt say what each loop knows. A walk has one
-- change less in each call of the other, so twice their number is the measure.
use Rattle.std.proofs.Common.{◌≡◌, ◌+◌}
use Rattle.search.proofs.Turns.{Passed}
use Rattle.search.proofs.Symbols.{Tested}
use Rattle.search.proofs.+try_symbols_walk.Given as goal

abbrev pub decreases-try_symbols : goal.decreases-try_symbols
decreases-try_symbols l = l.changes + l.changes + 1

abbrev pub decreases-walk : goal.decreases-walk
decreases-walk l = l.changes + l.changes

abbrev pub invariant-try_symbols-loop-symbol : goal.invariant-try_symbols-loop-symbol
invariant-try_symbols-loop-symbol l =
    Tested l.changes l.residue l.place l.fn.steps.used l.symbol l.steps.used × (l.steps.budget ≡ l.fn.steps.budget)

abbrev pub invariant-walk-places : goal.invariant-walk-places
invariant-walk-places l =
    Passed l.changes l.start l.places l.fn.steps.used l.residue l.place l.steps.used × (l.steps.budget ≡ l.fn.steps.budget)
