-- The terms passed are summed up.
use mathlib.Core.Path.{◌≡◌}
use Rattle.polynomial.proofs.Coefficients.{part_sum}
use Rattle.polynomial.proofs.coefficient_of.Given as goal

abbrev pub invariant-loop-i : goal.invariant-loop-i
invariant-loop-i l = l.total ≡ part_sum l.a l.b l.k l.i
