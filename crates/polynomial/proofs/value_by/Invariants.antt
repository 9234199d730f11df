-- The value of what was passed, as a polynomial of its own.
use mathlib.Core.Path.{◌≡◌}
use Prim.Native.Nat.{ℕ, ◌-◌}
use lib.ListN.{length, drop}
use Rattle.polynomial.specs.Polynomials.{value_at, MultipliesBy}
use Rattle.polynomial.proofs.value_by.Given as goal

abbrev pub invariant-loop-c : goal.invariant-loop-c
invariant-loop-c g l = (x : ℕ) → MultipliesBy (goal.F-post g l.times_x) x → l.value ≡ value_at (drop (length l.s - length l.yielded) l.s) x
