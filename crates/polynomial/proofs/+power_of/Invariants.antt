-- Each call asks for the half.
use Rattle.polynomial.proofs.+power_of.Given as goal

abbrev pub decreases-power_of : goal.decreases-power_of
decreases-power_of l = l.n
