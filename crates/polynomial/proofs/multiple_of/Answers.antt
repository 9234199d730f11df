-- A multiple in characteristic 2.
use mathlib.Core.Path.{sym}
use Rattle.polynomial.proofs.Values.{multiple_even, multiple_odd}
use Rattle.polynomial.proofs.multiple_of.Goals as goal

pub returns-then-n-eq0 : goal.returns-then-n-eq0
returns-then-n-eq0 c = sym (multiple_even c.args.n c.args.c c.if-n-eq0.true)

pub returns-else-n-eq0 : goal.returns-else-n-eq0
returns-else-n-eq0 c = sym (multiple_odd c.args.n c.args.c c.if-n-eq0.false)
