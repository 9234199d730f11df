-- The output keeps its room.
use Rattle.std.proofs.Common.{◌≤◌, length}
use Rattle.checker.proofs.run.Given as goal

abbrev pub invariant-loop : goal.invariant-loop
invariant-loop g l = 3 ≤ length l.out
