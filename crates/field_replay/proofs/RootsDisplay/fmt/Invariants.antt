-- The next exponent is past the one found, and at most 1023.
use Rattle.std.proofs.Common.{◌-◌, ◌≤◌}
use Rattle.field_replay.proofs.RootsDisplay.fmt.Given as goal

abbrev pub invariant-loop-e : goal.invariant-loop-e
invariant-loop-e g l = l.from ≤ 1023

abbrev pub decreases-loop-e : goal.decreases-loop-e
decreases-loop-e g l = 1023 - l.from
