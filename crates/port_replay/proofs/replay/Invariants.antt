-- Each case takes a byte or more.
use Rattle.std.proofs.Common.{length}
use Rattle.port_replay.proofs.replay.Given as goal

abbrev pub decreases-loop-case : goal.decreases-loop-case
decreases-loop-case g l = length l.rest
