-- Each turn takes something of the piece.
use Rattle.std.proofs.Common.{length}
use Rattle.checker.proofs.Kept.answer.Given as goal

abbrev pub decreases-loop-rest : goal.decreases-loop-rest
decreases-loop-rest g l = length l.rest
