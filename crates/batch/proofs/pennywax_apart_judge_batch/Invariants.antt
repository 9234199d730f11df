-- The entries before the index are judged, and the others are as they were.
use Rattle.std.proofs.Common.{◌≡◌, map}
use Rattle.laws.proofs.Front.{front}
use Rattle.batch.specs.Batch.{judged}
use Rattle.batch.proofs.pennywax_apart_judge_batch.Given as goal

abbrev pub invariant-loop-entry : goal.invariant-loop-entry
invariant-loop-entry l = l.entries ≡ front (map (judged l.buffer) l.initial.entries) l.initial.entries l.entry-index
