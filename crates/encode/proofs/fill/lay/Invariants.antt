-- The symbols before the index are there, the others are as they were.
use Rattle.std.proofs.Common.{◌≡◌}
use Rattle.laws.proofs.Front.{front}
use Rattle.encode.proofs.fill.lay.Given as goal

abbrev pub invariant-loop-i : goal.invariant-loop-i
invariant-loop-i l = l.place ≡ front l.symbols l.initial.place l.i
