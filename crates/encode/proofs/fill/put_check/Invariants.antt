-- The symbols before the index are there, the others are as they were.
use Rattle.std.proofs.Common.{◌≡◌}
use Rattle.laws.proofs.Front.{front}
use Rattle.paper.specs.Checksum.{six_symbols}
use Rattle.encode.proofs.fill.put_check.Given as goal

abbrev pub invariant-loop-i : goal.invariant-loop-i
invariant-loop-i l = l.place ≡ front (six_symbols l.residue) l.initial.place l.i
