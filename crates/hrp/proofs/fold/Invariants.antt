-- The bytes before the index are folded, the others are as they were.
use Rattle.std.proofs.Common.{◌≡◌, map}
use Rattle.std.specs.Char.{to_ascii_lowercase}
use Rattle.laws.proofs.Front.{front}
use Rattle.hrp.proofs.fold.Given as goal

abbrev pub invariant-loop-i : goal.invariant-loop-i
invariant-loop-i l = l.out ≡ front (map to_ascii_lowercase l.prefix) l.initial.out l.i
