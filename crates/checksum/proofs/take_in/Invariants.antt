-- What is left of the bytes takes the residue to where all of them take the start.
use Rattle.std.proofs.Common.{◌≡◌, ℕ, map, length}
use Rattle.paper.specs.Checksum.{polymod}
use Rattle.checksum.proofs.take_in.Given as goal

abbrev pub invariant-loop-left : goal.invariant-loop-left
invariant-loop-left g l =
    (of : ℕ → ℕ) → ((byte symbol : ℕ) → goal.F-post g l.symbol_of byte symbol → symbol ≡ of byte)
    → polymod l.residue (map of l.left) ≡ polymod l.fn.start (map of l.fn.bytes)

abbrev pub decreases-loop-left : goal.decreases-loop-left
decreases-loop-left g l = length l.left
