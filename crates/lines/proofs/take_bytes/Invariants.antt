-- `take_bytes` goes through the input as the definition does.
-- The invariant: what is left of the input, from where the loop stands, gives what the whole input gives from the start.
use Prim.Native.Nat.{◌≤◌}
use mathlib.Core.Path.{◌≡◌}
use lib.ListN.{length, drop}
use Rattle.lines.specs.Feeding.{standing, fed_from}
use Rattle.lines.proofs.take_bytes.Given as goal

abbrev pub invariant-loop-taken : goal.invariant-loop-taken
invariant-loop-taken l =
    (fed_from (drop l.taken l.input) (standing l.taken l.kept.line.now l.kept.len l.out l.written)
    ≡ fed_from l.input (standing 0 l.initial.kept.line.now l.initial.kept.len l.initial.out 0))
    × (l.kept.line.ghost_name ≡ l.initial.kept.line.ghost_name)
    × (l.written ≤ length l.out)
