-- A byte is folded where it is stored.
use Rattle.std.proofs.Common.{arith}
use Rattle.std.specs.Char.{to_ascii_lowercase}
use Rattle.laws.proofs.Front.{map_more}
use Rattle.hrp.proofs.fold.Goals as goal

pub loop-i-preserved : goal.loop-i-preserved
loop-i-preserved c =
    rw (c.to_ascii_lowercase.ensures.value, c.loop-i.invariant)
    (map_more 0 to_ascii_lowercase c.args.prefix.now c.args.out.now c.loop-i.i (omega arith) (omega arith))
