use Rattle.decode.proofs.Scanning.{one_more, all_passed}
use Rattle.decode.proofs.scan.joined.Goals as goal

pub loop-byte-preserved : goal.loop-byte-preserved
loop-byte-preserved c = one_more _ _ _ _ _ _ c.type_inv.bytes c.in-Some.ensures.steps c.class-classes.ensures c.loop-byte.invariant

pub returns : goal.returns
returns c = all_passed _ _ _ c.in-None.ensures.steps.0 c.loop-byte.invariant
