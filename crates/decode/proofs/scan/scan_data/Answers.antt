use Rattle.std.proofs.Common.{◌∙◌, arith}
use Rattle.decode.proofs.Scanning.{none_more, stopped, ended}
use Rattle.decode.proofs.scan.scan_data.Goals as goal

pub loop-at-preserved : goal.loop-at-preserved
loop-at-preserved c = (
  none_more _ _ _ _ _ _ c.type_inv.s c.in-Some.ensures.steps.1.0 c.class-classes.ensures c.if-byte-eq-SEPARATOR.false c.loop-at.invariant.0,
  c.in-Some.ensures.steps.0 ∙ c.loop-at.invariant.1,
)

pub returns-then-byte-eq-SEPARATOR : goal.returns-then-byte-eq-SEPARATOR
returns-then-byte-eq-SEPARATOR c =
    stopped _ _ _ _ _ _ c.in-Some.ensures.steps.1.0 (omega (arith, c.in-Some.ensures.steps.1.1, c.loop-at.invariant.1))
    c.if-byte-eq-SEPARATOR.true c.loop-at.invariant.0

pub returns : goal.returns
returns c = ended _ _ _ c.in-None.ensures.steps.1.0 c.loop-at.invariant.0
