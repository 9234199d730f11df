-- The paper's step, by its own mask and shift. What carries it: `masked_up`, and what `mix` ensures.
use native.Mathlib.Omega.{arith}
use Rattle.laws.specs.Xor.{◌⊕◌}
use Rattle.paper.specs.Checksum.{step}
use Rattle.checksum.proofs.StepLaws.{masked_up}
use Rattle.checksum.proofs.steps.step.Goals as goal

pub returns : goal.returns
unfolding step ◌⊕◌
returns c = rw (masked_up c.args.residue 25 5 (omega arith), c.from.ensures, c.mix.ensures)
