-- The six symbols of the constant, two at a time. What carries it: `six_steps`.
use Rattle.checksum.proofs.Six.{six_steps}
use Rattle.checksum.proofs.Engine.input_target.Goals as goal

pub returns : goal.returns
returns c =
    six_steps c.args.self.residue c.constant-target.result
    c.unpack.ensures c.unpack-2.ensures
    c.unpack-3.ensures c.unpack-4.ensures
    c.unpack-5.ensures c.unpack-6.ensures
    c.step_twice-two.ensures c.step_twice-four.ensures c.step_twice.ensures
    c.constant-target.ensures
