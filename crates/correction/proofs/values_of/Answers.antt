-- `values_of`: the values of the difference's polynomial are those of the difference.
use Rattle.checksum.specs.Parameters.{constant_for}
use Rattle.correction.proofs.Elements.{root_24, root_25, root_26, syndrome}
use Rattle.correction.proofs.values_of.Goals as goal

pub returns : goal.returns
returns c =
    let constant = constant_for c.args.checksum in
    let difference = rw c.constant.ensures at c.from_residue-difference.ensures in
    record {
      at_24 = syndrome c.args.residue constant 24 difference root_24 c.value_at.ensures;
      at_25 = syndrome c.args.residue constant 25 difference root_25 c.value_at-2.ensures;
      at_26 = syndrome c.args.residue constant 26 difference root_26 c.value_at-3.ensures;
    }
