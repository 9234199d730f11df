-- `finish` makes the string around the symbols: each step is one of the lists that `string_written` joins.
use native.Mathlib.Omega.{arith}
use Prim.Native.Nat.{◌+◌, ◌-◌}
use lib.ListN.{length}
use Rattle.checksum.specs.Parameters.{constant_for}
use Rattle.encode.proofs.Filling.{prefix_put, string_written}
use Rattle.encode.proofs.fill.Frame.finish.Goals as goal

pub unwrap-requires : goal.unwrap-requires
unwrap-requires c =
    let a = c.args in
    prefix_put (constant_for a.self.checksum) a.self.prefix.now a.count a.out.now c.requires.0 c.requires.1
    c.check_residue-residue.result (length a.self.prefix.now + 1 + a.count - (length a.self.prefix.now + 1)) (omega arith) c.check_residue-residue.ensures
    c.put_data.new.part c.put_data.ensures
    c.to_lower.result c.to_lower.new.out c.to_lower.ensures

pub returns : goal.returns
returns c =
    let a = c.args in
    string_written (constant_for a.self.checksum) a.self.prefix.now a.count a.out.now c.requires.0 c.requires.1
    c.check_residue-residue.result (length a.self.prefix.now + 1 + a.count - (length a.self.prefix.now + 1)) (omega arith) c.check_residue-residue.ensures
    c.put_data.new.part c.put_data.ensures
    c.to_lower.result c.to_lower.new.out c.to_lower.ensures
