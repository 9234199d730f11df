-- What the code computes of a residue: the values, at the three roots of the generator, of what parts it from the constant.
use Rattle.std.specs.Prelude.{◌≡◌, ℕ}
use Rattle.laws.specs.Xor.{◌⊕◌}
use Rattle.detection.specs.Roots.{value}
use Rattle.correction.specs.declared.Values.{Values}

pub record ValuesOf (residue constant : ℕ) (values : Values) : Type 0 where
  pub at_24 : values.at_24 ≡ value 24 (residue ⊕ constant)
  pub at_25 : values.at_25 ≡ value 25 (residue ⊕ constant)
  pub at_26 : values.at_26 ≡ value 26 (residue ⊕ constant)
