-- `gf32_ext::multiply` meets its promise: it computes as the definition does, by what its callees ensure.
use Rattle.gf32_ext.specs.Field.{product}
use Rattle.gf32_ext.proofs.multiply.Goals as goal

pub returns : goal.returns
unfolding product
returns c = cc
