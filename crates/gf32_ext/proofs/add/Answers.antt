-- `gf32_ext::add` meets its promise: coefficients added each for itself are ten bits added at once.
use mathlib.Core.Path.{sym}
use Rattle.laws.specs.Xor.{◌⊕◌}
use Rattle.gf32_ext.proofs.Field.{sum_is}
use Rattle.gf32_ext.proofs.add.Goals as goal

pub returns : goal.returns
unfolding ◌⊕◌
returns c = sym (sum_is c.args.x c.args.y)
