-- `gf32::add` meets its promise, by the definition.
use mathlib.Core.Path.{refl}
use Rattle.laws.specs.Xor.{◌⊕◌}
use Rattle.gf32.specs.Field.{sum}
use Rattle.gf32.proofs.add.Goals as goal

pub returns : goal.returns
unfolding sum ◌⊕◌
returns c = refl
