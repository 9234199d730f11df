-- A product is below 1024, so that it is stored whole.
use mathlib.Core.Path.{◌≡◌}
use Rattle.gf32_ext.specs.Field.{product}
use Rattle.gf32_ext.proofs.Field.{product_lt}
use Rattle.fieldvec.proofs.Stored.{narrowed_whole}
use Rattle.fieldvec.proofs.product.Goals as goal

pub returns : goal.returns
returns c =
    let same : c.multiply.result ≡ product c.args.x c.args.y = cc in
    narrowed_whole same (product_lt _ _) c.narrowed.ensures
