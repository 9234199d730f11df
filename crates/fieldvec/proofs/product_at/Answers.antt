-- Past the ends stand zeros.
use borrow.Author.Rules.{rules}
use Rattle.gf32_ext.proofs.Field.{product_zero, zero_product}
use Rattle.fieldvec.proofs.product_at.Goals as goal

pub returns : goal.returns
returns c = search (rules, product_zero, zero_product)
