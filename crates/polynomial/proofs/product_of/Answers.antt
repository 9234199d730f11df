-- The product of two polynomials, or that it is too long (proofs/Coefficients.antt).
use mathlib.Core.Path.{sym, ap, ◌∙◌}
use mathlib.Core.List.{◌++◌}
use Prim.Native.Nat.{ℕ, ◌-◌}
use lib.ListN.{replicate}
use Rattle.std.specs.Prelude.{Ok}
use Rattle.polynomial.specs.Products.{coefficients_from}
use Rattle.polynomial.proofs.Coefficients.{product_long, product_fits}
use Rattle.polynomial.proofs.product_of.Goals as goal

pub returns-then-rest_is_zero : goal.returns-then-rest_is_zero
returns-then-rest_is_zero c =
    ap Ok c.trimmed_list.ensures
    ∙ product_fits c.args.a.now c.args.b.now c.args.d c.min-n.result c.min-n.ensures c.coefficients_from.result
    (sym c.rest_is_zero.ensures ∙ c.if-rest_is_zero.true)
    (c.coefficients_from.ensures ∙ ap (λ (m : ℕ). coefficients_from c.args.a.now c.args.b.now 0 m ++ replicate (7 - m) 0) c.min.ensures)

pub returns-else-rest_is_zero : goal.returns-else-rest_is_zero
returns-else-rest_is_zero c =
    product_long c.args.a.now c.args.b.now c.args.d c.min-n.result c.min-n.ensures (sym c.rest_is_zero.ensures ∙ c.if-rest_is_zero.false)
