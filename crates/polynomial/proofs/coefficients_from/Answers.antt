-- Coefficients of a product, and zeros (proofs/Coefficients.antt).
use mathlib.Core.Path.{ap, ◌∙◌}
use Prim.Native.Nat.{ℕ, ◌+◌, ◌%◌}
use native.Mathlib.Nat.{mod-eq_of_lt}
use native.Mathlib.Omega.{arith}
use borrow.Author.Rules.{rules}
use borrow.Author.Tests.{tests}
use lib.Dec.{ltb}
use Rattle.laws.specs.Pick.{pick}
use Rattle.polynomial.specs.Products.{coefficient}
use Rattle.polynomial.proofs.Coefficients.{coefficient_lt, from_made}
use Rattle.fieldvec.proofs.Made.{from_fn_at}
use Rattle.polynomial.proofs.coefficients_from.Goals as goal

pub returns : goal.returns
returns c =
    let at = from_fn_at _ (λ j. pick (ltb j c.args.n) (coefficient c.args.a.now c.args.b.now (c.args.d + j) % 1024) 0) _ (λ i r q e. search (rules, tests)) c.from_fn.result 7 c.from_fn.ensures.items in
    from_made c.args.a.now c.args.b.now c.args.d c.args.n c.from_fn.result c.from_fn.ensures.items.long (omega arith)
    (λ j h. at j h ∙ ap (λ (v : ℕ). pick (ltb j c.args.n) v 0) (mod-eq_of_lt (coefficient_lt _ _ _)))
