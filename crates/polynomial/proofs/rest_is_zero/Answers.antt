-- Whether nothing stands from the seventh place on.
use mathlib.Core.Path.{refl, ◌∙◌}
use Prim.Native.Nat.{ℕ, ◌-◌}
use borrow.Author.Rules.{rules}
use borrow.Author.Tests.{tests}
use Rattle.std.proofs.lemmas.Iterator.{YieldsList-from_range}
use Rattle.std.proofs.lemmas.Iterator.Search.{all_from_yields_List}
use Rattle.polynomial.specs.Products.{coefficient}
use Rattle.polynomial.proofs.Trim.{none}
use Rattle.polynomial.proofs.Coefficients.{from_tested}
use Rattle.polynomial.proofs.rest_is_zero.Goals as goal

pub returns : goal.returns
returns c =
    all_from_yields_List (λ (k : ℕ). none (coefficient c.args.a.now c.args.b.now k)) c.all.new.self _ _ c.all.ensures.ran
    (YieldsList-from_range 7 c.args.n (c.args.n - 7) refl refl)
    (λ x b q k. search (rules, tests))
    ∙ from_tested c.args.a.now c.args.b.now c.args.n
