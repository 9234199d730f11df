-- Once an element is the element.
use mathlib.Core.Path.{◌≡◌, sym, ◌∙◌}
use native.Mathlib.Nat.{mod-eq_of_lt}
use borrow.Author.Rules.{rules}
use Rattle.gf32_ext.proofs.Field.{one_product}
use Rattle.polynomial.proofs.total_of.Goals as goal

pub returns : goal.returns
returns c = c.value_by.ensures 1 (record { times = λ v r small e. let same : r ≡ v = search rules in same ∙ sym (one_product v ∙ mod-eq_of_lt small) })
