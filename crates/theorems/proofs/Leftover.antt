-- Document 01, "Limits": for every n, n program symbols with n mod 8 of 1, 3 or 6 leave 5, 7 or 6 bits, and so 13; any other n leaves at most 4.
use mathlib.Core.Path.{◌≡◌, ap, ◌∙◌}
use mathlib.Core.Logic.{◌↔◌}
use mathlib.Core.Bool.{true}
use mathlib.Core.List.{List, [], ◌∷◌}
use Prim.Native.Nat.{ℕ, ◌*◌, ◌%◌, ◌<◌}
use native.Mathlib.Omega.{arith}
use lib.ListN.{length}
use borrow.Author.Tests.{ltb-true, lt-ltb}
use Rattle.std.specs.Prelude.{Err}
use Rattle.numbers.specs.declared.Refusal.TheVariants.{PaddingLong, PaddingNotZero}
use Rattle.paper.specs.Bits.{padding}
use Rattle.answers.specs.Order.{◌gives◌, NoneApplies, rules_before}
use Rattle.answers.specs.Rules.{padding_long, padding_not_zero, padding_verdict}
use Rattle.answers.specs.Reading.{program_symbols, address_rules, address_verdict}
use Rattle.answers.proofs.Orders.{exactly_gives}
use Rattle.answers.proofs.Refusals.{address_13}
use Rattle.iter.proofs.Lengths.{padding_length}
use Rattle.theorems.specs.Leftover.{LeavesMany}

-- only n mod 8 matters
left_by_eight : (n : ℕ) → n * 5 % 8 ≡ n % 8 * 5 % 8
left_by_eight n = omega arith

module _ (symbols : List ℕ) where
  left : length (padding symbols) ≡ length symbols % 8 * 5 % 8
  left = padding_length symbols ∙ left_by_eight (length symbols)

  pub leaves_5 : length symbols % 8 ≡ 1 → length (padding symbols) ≡ 5
  leaves_5 h = left ∙ ap (λ (k : ℕ). k * 5 % 8) h

  pub leaves_7 : length symbols % 8 ≡ 3 → length (padding symbols) ≡ 7
  leaves_7 h = left ∙ ap (λ (k : ℕ). k * 5 % 8) h

  pub leaves_6 : length symbols % 8 ≡ 6 → length (padding symbols) ≡ 6
  leaves_6 h = left ∙ ap (λ (k : ℕ). k * 5 % 8) h

  many_long : LeavesMany (length symbols) → 4 < length (padding symbols)
  many_long many = grind (arith, left)

  long_many : 4 < length (padding symbols) → LeavesMany (length symbols)
  long_many h = grind (arith, left)

  many_exactly : (padding_long symbols ≡ true) ↔ LeavesMany (length symbols)
  unfolding padding_long
  many_exactly = (
    (λ e. long_many (ltb-true 4 (length (padding symbols)) e)),
    (λ many. lt-ltb 4 (length (padding symbols)) (many_long many)),
  )

  -- asked alone: 13 exactly for such a count
  pub padding_13 : (padding_verdict symbols ≡ Err PaddingLong) ↔ LeavesMany (length symbols)
  unfolding padding_verdict
  padding_13 =
      let first =
      exactly_gives tt PaddingLong (padding_long symbols gives PaddingLong ∷ padding_not_zero symbols gives PaddingNotZero ∷ []) tt in
      (λ e. many_exactly.0 (first.0 e).1, λ many. first.1 (tt, many_exactly.1 many))

-- of an address: 13 exactly for such a count of program symbols, where no rule before it applies
pub address_13_exactly : (s : List ℕ)
    → (address_verdict s ≡ Err PaddingLong) ↔ (NoneApplies (rules_before PaddingLong (address_rules s)) × LeavesMany (length (program_symbols s)))
address_13_exactly s = (
  (λ e. let first = (address_13 s).0 e in (first.0, (many_exactly (program_symbols s)).0 first.1)),
  (λ x. (address_13 s).1 (x.0, (many_exactly (program_symbols s)).1 x.1)),
)
