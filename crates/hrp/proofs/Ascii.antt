-- The library's words for case, as the definitions have them.
use mathlib.Core.Path.{◌≡◌, refl, sym, ap₂, ◌∙◌}
use mathlib.Core.Logic.{◌↔◌}
use mathlib.Core.Bool.{Bool, true, false}
use mathlib.Core.List.{List, [], ◌∷◌, map}
use Prim.Native.Nat.{ℕ}
use Rattle.std.specs.Prelude.{IsTrue}
use Rattle.std.specs.Char.{to_ascii_lowercase}
use Rattle.std.specs.Ordering.{nat_cmp}
use Rattle.std.specs.Cmp.Lexicographic.{slice_cmp}
use Rattle.std.proofs.lemmas.Str.Ascii.{lowercase_is}
use Rattle.paper.specs.Charset.{lower}
use Rattle.hrp.specs.Compare.{same_case_aside, order_case_aside}
use Rattle.hrp.proofs.Case.{by_case}
use Rattle.hrp.proofs.Ordering.{same_exactly}

ascii_lower : (c : ℕ) → to_ascii_lowercase c ≡ lower c
ascii_lower c = by_case (λ x. to_ascii_lowercase c ≡ x) c (λ h k. (lowercase_is c).0 (h, k)) (λ h. (lowercase_is c).1 h) (λ h. (lowercase_is c).2 h)

pub ascii_folded : (p : List ℕ) → map to_ascii_lowercase p ≡ map lower p
ascii_folded [] = refl
ascii_folded (c ∷ cs) = ap₂ (λ (x : ℕ) (xs : List ℕ). x ∷ xs) (ascii_lower c) (ascii_folded cs)

-- equality case aside
pub same_folded : (a b : List ℕ) (r : Bool) → IsTrue r ↔ (map to_ascii_lowercase a ≡ map to_ascii_lowercase b) → r ≡ same_case_aside a b
same_folded a b r h = by r (same_case_aside a b) h (same_exactly a b)
  where
    by : (r s : Bool) → IsTrue r ↔ (map to_ascii_lowercase a ≡ map to_ascii_lowercase b) → s ≡ true ↔ map lower a ≡ map lower b → r ≡ s
    by true true h k = refl
    by false false h k = refl
    by true false h k = sym (k.1 (sym (ascii_folded a) ∙ h.0 refl ∙ ascii_folded b))
    by false true h k = h.1 (ascii_folded a ∙ k.0 refl ∙ sym (ascii_folded b))

-- the order
pub folded_order : (a b : List ℕ) → slice_cmp nat_cmp (map to_ascii_lowercase a) (map to_ascii_lowercase b) ≡ order_case_aside a b
unfolding order_case_aside
folded_order a b = ap₂ (slice_cmp nat_cmp) (ascii_folded a) (ascii_folded b)
