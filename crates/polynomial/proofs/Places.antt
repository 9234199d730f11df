-- The degree, found from the end: the last place of a coefficient other than zero.
use mathlib.Core.Path.{◌≡◌, refl, sym, ap}
use mathlib.Core.Bool.{Bool, true, false}
use mathlib.Core.List.{List, [], ◌∷◌}
use Prim.Native.Nat.{ℕ, zero, suc, ◌%◌, ◌<◌, ◌≤◌}
use native.Mathlib.Nat.{not-suc-le-zero, le_of_suc-le-suc}
use native.Mathlib.Omega.{arith}
use borrow.Author.Tests.{eq-eqb, ne_eqb}
use lib.ListN.{length, drop, get_or}
use Rattle.std.specs.Prelude.{◌≢◌, Option, Some, None, MatchOption, EachIndex, slice_index}
use Rattle.std.specs.Option.{unwrap_or}
use Rattle.laws.specs.Pick.{pick}
use Rattle.laws.specs.Lists.{all}
use Rattle.laws.proofs.Bools.{and_false}
use Rattle.polynomial.specs.Polynomials.{is_zero, degree}

-- a test that fails somewhere fails for the whole list
pub not_all : (q : ℕ → Bool) (cs : List ℕ) (i : ℕ) → i < length cs → q (get_or cs i 0) ≡ false → all q cs ≡ false
not_all q [] i h e = absurd (not-suc-le-zero h)
not_all q (c ∷ cs) zero h e = rw e
not_all q (c ∷ cs) (suc i) h e = rw (not_all q cs i (le_of_suc-le-suc h) e) (and_false (q c))

pub degree_at : (cs : List ℕ) (n : ℕ) → n < length cs → (get_or cs n 0 % 1024 ≡ 0 → ⊥) → all is_zero (drop (suc n) cs) ≡ true → degree cs ≡ n
unfolding degree
degree_at [] n h d e = absurd (not-suc-le-zero h)
degree_at (c ∷ cs) zero h d e = rw e
degree_at (c ∷ cs) (suc n) h d e =
    rw (not_all is_zero cs n (le_of_suc-le-suc h) (ne_eqb (get_or cs n 0 % 1024) 0 d)) (ap suc (degree_at cs n (le_of_suc-le-suc h) d e))

pub degree_none : (cs : List ℕ) → all is_zero (drop 1 cs) ≡ true → degree cs ≡ 0
unfolding degree
degree_none [] e = refl
degree_none (c ∷ cs) e = rw e

picked_le : (t : Bool) (m n : ℕ) → m ≤ n → pick t 0 (suc m) ≤ suc n
picked_le true m n h = omega arith
picked_le false m n h = omega arith

pub degree_le : (cs : List ℕ) → degree cs ≤ length cs
unfolding degree
degree_le [] = omega arith
degree_le (c ∷ cs) = picked_le (all is_zero cs) (degree cs) (length cs) (degree_le cs)

-- a test that passes from a place on
pub all_after : (q : ℕ → Bool) (s : List ℕ) (n : ℕ) → ((k : ℕ) → n ≤ k → k < length s → q (get_or s k 0) ≡ true) → all q (drop n s) ≡ true
all_after q [] zero h = refl
all_after q [] (suc n) h = refl
all_after q (c ∷ cs) zero h = rw (h 0 (omega arith) (omega arith)) (all_after q cs 0 (λ k _ l. h (suc k) (omega arith) (omega arith)))
all_after q (c ∷ cs) (suc n) h = all_after q cs n (λ k m l. h (suc k) (omega arith) (omega arith))

-- the last place of a list at which `of` is not zero, if there is one
abbrev pub LastOf : (ℕ → ℕ) → List ℕ → Option ℕ → Type 0
LastOf of l r =
    MatchOption r (EachIndex l (λ k. of (slice_index l k) ≡ 0))
    (λ i. (i < length l) × (of (slice_index l i) ≢ 0) × ((k : ℕ) → i < k → k < length l → of (slice_index l k) ≡ 0))

-- the degree is that place
pub degree_last : (cs : List ℕ) (r : Option ℕ) → LastOf (λ v. v % 1024) cs r → unwrap_or r 0 ≡ degree cs
degree_last cs None h = sym (degree_none cs (all_after is_zero cs 1 (λ k _ l. eq-eqb (get_or cs k 0 % 1024) 0 (h k l))))
degree_last cs (Some i) h =
    sym (degree_at cs i h.0 h.1 (all_after is_zero cs (suc i) (λ k m l. eq-eqb (get_or cs k 0 % 1024) 0 (h.2 k m l))))
