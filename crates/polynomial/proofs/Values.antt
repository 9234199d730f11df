-- The value of a polynomial: Horner's rule gives the sum of c_i x^i; the values at 0 and at 1; and multiples in characteristic 2.
use mathlib.Core.Path.{◌≡◌, refl, sym, ap, ap₂, ◌∙◌}
use mathlib.Core.Bool.{Bool, true, false}
use mathlib.Core.List.{List, [], ◌∷◌}
use Prim.Native.Nat.{ℕ, zero, suc, ◌+◌, ◌-◌, ◌%◌, ◌<◌, ◌≤◌}
use native.Mathlib.Nat.{mod-eq_of_lt, add-zero, add-suc, suc-add, add_comm, not-suc-le-zero, le_of_suc-le-suc}
use native.Mathlib.Omega.{arith}
use borrow.Author.Tests.{ltb-true, ltb-false}
use lib.Dec.{lit<, ltb}
use lib.ListN.{length, drop, get_or, length-drop, get_or-eq_default}
use lib.Seq.{drop-cons, get_or-drop}
use Rattle.gf32_ext.specs.Field.{sum, product, power}
use Rattle.gf32_ext.proofs.Field.{sum_lt, sum_comm, sum_assoc, sum_self, sum_zero, zero_sum, sum_mod_left, product_sum, product_zero, zero_product, product_one, one_product, product_left_comm}
use Rattle.gf32_ext.proofs.Powers.{power_none, power_more}
use Rattle.polynomial.specs.Polynomials.{value_from, value_at, multiple, multiples}

-- ---- Horner's rule

value_shifted : (k : ℕ) (cs : List ℕ) (x : ℕ) → value_from (suc k) cs x ≡ product x (value_from k cs x)
unfolding value_from
value_shifted k [] x = sym (product_zero x)
value_shifted k (c ∷ cs) x =
    ap₂ sum (ap (product c) (power_more x k) ∙ product_left_comm c x (power x k)) (value_shifted (suc k) cs x)
    ∙ sym (product_sum x (product c (power x k)) (value_from (suc k) cs x))

pub value_none : (x : ℕ) → value_at [] x ≡ 0
unfolding value_at value_from
value_none x = refl

pub value_cons : (c : ℕ) (cs : List ℕ) (x : ℕ) → value_at (c ∷ cs) x ≡ sum (product x (value_at cs x)) c
unfolding value_at value_from
value_cons c cs x =
    ap₂ sum (ap (product c) (power_none x) ∙ product_one c) (value_shifted 0 cs x)
    ∙ sum_mod_left c (product x (value_from 0 cs x)) ∙ sum_comm c (product x (value_from 0 cs x))

pub value_lt : (cs : List ℕ) (x : ℕ) → value_at cs x < 1024
value_lt [] x = rw (value_none x) (lit< tt)
value_lt (c ∷ cs) x = rw (value_cons c cs x) (sum_lt (product x (value_at cs x)) c)

-- one turn of a loop that goes from the highest coefficient down
pub value_more : (s : List ℕ) (n x : ℕ) → 0 < n → n ≤ length s → sum (product x (value_at (drop n s) x)) (get_or s (n - 1) 0) ≡ value_at (drop (n - 1) s) x
value_more s n x h k =
    let e : n ≡ suc (n - 1) = omega arith in
    ap (λ (m : ℕ). sum (product x (value_at (drop m s) x)) (get_or s (n - 1) 0)) e
    ∙ sym (ap (λ (l : List ℕ). value_at l x) (drop-cons s (n - 1) 0 (omega arith)) ∙ value_cons (get_or s (n - 1) 0) (drop (suc (n - 1)) s) x)

-- the same at the k-th turn, where `times` is the product with x
pub value_turn : (s : List ℕ) (x k c : ℕ) {value times after : ℕ} → k < length s → c ≡ get_or s (length s - 1 - k) 0
    → value ≡ value_at (drop (length s - k) s) x → times ≡ product x value → after ≡ sum times c → after ≡ value_at (drop (length s - (k + 1)) s) x
value_turn s x k c h e v t a =
    let place : length s - 1 - k ≡ length s - k - 1 = omega arith in
    let next : length s - k - 1 ≡ length s - (k + 1) = omega arith in
    a ∙ ap₂ sum (t ∙ ap (product x) v) (e ∙ ap (λ (i : ℕ). get_or s i 0) place)
    ∙ value_more s (length s - k) x (omega arith) (omega arith) ∙ ap (λ (n : ℕ). value_at (drop n s) x) next

-- ---- at 0 and at 1

pub value_at_zero : (cs : List ℕ) → value_at cs 0 ≡ get_or cs 0 0 % 1024
value_at_zero [] = value_none 0
value_at_zero (c ∷ cs) = value_cons c cs 0 ∙ ap (λ (v : ℕ). sum v c) (zero_product (value_at cs 0)) ∙ zero_sum c

pub value_at_one : (c : ℕ) (cs : List ℕ) → value_at (c ∷ cs) 1 ≡ sum c (value_at cs 1)
value_at_one c cs =
    value_cons c cs 1 ∙ ap (λ (v : ℕ). sum v c) (one_product (value_at cs 1) ∙ mod-eq_of_lt (value_lt cs 1)) ∙ sum_comm (value_at cs 1) c

-- ---- multiples

pub multiple_lt : (n c : ℕ) → multiple n c < 1024
unfolding multiple
multiple_lt zero c = lit< tt
multiple_lt (suc n) c = sum_lt c (multiple n c)

multiple_two_more : (n c : ℕ) → multiple (suc (suc n)) c ≡ multiple n c
unfolding multiple
multiple_two_more n c =
    sym (sum_assoc c c (multiple n c)) ∙ ap (λ (v : ℕ). sum v (multiple n c)) (sum_self c) ∙ zero_sum (multiple n c)
    ∙ mod-eq_of_lt (multiple_lt n c)

pub multiple_even : (n c : ℕ) → n % 2 ≡ 0 → multiple n c ≡ 0
unfolding multiple
multiple_even zero c e = refl
multiple_even (suc zero) c e = absurd (omega arith)
multiple_even (suc (suc n)) c e = multiple_two_more n c ∙ multiple_even n c (omega arith)

pub multiple_odd : (n c : ℕ) → (n % 2 ≡ 0 → ⊥) → multiple n c ≡ c % 1024
unfolding multiple
multiple_odd zero c d = absurd (d refl)
multiple_odd (suc zero) c d = sum_zero c
multiple_odd (suc (suc n)) c d = multiple_two_more n c ∙ multiple_odd n c (λ e. d (omega arith))

pub multiples_length : (k : ℕ) (cs : List ℕ) → length (multiples k cs) ≡ length cs
unfolding multiples
multiples_length k [] = refl
multiples_length k (c ∷ cs) = ap suc (multiples_length (suc k) cs)

pub multiples_at : (k : ℕ) (cs : List ℕ) (i : ℕ) → i < length cs → get_or (multiples k cs) i 0 ≡ multiple (k + i) (get_or cs i 0)
unfolding multiples
multiples_at k [] i h = absurd (not-suc-le-zero h)
multiples_at k (c ∷ cs) zero h = ap (λ (n : ℕ). multiple n c) (sym (add-zero k))
multiples_at k (c ∷ cs) (suc i) h =
    multiples_at (suc k) cs i (le_of_suc-le-suc h) ∙ ap (λ (n : ℕ). multiple n (get_or cs i 0)) (suc-add k i ∙ sym (add-suc k i))

-- the coefficients of a derivative, and zeros past the last
multiple_zero : (n : ℕ) → multiple n 0 ≡ 0
unfolding multiple
multiple_zero zero = refl
multiple_zero (suc n) = ap (sum 0) (multiple_zero n) ∙ sum_self 0

pub derived_length : (s : List ℕ) → length (multiples 1 (drop 1 s)) ≡ length s - 1
derived_length s = multiples_length 1 (drop 1 s) ∙ length-drop 1 s

pub derived_at : (s : List ℕ) (i : ℕ) → get_or (multiples 1 (drop 1 s)) i 0 ≡ multiple (i + 1) (get_or s (i + 1) 0)
derived_at s i = by (ltb (i + 1) (length s)) refl
  where
    by : (b : Bool) → ltb (i + 1) (length s) ≡ b → get_or (multiples 1 (drop 1 s)) i 0 ≡ multiple (i + 1) (get_or s (i + 1) 0)
    by true e =
        multiples_at 1 (drop 1 s) i (omega (arith, length-drop 1 s, ltb-true (i + 1) (length s) e))
        ∙ ap₂ multiple (add_comm 1 i) (get_or-drop 1 s i 0 ∙ ap (λ (k : ℕ). get_or s k 0) (add_comm 1 i))
    by false e =
        let past = ltb-false (i + 1) (length s) e in
        get_or-eq_default (multiples 1 (drop 1 s)) 0 (omega (arith, derived_length s, past))
        ∙ sym (multiple_zero (i + 1)) ∙ ap (multiple (i + 1)) (sym (get_or-eq_default s 0 past))
