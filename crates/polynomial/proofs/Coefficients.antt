-- Coefficients of a product, one place a turn: what the loops over them lean on.
use mathlib.Core.Path.{◌≡◌, refl, sym, ap, ap₂, ◌∙◌, fun_ext}
use mathlib.Core.Bool.{Bool, true, false, ◌&&◌}
use mathlib.Core.List.{List, [], ◌∷◌, ◌++◌}
use Prim.Native.Nat.{ℕ, zero, suc, ◌+◌, ◌-◌, ◌<◌, ◌≤◌, min}
use native.Mathlib.Numerals.{add-one}
use native.Mathlib.Nat.{add-zero, zero-add, add-suc, suc-add}
use native.Mathlib.Omega.{arith}
use borrow.Author.Tests.{lt-ltb, le-ltb, ltb-true, ltb-false}
use lib.Dec.{ltb}
use lib.ListN.{length, take, drop, get_or, replicate, get_or-eq_default}
use Rattle.std.specs.Prelude.{Ok, Err}
use Rattle.std.specs.List.{list_all, range_with_len}
use Rattle.numbers.specs.declared.Refusal.TheVariants.{ListFull}
use Rattle.laws.specs.Pick.{pick}
use Rattle.laws.specs.Lists.{all, table_from}
use Rattle.laws.proofs.Tables.{tabulated}
use Rattle.gf32_ext.specs.Field.{sum, product}
use Rattle.gf32_ext.proofs.Field.{sum_lt}
use Rattle.fieldvec.specs.Lists.{listed}
use Rattle.fieldvec.specs.declared.FieldVec.{FieldVec}
use Rattle.fieldvec.proofs.Build.{made, listed_filled, table_length}
use Rattle.polynomial.specs.Polynomials.{degree, trimmed}
use Rattle.polynomial.specs.Products.{sum_below, coefficient, coefficients_from, product_modulo, convolved}
use Rattle.polynomial.specs.Answers.{fitting}
use Rattle.polynomial.proofs.Trim.{none, trimmed_front, trimmed_padded, trimmed_short, trimmed_long}

-- the first n terms of a coefficient
unfoldable pub part_sum : List ℕ → List ℕ → ℕ → ℕ → ℕ
part_sum a b k n = sum_below n (λ i. product (get_or a i 0) (get_or b (k - i) 0))

module _ (a b : List ℕ) (k : ℕ) where
  pub part_none : 0 ≡ part_sum a b k 0
  unfolding part_sum sum_below
  part_none = refl

  pub part_more : (i : ℕ) → sum (part_sum a b k i) (product (get_or a i 0) (get_or b (k - i) 0)) ≡ part_sum a b k (i + 1)
  unfolding part_sum sum_below
  part_more i = rw (add-one i)

  pub part_all : (i : ℕ) → i ≡ k + 1 → part_sum a b k i ≡ coefficient a b k
  unfolding part_sum coefficient
  part_all i e = ap (part_sum a b k) (e ∙ add-one k)

pub coefficient_lt : (a b : List ℕ) (k : ℕ) → coefficient a b k < 1024
unfolding coefficient sum_below
coefficient_lt a b k = sum_lt _ _

-- ---- the coefficients from a place on

module _ (a b : List ℕ) (d n : ℕ) where
  pub from_length : length (coefficients_from a b d n) ≡ n
  unfolding coefficients_from
  from_length = table_length (λ j. coefficient a b (d + j)) n

  pub from_at : (j : ℕ) → j < n → get_or (coefficients_from a b d n) j 0 ≡ coefficient a b (d + j)
  unfolding coefficients_from
  from_at j h = tabulated (λ j. coefficient a b (d + j)) n j h

  from_padded : (j : ℕ) (t : Bool) → ltb j n ≡ t → pick t (coefficient a b (d + j)) 0 ≡ get_or (coefficients_from a b d n) j 0
  from_padded j true e = sym (from_at j (ltb-true j n e))
  from_padded j false e = sym (get_or-eq_default (coefficients_from a b d n) 0 (omega (arith, ltb-false j n e, from_length)))

  -- what is stored for each of seven places
  pub from_made : (items : List ℕ) → length items ≡ 7 → n ≤ 7 → ((j : ℕ) → j < 7 → get_or items j 0 ≡ pick (ltb j n) (coefficient a b (d + j)) 0)
      → items ≡ coefficients_from a b d n ++ replicate (7 - n) 0
  from_made items seven h at =
      ap (λ (t : FieldVec). t.items)
      (listed_filled items (coefficients_from a b d n) seven (omega (arith, from_length)) (λ j k. at j k ∙ from_padded j (ltb j n) refl))
      ∙ ap (λ (k : ℕ). coefficients_from a b d n ++ replicate {A = ℕ} (7 - k) 0) from_length

-- the coefficients that are tested one by one, and those past the seventh place
all_from : (q : ℕ → Bool) (g : ℕ → ℕ) (i n : ℕ) → list_all (λ k. q (g k)) (range_with_len i n) ≡ all q (table_from g i n)
all_from q g i zero = refl
all_from q g i (suc n) = ap (λ (b : Bool). q (g i) && b) (ap (λ (k : ℕ). list_all (λ k. q (g k)) (range_with_len k n)) (add-one i) ∙ all_from q g (suc i) n)

drop_table_from : (g : ℕ → ℕ) (m i n : ℕ) → drop m (table_from g i n) ≡ table_from g (i + m) (n - m)
drop_table_from g zero i n = let same : n ≡ n - 0 = omega arith in ap₂ (table_from g) (sym (add-zero i)) same
drop_table_from g (suc m) i zero = let same : 0 ≡ 0 - suc m = omega arith in ap (table_from g (i + suc m)) same
drop_table_from g (suc m) i (suc n) =
    let same : n - m ≡ suc n - suc m = omega arith in
    drop_table_from g m (suc i) n ∙ ap₂ (table_from g) (suc-add i m ∙ sym (add-suc i m)) same

pub from_tested : (a b : List ℕ) (n : ℕ) → list_all (λ k. none (coefficient a b k)) (range_with_len 7 (n - 7)) ≡ all none (drop 7 (coefficients_from a b 0 n))
unfolding coefficients_from
from_tested a b n =
    all_from none (coefficient a b) 7 (n - 7)
    ∙ sym (ap (all none) (drop_table_from (λ j. coefficient a b (0 + j)) 7 0 n ∙ ap (λ (g : ℕ → ℕ). table_from g 7 (n - 7)) (fun_ext (λ j. ap (coefficient a b) (zero-add j)))))

take_table_from : (g : ℕ → ℕ) (m i n : ℕ) → take m (table_from g i n) ≡ table_from g i (min n m)
take_table_from g zero i n = let e : 0 ≡ min n 0 = omega arith in ap (table_from g i) e
take_table_from g (suc m) i zero = let e : 0 ≡ min 0 (suc m) = omega arith in ap (table_from g i) e
take_table_from g (suc m) i (suc n) =
    let e : suc (min n m) ≡ min (suc n) (suc m) = omega arith in
    ap (λ (l : List ℕ). g i ∷ l) (take_table_from g m (suc i) n) ∙ ap (table_from g i) e

from_front : (a b : List ℕ) (d m n : ℕ) → take m (coefficients_from a b d n) ≡ coefficients_from a b d (min n m)
unfolding coefficients_from
from_front a b d m n = take_table_from (λ j. coefficient a b (d + j)) m 0 n

-- ---- a product that fits, and one that does not

module _ (a b : List ℕ) (d n : ℕ) (places : n ≡ min d (length a + length b)) where
  product_is : product_modulo a b d ≡ trimmed (coefficients_from a b 0 n)
  unfolding product_modulo
  product_is = ap (λ (k : ℕ). trimmed (coefficients_from a b 0 k)) (sym places)

  pub product_long : all none (drop 7 (coefficients_from a b 0 n)) ≡ false → Err ListFull ≡ fitting (product_modulo a b d)
  product_long e = rw (product_is, lt-ltb 7 (length (trimmed (coefficients_from a b 0 n))) (trimmed_long 7 (coefficients_from a b 0 n) e))

  pub product_fits : (items : List ℕ) → all none (drop 7 (coefficients_from a b 0 n)) ≡ true
      → items ≡ coefficients_from a b 0 (min n 7) ++ replicate (7 - min n 7) 0
      → Ok (listed (trimmed items)) ≡ fitting (product_modulo a b d)
  product_fits items e i = rw (product_is, same, le-ltb 7 (length (trimmed items)) (omega (arith, short)))
    where
      cut : trimmed items ≡ trimmed (coefficients_from a b 0 (min n 7))
      cut = ap trimmed i ∙ trimmed_padded (coefficients_from a b 0 (min n 7)) (7 - min n 7)

      same : trimmed (coefficients_from a b 0 n) ≡ trimmed items
      same = trimmed_front 7 (coefficients_from a b 0 n) e ∙ ap trimmed (from_front a b 0 7 n) ∙ sym cut

      short : length (trimmed items) ≤ min n 7
      short = omega (arith, ap length cut, from_length a b 0 (min n 7), trimmed_short (coefficients_from a b 0 (min n 7)))

-- ---- the convolution

module _ (a s : List ℕ) where
  pub convolved_none : length s ≤ degree a → convolved a s ≡ 0 ∷ []
  unfolding convolved
  convolved_none h = rw (le-ltb (degree a) (length s) h)

  pub convolved_some : degree a < length s → convolved a s ≡ coefficients_from a s (degree a) (length s - degree a)
  unfolding convolved
  convolved_some h = rw (lt-ltb (degree a) (length s) h)

  pub convolved_made : (items : List ℕ) (d : ℕ) → d ≡ degree a → d < length s
      → items ≡ coefficients_from a s d (length s - d) ++ replicate (7 - (length s - d)) 0 → made items (length s - d) ≡ listed (convolved a s)
  convolved_made items d e h i =
      ap₂ made (i ∙ ap (λ (n : ℕ). coefficients_from a s d (length s - d) ++ replicate {A = ℕ} (7 - n) 0) (sym long)) (sym long)
      ∙ ap listed (ap (λ (k : ℕ). coefficients_from a s k (length s - k)) e ∙ sym (convolved_some (rw e at h)))
    where
      long : length (coefficients_from a s d (length s - d)) ≡ length s - d
      long = from_length a s d (length s - d)
