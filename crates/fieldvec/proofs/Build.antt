-- A list of which each of the seven places is known, and what stands at a place of the lists that are made so.
use mathlib.Core.Path.{◌≡◌, refl, sym, ap, ◌∙◌}
use mathlib.Core.List.{List, [], ◌∷◌, ◌++◌}
use Prim.Native.Nat.{ℕ, zero, suc, ◌-◌, ◌<◌, ◌≤◌}
use native.Mathlib.Omega.{arith}
use lib.ListN.{length, drop, get_or, replicate, length-append, length-replicate}
use Rattle.std.proofs.lemmas.List.{drop-replicate}
use Rattle.std.proofs.lemmas.Grind.{same_number_lists}
use Rattle.laws.specs.Lists.{table, table_from}
use Rattle.gf32_ext.specs.Field.{product}
use Rattle.gf32_ext.proofs.Field.{product_zero}
use Rattle.fieldvec.specs.declared.FieldVec.{FieldVec}
use Rattle.fieldvec.specs.Lists.{listed, pointwise}

abbrev pub made : List ℕ → ℕ → FieldVec
made items n = record { items = items; len = n }

padded_at : (l : List ℕ) (n k : ℕ) → get_or (l ++ replicate n 0) k 0 ≡ get_or l k 0
padded_at [] zero k = refl
padded_at [] (suc n) zero = refl
padded_at [] (suc n) (suc k) = padded_at [] n k
padded_at (x ∷ l) n zero = refl
padded_at (x ∷ l) n (suc k) = padded_at l n k

-- seven numbers that are those of a list, and zeros past its end
pub listed_filled : (items l : List ℕ) → length items ≡ 7 → length l ≤ 7 → ((k : ℕ) → k < 7 → get_or items k 0 ≡ get_or l k 0) → made items (length l) ≡ listed l
listed_filled items l full room at =
    ap (λ (i : List ℕ). made i (length l))
    (same_number_lists items (l ++ replicate (7 - length l) 0) (full ∙ seven)
    (λ k h. at k (omega (arith, full)) ∙ sym (padded_at l (7 - length l) k)))
  where
    seven : 7 ≡ length (l ++ replicate {A = ℕ} (7 - length l) 0)
    seven = omega (arith, length-append l (replicate {A = ℕ} (7 - length l) 0), length-replicate {A = ℕ} (7 - length l) 0)

-- a list written to the front of seven zeros
pub listed_front : (l : List ℕ) (n : ℕ) → length l ≡ n → made (l ++ drop {A = ℕ} n (replicate 7 0)) n ≡ listed l
listed_front l n e = ap (λ (k : ℕ). made (l ++ drop {A = ℕ} k (replicate {A = ℕ} 7 0)) k) (sym e) ∙ ap (λ (r : List ℕ). made (l ++ r) (length l)) (drop-replicate (length l) 7 0)

-- ---- the lists that are made so

pub pointwise_length : (xs ys : List ℕ) → length xs ≡ length ys → length (pointwise xs ys) ≡ length xs
unfolding pointwise
pointwise_length [] ys e = refl
pointwise_length (x ∷ xs) [] e = absurd (omega arith)
pointwise_length (x ∷ xs) (y ∷ ys) e = ap suc (pointwise_length xs ys (omega arith))

pub pointwise_at : (xs ys : List ℕ) → length xs ≡ length ys → (i : ℕ) → get_or (pointwise xs ys) i 0 ≡ product (get_or xs i 0) (get_or ys i 0)
unfolding pointwise
pointwise_at [] [] e i = sym (product_zero 0)
pointwise_at [] (y ∷ ys) e i = absurd (omega arith)
pointwise_at (x ∷ xs) [] e i = absurd (omega arith)
pointwise_at (x ∷ xs) (y ∷ ys) e zero = refl
pointwise_at (x ∷ xs) (y ∷ ys) e (suc i) = pointwise_at xs ys (omega arith) i

table_from_length : (g : ℕ → ℕ) (i n : ℕ) → length (table_from g i n) ≡ n
table_from_length g i zero = refl
table_from_length g i (suc n) = ap suc (table_from_length g (suc i) n)

pub table_length : (g : ℕ → ℕ) (n : ℕ) → length (table g n) ≡ n
table_length g n = table_from_length g 0 n
