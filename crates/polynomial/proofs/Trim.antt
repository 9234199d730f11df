-- A list without the zeros at its end: found from the end, not changed by more zeros, longer than m exactly if something stands from m on.
use mathlib.Core.Path.{◌≡◌, refl, sym, ap, ap₂, ◌∙◌}
use mathlib.Core.Bool.{Bool, true, false, ◌&&◌, false≢true}
use mathlib.Core.List.{List, [], ◌∷◌, ◌++◌}
use Prim.Native.Nat.{ℕ, zero, suc, ◌-◌, ◌<◌, ◌≤◌}
use native.Mathlib.Nat.{not-suc-le-zero, le_of_suc-le-suc, zero-lt-suc}
use native.Mathlib.Omega.{arith}
use borrow.Author.Tests.{eq-eqb, ne_eqb, eqb-true}
use lib.Dec.{eqb}
use lib.ListN.{length, take, drop, get_or, replicate, length-drop, take-append-drop}
use lib.Seq.{length-take-le}
use Rattle.std.specs.Prelude.{Option, Some, None}
use Rattle.std.specs.Option.{option_map_or}
use Rattle.laws.specs.Pick.{pick}
use Rattle.laws.specs.Lists.{all}
use Rattle.laws.proofs.Bools.{and_first, and_second, and_false}
use Rattle.fieldvec.specs.declared.FieldVec.{FieldVec}
use Rattle.fieldvec.specs.Lists.{listed}
use Rattle.fieldvec.proofs.Build.{made, listed_filled}
use Rattle.gf32_ext.specs.Field.{sum, product}
use Rattle.gf32_ext.proofs.Field.{product_zero, sum_self}
use Rattle.polynomial.specs.Polynomials.{trimmed, value_at}
use Rattle.polynomial.proofs.Values.{value_none, value_cons}
use Rattle.polynomial.proofs.Places.{LastOf, not_all, all_after}

abbrev pub none : ℕ → Bool
none a = eqb a 0

pub trimmed_nothing : (l : List ℕ) → all none l ≡ true → trimmed l ≡ []
unfolding trimmed
trimmed_nothing [] e = refl
trimmed_nothing (c ∷ cs) e = rw e

trimmed_something : (c : ℕ) (cs : List ℕ) → all none (c ∷ cs) ≡ false → trimmed (c ∷ cs) ≡ c ∷ trimmed cs
unfolding trimmed
trimmed_something c cs e = rw e

-- what a loop from the end finds
pub trimmed_at : (l : List ℕ) (m : ℕ) → m < length l → (get_or l m 0 ≡ 0 → ⊥) → all none (drop (suc m) l) ≡ true → trimmed l ≡ take (suc m) l
trimmed_at [] m h d e = absurd (not-suc-le-zero h)
trimmed_at (c ∷ cs) zero h d e =
    trimmed_something c cs (not_all none (c ∷ cs) 0 h (ne_eqb c 0 d)) ∙ ap (λ (l : List ℕ). c ∷ l) (trimmed_nothing cs e)
trimmed_at (c ∷ cs) (suc m) h d e =
    trimmed_something c cs (not_all none (c ∷ cs) (suc m) h (ne_eqb (get_or cs m 0) 0 d))
    ∙ ap (λ (l : List ℕ). c ∷ l) (trimmed_at cs m (le_of_suc-le-suc h) d e)

all_zeros : (l : List ℕ) → all none l ≡ true → l ≡ replicate (length l) 0
all_zeros [] e = refl
all_zeros (c ∷ cs) e =
    ap₂ (λ (x : ℕ) (r : List ℕ). x ∷ r) (eqb-true c 0 (and_first (none c) (all none cs) e)) (all_zeros cs (and_second (none c) (all none cs) e))

pub zeros_after : (n : ℕ) (l : List ℕ) → all none (drop n l) ≡ true → l ≡ take n l ++ replicate (length l - n) 0
zeros_after n l e =
    sym (take-append-drop n l) ∙ ap (λ (r : List ℕ). take n l ++ r) (all_zeros (drop n l) e ∙ ap (λ (k : ℕ). replicate {A = ℕ} k 0) (length-drop n l))

-- seven numbers with their count, the rest of which are zeros, are the list without those
pub trimmed_made : (items : List ℕ) (n : ℕ) → length items ≡ 7 → n ≤ 7 → all none (drop n items) ≡ true → trimmed items ≡ take n items → made items n ≡ listed (trimmed items)
trimmed_made items n seven h e t = ap₂ made (zeros_after n items e ∙ ap₂ (λ (l : List ℕ) (k : ℕ). l ++ replicate {A = ℕ} k 0) (sym t) left) count
  where
    count : n ≡ length (trimmed items)
    count = sym (ap length t ∙ length-take-le n items (omega arith))

    left : length items - n ≡ 7 - length (trimmed items)
    left = ap₂ (λ (a b : ℕ). a - b) seven count

module _ (items : List ℕ) (seven : length items ≡ 7) where
  -- the place after the last number other than zero is how many are left
  pub trimmed_counted : (last : Option ℕ) → LastOf (λ v. v) items last → (n : ℕ) → n ≡ option_map_or suc last 0 → made items n ≡ listed (trimmed items)
  trimmed_counted (Some i) h n e =
      let rest = all_after none items (suc i) (λ k m l. eq-eqb (get_or items k 0) 0 (h.2 k m l)) in
      ap (made items) e ∙ trimmed_made items (suc i) seven (omega (arith, h.0)) rest (trimmed_at items i h.0 h.1 rest)
  trimmed_counted None h n e =
      let nothing = all_after none items 0 (λ k _ l. eq-eqb (get_or items k 0) 0 (h k l)) in
      ap (made items) e ∙ trimmed_made items 0 seven (omega arith) nothing (trimmed_nothing items nothing)

replicate_none : (k : ℕ) → all none (replicate k 0) ≡ true
replicate_none zero = refl
replicate_none (suc k) = replicate_none k

padded_none : (l : List ℕ) (k : ℕ) → all none (l ++ replicate k 0) ≡ all none l
padded_none [] k = replicate_none k
padded_none (c ∷ cs) k = ap (λ (t : Bool). none c && t) (padded_none cs k)

-- zeros at the end do not matter
pub trimmed_padded : (l : List ℕ) (k : ℕ) → trimmed (l ++ replicate k 0) ≡ trimmed l
unfolding trimmed
trimmed_padded [] k = trimmed_nothing (replicate k 0) (replicate_none k)
trimmed_padded (c ∷ cs) k =
    ap₂ (λ (t : Bool) (r : List ℕ). pick t [] (c ∷ r)) (padded_none (c ∷ cs) k) (trimmed_padded cs k)

pub trimmed_front : (n : ℕ) (l : List ℕ) → all none (drop n l) ≡ true → trimmed l ≡ trimmed (take n l)
trimmed_front n l e = ap trimmed (zeros_after n l e) ∙ trimmed_padded (take n l) (length l - n)

picked_length : (t : Bool) (c n : ℕ) (r : List ℕ) → length r ≤ n → length (pick t [] (c ∷ r)) ≤ suc n
picked_length true c n r h = omega arith
picked_length false c n r h = omega arith

pub trimmed_short : (l : List ℕ) → length (trimmed l) ≤ length l
unfolding trimmed
trimmed_short [] = omega arith
trimmed_short (c ∷ cs) = picked_length (all none (c ∷ cs)) c (length cs) (trimmed cs) (trimmed_short cs)

not_all_dropped : (n : ℕ) (l : List ℕ) → all none (drop n l) ≡ false → all none l ≡ false
not_all_dropped zero l e = e
not_all_dropped (suc n) [] e = e
not_all_dropped (suc n) (c ∷ cs) e = rw (not_all_dropped n cs e) (and_false (none c))

pub trimmed_long : (n : ℕ) (l : List ℕ) → all none (drop n l) ≡ false → n < length (trimmed l)
trimmed_long n [] e = absurd (false≢true (sym e ∙ ap (all none) (drop_none n)))
  where
    drop_none : (m : ℕ) → drop {A = ℕ} m [] ≡ []
    drop_none zero = refl
    drop_none (suc m) = refl
trimmed_long zero (c ∷ cs) e = rw (trimmed_something c cs e) (zero-lt-suc (length (trimmed cs)))
trimmed_long (suc n) (c ∷ cs) e =
    rw (trimmed_something c cs (not_all_dropped (suc n) (c ∷ cs) e)) (omega (arith, trimmed_long n cs e))

-- seven numbers that are those of a list, and zeros past its end
pub trimmed_filled : (items l : List ℕ) → length items ≡ 7 → length l ≤ 7 → ((k : ℕ) → k < 7 → get_or items k 0 ≡ get_or l k 0) → trimmed items ≡ trimmed l
trimmed_filled items l seven h at =
    ap (λ (t : FieldVec). trimmed t.items) (listed_filled items l seven h at) ∙ trimmed_padded l (7 - length l)

-- ---- what is left out does not change the value

value_of_zeros : (l : List ℕ) (x : ℕ) → all none l ≡ true → value_at l x ≡ 0
value_of_zeros [] x e = value_none x
value_of_zeros (c ∷ cs) x e =
    value_cons c cs x
    ∙ ap₂ (λ (v a : ℕ). sum (product x v) a) (value_of_zeros cs x (and_second (none c) (all none cs) e)) (eqb-true c 0 (and_first (none c) (all none cs) e))
    ∙ ap (λ (v : ℕ). sum v 0) (product_zero x) ∙ sum_self 0

pub value_trimmed : (l : List ℕ) (x : ℕ) → value_at (trimmed l) x ≡ value_at l x
value_trimmed [] x = ap (λ (l : List ℕ). value_at l x) (trimmed_nothing [] refl)
value_trimmed (c ∷ cs) x = by (all none (c ∷ cs)) refl (value_trimmed cs x)
  where
    by : (t : Bool) → all none (c ∷ cs) ≡ t → value_at (trimmed cs) x ≡ value_at cs x → value_at (trimmed (c ∷ cs)) x ≡ value_at (c ∷ cs) x
    by true e later = ap (λ (l : List ℕ). value_at l x) (trimmed_nothing (c ∷ cs) e) ∙ value_none x ∙ sym (value_of_zeros (c ∷ cs) x e)
    by false e later =
        ap (λ (l : List ℕ). value_at l x) (trimmed_something c cs e) ∙ value_cons c (trimmed cs) x
        ∙ ap (λ (v : ℕ). sum (product x v) c) later ∙ sym (value_cons c cs x)
