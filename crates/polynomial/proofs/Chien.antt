-- The root search: the terms c_i x^i of a polynomial at x sum up to its value, and each multiplied by b^i they are the terms at b x.
use mathlib.Core.Path.{◌≡◌, refl, sym, ap, ap₂, ◌∙◌}
use mathlib.Core.Bool.{Bool, true, false}
use mathlib.Core.List.{List, [], ◌∷◌}
use Prim.Native.Nat.{ℕ, zero, suc, ◌%◌, ◌+◌, ◌-◌, ◌<◌, ◌≤◌}
use native.Mathlib.Numerals.{add-one}
use native.Mathlib.Omega.{arith}
use borrow.Author.Tests.{eq-eqb, ne_eqb, lt-ltb, le-ltb, ltb-true}
use lib.Dec.{eqb, ltb}
use lib.ListN.{length}
use Rattle.std.specs.Prelude.{Some, None, Ok, Err}
use Rattle.numbers.specs.declared.Refusal.{Refusal}
use Rattle.numbers.specs.declared.Refusal.TheVariants.{ListPlace, DivisionByZero}
use Rattle.laws.specs.Pick.{pick}
use Rattle.laws.specs.Lists.{table, table_from, first_from}
use Rattle.gf32_ext.specs.Field.{sum, product, power}
use Rattle.gf32_ext.proofs.Field.{product_assoc, product_comm}
use Rattle.gf32_ext.proofs.Powers.{power_more, power_of_product}
use Rattle.fieldvec.specs.declared.FieldVec.{FieldVec}
use Rattle.fieldvec.specs.Lists.{elements, listed, pointwise, multiplied_pointwise, powers_given}
use Rattle.fieldvec.proofs.Build.{pointwise_length, table_length}
use Rattle.fieldvec.proofs.Laws.{elements_length, elements_listed, pointwise_accepted, powers_accepted}
use Rattle.polynomial.specs.Polynomials.{value_from, value_at, is_root}
use Rattle.polynomial.specs.Answers.{root_from, root_after, first_root}
use Rattle.polynomial.proofs.Values.{value_at_one, value_none}

-- ---- the terms c_i x^i

abbrev pub terms_at : List ℕ → ℕ → List ℕ
terms_at cs x = pointwise cs (table (power x) (length cs))

sum_from : (k : ℕ) (cs : List ℕ) (x : ℕ) → value_at (pointwise cs (table_from (power x) k (length cs))) 1 ≡ value_from k cs x
unfolding pointwise value_from
sum_from k [] x = value_none 1
sum_from k (c ∷ cs) x =
    value_at_one (product c (power x k)) (pointwise cs (table_from (power x) (suc k) (length cs)))
    ∙ ap (sum (product c (power x k))) (sum_from (suc k) cs x)

pub terms_sum : (cs : List ℕ) (x : ℕ) → value_at (terms_at cs x) 1 ≡ value_at cs x
unfolding value_at
terms_sum cs x = sum_from 0 cs x

next_from : (k : ℕ) (cs : List ℕ) (b x : ℕ)
    → pointwise (pointwise cs (table_from (power x) k (length cs))) (table_from (power b) k (length cs))
    ≡ pointwise cs (table_from (power (product b x)) k (length cs))
unfolding pointwise
next_from k [] b x = refl
next_from k (c ∷ cs) b x =
    ap₂ (λ (h : ℕ) (t : List ℕ). h ∷ t)
    (product_assoc c (power x k) (power b k)
    ∙ ap (product c) (product_comm (power x k) (power b k) ∙ sym (power_of_product b x k)))
    (next_from (suc k) cs b x)

pub terms_next : (cs : List ℕ) (b x : ℕ) → pointwise (terms_at cs x) (table (power b) (length cs)) ≡ terms_at cs (product b x)
terms_next cs b x = next_from 0 cs b x

pub terms_next_power : (cs : List ℕ) (b e : ℕ) → pointwise (terms_at cs (power b e)) (table (power b) (length cs)) ≡ terms_at cs (power b (e + 1))
terms_next_power cs b e = terms_next cs b (power b e) ∙ ap (terms_at cs) (sym (power_more b e) ∙ ap (power b) (sym (add-one e)))

-- ---- the search, an exponent a turn: e is the next to be asked

module _ (cs : List ℕ) (base e : ℕ) where
  abbrev root_at : ℕ → Bool
  root_at k = is_root cs (power base k)

  pub root_here : e < 1023 → value_at cs (power base e) ≡ 0 → e ≡ root_from cs base e
  unfolding root_from
  root_here h z =
      let more : 1023 - e ≡ suc (1023 - (e + 1)) = omega arith in
      sym (ap (λ (n : ℕ). first_from e n root_at) more ∙ rw (eq-eqb (value_at cs (power base e)) 0 z))

  pub root_later : e < 1023 → (value_at cs (power base e) ≡ 0 → ⊥) → root_from cs base (e + 1) ≡ root_from cs base e
  unfolding root_from
  root_later h d =
      let more : 1023 - e ≡ suc (1023 - (e + 1)) = omega arith in
      ap (λ (k : ℕ). first_from k (1023 - (e + 1)) root_at) (add-one e)
      ∙ sym (ap (λ (n : ℕ). first_from e n root_at) more ∙ rw (ne_eqb (value_at cs (power base e)) 0 d))

  pub root_nowhere : 1023 ≤ e → e ≡ root_from cs base e
  unfolding root_from
  root_nowhere h = let none : 1023 - e ≡ 0 = omega arith in sym (ap (λ (n : ℕ). first_from e n root_at) none)

-- what the search answers, once that exponent is known
module _ (cs : List ℕ) (base k : ℕ) where
  pub some_after : (e : ℕ) → e < 1023 → e ≡ root_from cs base k → Some e ≡ root_after cs base k
  some_after e h same = rw (← same, lt-ltb e 1023 h)

  pub none_after : 1023 ≤ root_from cs base k → None ≡ root_after cs base k
  none_after h = rw (le-ltb (root_from cs base k) 1023 h)

first_from_le : (i n : ℕ) (f : ℕ → Bool) → i ≤ first_from i n f
first_from_le i zero f = omega arith
first_from_le i (suc n) f = by (f i) (first_from_le (suc i) n f)
  where
    by : (b : Bool) → suc i ≤ first_from (suc i) n f → i ≤ pick b i (first_from (suc i) n f)
    by true later = omega arith
    by false later = omega arith

-- an exponent that is found is from k on, and below the group's order
pub root_within : (p : FieldVec) (base k e : ℕ) → Ok (Some e) ≡ first_root p base k → (k ≤ e) × (e < 1023)
unfolding first_root root_from
root_within p base k e same =
    by (ltb 7 p.len) (eqb (base % 1024) 0) (ltb (root_from (elements p) base k) 1023) refl same (first_from_le k (1023 - k) (λ e. is_root (elements p) (power base e)))
  where
    by : (a b c : Bool) → ltb (root_from (elements p) base k) 1023 ≡ c
        → Ok (Some e) ≡ pick a (Err ListPlace) (pick b (Err DivisionByZero) (Ok (pick c (Some (root_from (elements p) base k)) None)))
        → k ≤ root_from (elements p) base k → (k ≤ e) × (e < 1023)
    by true b c t same low = cc
    by false true c t same low = cc
    by false false true t same low =
        let found : e ≡ root_from (elements p) base k = cc in (omega arith, omega (arith, ltb-true (root_from (elements p) base k) 1023 t))
    by false false false t same low = cc

-- the list of terms that the code keeps
abbrev pub kept : List ℕ → ℕ → FieldVec
kept cs x = listed (terms_at cs x)

module _ (cs : List ℕ) (size : length cs ≤ 7) where
  terms_at_length : (x : ℕ) → length (terms_at cs x) ≡ length cs
  terms_at_length x = pointwise_length cs (table (power x) (length cs)) (sym (table_length (power x) (length cs)))

  pub kept_size : (x : ℕ) {t : FieldVec} → t ≡ kept cs x → t.len ≡ length cs
  kept_size x e = ap (λ (t : FieldVec). t.len) e ∙ terms_at_length x

  pub kept_sum : (x : ℕ) {t : FieldVec} → t ≡ kept cs x → value_at (elements t) 1 ≡ value_at cs x
  kept_sum x e =
      ap (λ (t : FieldVec). value_at (elements t) 1) e ∙ ap (λ (l : List ℕ). value_at l 1) (elements_listed (terms_at cs x)) ∙ terms_sum cs x

  multiplied : (t u : FieldVec) (l m : List ℕ) → t.len ≡ length cs → u.len ≡ length cs → elements t ≡ l → elements u ≡ m
      → multiplied_pointwise t u ≡ Ok (tt, listed (pointwise l m))
  multiplied t u l m a b c d =
      pointwise_accepted t u (a ∙ sym b) (omega arith) ∙ ap₂ (λ (x y : List ℕ). Ok (tt, listed (pointwise x y))) c d

  pub kept_first : (p : FieldVec) (x : ℕ) {start : FieldVec} → p.len ≡ length cs → elements p ≡ cs → start ≡ listed (table (power x) (length cs))
      → multiplied_pointwise p start ≡ Ok (tt, kept cs x)
  kept_first p x {start} a b s =
      multiplied p start cs (table (power x) (length cs)) a (ap (λ (t : FieldVec). t.len) s ∙ table_length (power x) (length cs)) b
      (ap elements s ∙ elements_listed (table (power x) (length cs)))

  pub kept_next : (b e : ℕ) {t step : FieldVec} → t ≡ kept cs (power b e) → step ≡ listed (table (power b) (length cs))
      → multiplied_pointwise t step ≡ Ok (tt, kept cs (power b (e + 1)))
  kept_next b e {t} {step} k s =
      multiplied t step (terms_at cs (power b e)) (table (power b) (length cs)) (kept_size (power b e) k)
      (ap (λ (t : FieldVec). t.len) s ∙ table_length (power b) (length cs))
      (ap elements k ∙ elements_listed (terms_at cs (power b e)))
      (ap elements s ∙ elements_listed (table (power b) (length cs)))
      ∙ ap (λ (l : List ℕ). Ok (tt, listed l)) (terms_next_power cs b e)

-- ---- how the code begins

module _ (p : FieldVec) (seven : length p.items ≡ 7) (fits : p.len ≤ 7) where
  -- the powers of x for the terms at x
  pub powers_for : (x : ℕ) {r : FieldVec} → Ok r ≡ powers_given x p.len → r ≡ listed (table (power x) (length (elements p)))
  powers_for x {r} e =
      let same : r ≡ listed (table (power x) p.len) = cc (e, powers_accepted x p.len fits) in
      same ∙ ap (λ (n : ℕ). listed (table (power x) n)) (sym (elements_length p seven fits))

  pub powers_kept : (x : ℕ) {refusal : Refusal} → Err refusal ≡ powers_given x p.len → ⊥
  powers_kept x e = cc (e, powers_accepted x p.len fits)

  pub first_kept : (x : ℕ) {start : FieldVec} → Ok start ≡ powers_given x p.len → multiplied_pointwise p start ≡ Ok (tt, kept (elements p) x)
  first_kept x s =
      kept_first (elements p) (omega (arith, elements_length p seven fits)) p x (sym (elements_length p seven fits)) refl (powers_for x s)

-- ---- a turn of the search, and its end, from what the code computes: s is the sum of the terms

module _ (cs : List ℕ) (fits : length cs ≤ 7) (base e : ℕ) {terms : FieldVec} (k : terms ≡ kept cs (power base e))
    {s : ℕ} (sum_is_lem : s ≡ value_at (elements terms) 1) (below : e < 1023) where
  pub root_end : s ≡ 0 → e ≡ root_from cs base e
  root_end z = root_here cs base e below (sym (sum_is_lem ∙ kept_sum cs fits (power base e) k) ∙ z)

  pub root_turn : {step : FieldVec} → step ≡ listed (table (power base) (length cs)) → (s ≡ 0 → ⊥)
      → (multiplied_pointwise terms step ≡ Ok (tt, kept cs (power base (e + 1)))) × (root_from cs base (e + 1) ≡ root_from cs base e)
  root_turn st d = (
    kept_next cs fits base e k st,
    root_later cs base e below (λ z. d (sum_is_lem ∙ kept_sum cs fits (power base e) k ∙ z)),
  )
