-- Document 01, "over a narrow stored number with the field named": the stored form is narrower than the worked one, and the cast loses nothing. An
-- element in hand is a u32. Narrowed to a u16 it is the same number, and one that is pushed is read back whole; and every number that the functions
-- store is below 1024, so that widened and narrowed again it is the same.
use mathlib.Core.Path.{◌≡◌, refl, sym, ap, ap₂, ◌∙◌}
use mathlib.Core.Bool.{Bool, true, false}
use mathlib.Core.List.{List, [], ◌∷◌, ◌++◌, map, reverse, reverse_aux}
use Prim.Native.Nat.{ℕ, zero, suc, ◌+◌, ◌-◌, ◌%◌, ◌<◌}
use native.Mathlib.Nat.{le_refl, mod-lt, mod-eq_of_lt, zero-lt-suc}
use native.Mathlib.Omega.{arith}
use borrow.Author.Tests.{leb-false, lt-leb, le-ltb, ne_eqb}
use lib.Dec.{leb, ltb, eqb}
use lib.ListN.{length, take, drop, set, get_or, replicate}
use lib.Seq.{get_or-set_same, get_or-set_other, take-set-le}
use Rattle.std.specs.Prelude.{⊤, Result, Ok, Err}
use Rattle.std.specs.Result.{result_unwrap_or}
use Rattle.laws.specs.Pick.{pick}
use Rattle.numbers.specs.declared.Refusal.{Refusal}
use Rattle.numbers.specs.declared.Refusal.TheVariants.{ListFull}
use Rattle.laws.specs.Lists.{Every, table, table_from}
use Rattle.gf32_ext.specs.Field.{power}
use Rattle.gf32_ext.proofs.Field.{product_lt}
use Rattle.gf32_ext.proofs.Powers.{power_lt}
use Rattle.fieldvec.specs.declared.FieldVec.{FieldVec}
use Rattle.fieldvec.specs.Lists.{elements, Narrow, listed, given, left, pushed, popped_back, popped_front, got, pointwise, multiplied_pointwise, reversed, symbol_of, lifted, powers_given}
use Rattle.fieldvec.specs.Promises.{Pushed, Narrowed}
use Rattle.fieldvec.proofs.Laws.{elements_pushed, elements_popped}

-- ---- an element that is narrowed is the same number

pub narrowed_whole : {v r w : ℕ} → v ≡ w → w < 1024 → Narrowed v r → r ≡ w
narrowed_whole e small promise = promise ∙ ap (λ (n : ℕ). n % 1024) e ∙ mod-eq_of_lt small

-- ---- an element that is pushed is read back whole; that the array has seven numbers is what its type says

room : (t u : FieldVec) (b : Bool) → leb 7 t.len ≡ b → Ok tt ≡ given (pick {A = Result (⊤ × FieldVec) Refusal} b (Err ListFull) (Ok (tt, u))) → t.len < 7
room t u true e h = absurd (cc)
room t u false e h = leb-false 7 t.len e

module _ (t : FieldVec) (v : ℕ) (r : Result ⊤ Refusal) (u : FieldVec) (seven : length t.items ≡ 7) (promise : Pushed t v r u) (taken : r ≡ Ok tt) where
  fits : t.len < 7
  unfolding pushed
  fits = room t _ (leb 7 t.len) refl (sym taken ∙ promise.result)

  -- the list is the one that was, with the element at its end
  pub pushed_whole : v < 1024 → elements u ≡ elements t ++ v ∷ []
  pushed_whole small =
      ap elements promise.list ∙ elements_pushed t v fits seven
      ∙ ap (λ (w : ℕ). elements t ++ w ∷ []) (mod-eq_of_lt small)

  pub read_back : v < 1024 → got u t.len ≡ Ok v
  unfolding pushed got
  read_back small =
      let k : t.len < length t.items = omega (arith, fits) in
      ap (λ (w : FieldVec). got w t.len) promise.list
      ∙ rw (lt-leb _ _ fits, le-ltb 7 (t.len + 1) (omega (arith, fits)), lt-leb (t.len + 1) t.len (omega arith), get_or-set_same t.items t.len (v % 1024) 0 k, mod-eq_of_lt small)
      (ap Ok (mod-eq_of_lt small))

  pub earlier_kept : (i : ℕ) → i < t.len → got u i ≡ got t i
  unfolding pushed got
  earlier_kept i below =
      ap (λ (w : FieldVec). got w i) promise.list
      ∙ rw (lt-leb _ _ fits, le-ltb 7 (t.len + 1) (omega (arith, fits)), le-ltb 7 t.len (omega (arith, fits)), lt-leb (t.len + 1) i (omega arith), lt-leb t.len i below, get_or-set_other t.items t.len i (v % 1024) 0 (λ e. absurd (omega arith)))

  -- a pop gives the element back, and the list as it was
  pub popped_back_lem : v < 1024 → given (popped_back u) ≡ Ok v
  unfolding pushed popped_back
  popped_back_lem small =
      let k : t.len < length t.items = omega (arith, fits) in
      let e : t.len + 1 - 1 ≡ t.len = omega arith in
      ap (λ (w : FieldVec). given (popped_back w)) promise.list
      ∙ rw (lt-leb _ _ fits, ne_eqb (t.len + 1) 0 (λ d. absurd (omega arith)), le-ltb 7 (t.len + 1) (omega (arith, fits)), e, get_or-set_same t.items t.len (v % 1024) 0 k, mod-eq_of_lt small)
      (ap Ok (mod-eq_of_lt small))

  pub list_back : elements (left u (popped_back u)) ≡ elements t
  unfolding pushed
  list_back =
      let e : t.len + 1 - 1 ≡ t.len = omega arith in
      ap (λ (w : FieldVec). elements (left w (popped_back w))) promise.list
      ∙ rw (lt-leb _ _ fits)
      (elements_popped (record { items = set t.items t.len (v % 1024); len = t.len + 1 }) (omega arith) (omega (arith, fits))
      ∙ ap (λ (n : ℕ). take n (set t.items t.len (v % 1024))) e
      ∙ take-set-le t.len t.items t.len (v % 1024) (le_refl t.len))

-- ---- every number that is stored is below 1024

abbrev Small : List ℕ → Type 0
Small l = Every (λ v. v < 1024) l

by_remainder : (v : ℕ) → v % 1024 < 1024
by_remainder v = mod-lt v (zero-lt-suc 1023)

small_append : (xs ys : List ℕ) → Small xs → Small ys → Small (xs ++ ys)
small_append [] ys p q = q
small_append (x ∷ xs) ys p q = (p.0, small_append xs ys p.1 q)

small_zeros : (n : ℕ) → Small (replicate n 0)
small_zeros zero = tt
small_zeros (suc n) = (omega arith, small_zeros n)

small_take : (n : ℕ) (xs : List ℕ) → Small xs → Small (take n xs)
small_take zero xs p = tt
small_take (suc n) [] p = tt
small_take (suc n) (x ∷ xs) p = (p.0, small_take n xs p.1)

small_drop : (n : ℕ) (xs : List ℕ) → Small xs → Small (drop n xs)
small_drop zero xs p = p
small_drop (suc n) [] p = tt
small_drop (suc n) (x ∷ xs) p = small_drop n xs p.1

small_set : (xs : List ℕ) (i v : ℕ) → v < 1024 → Small xs → Small (set xs i v)
small_set [] i v h p = tt
small_set (x ∷ xs) zero v h p = (h, p.1)
small_set (x ∷ xs) (suc i) v h p = (p.0, small_set xs i v h p.1)

small_reverse : (xs ys : List ℕ) → Small xs → Small ys → Small (reverse_aux xs ys)
small_reverse [] ys p q = q
small_reverse (x ∷ xs) ys p q = small_reverse xs (x ∷ ys) p.1 (p.0, q)

small_products : (xs ys : List ℕ) → Small (pointwise xs ys)
unfolding pointwise
small_products [] ys = tt
small_products (x ∷ xs) [] = tt
small_products (x ∷ xs) (y ∷ ys) = (product_lt x y, small_products xs ys)

small_symbols : (xs : List ℕ) → Small (map symbol_of xs)
small_symbols [] = tt
small_symbols (x ∷ xs) = (omega arith, small_symbols xs)

small_powers : (base i n : ℕ) → Small (table_from (power base) i n)
small_powers base i zero = tt
small_powers base i (suc n) = (power_lt base i, small_powers base (suc i) n)

small_listed : (l : List ℕ) → Small l → Narrow (listed l)
small_listed l p = small_append l (replicate (7 - length l) 0) p (small_zeros (7 - length l))

either : {A : Type 0} (P : A → Type 0) (b : Bool) (x y : A) → P x → P y → P (pick b x y)
either P true x y p q = p
either P false x y p q = q

-- a list that is made, if it is
abbrev NarrowMade : Result FieldVec Refusal → Type 0
NarrowMade r = Narrow (result_unwrap_or r (listed []))

-- the list that is left, and an element that is given
abbrev NarrowLeft : FieldVec → Result (⊤ × FieldVec) Refusal → Type 0
NarrowLeft t r = Narrow (left t r)

abbrev pub NarrowPopped : FieldVec → Result (ℕ × FieldVec) Refusal → Type 0
NarrowPopped t r = (result_unwrap_or (given r) 0 < 1024) × Narrow (left t r)

pub new_narrow : Narrow (listed [])
new_narrow = small_listed [] tt

pub lifted_narrow : (symbols : List ℕ) → Narrow (result_unwrap_or (lifted symbols) (listed []))
unfolding lifted
lifted_narrow symbols = either NarrowMade (ltb 7 (length symbols)) _ _ new_narrow (small_listed (map symbol_of symbols) (small_symbols symbols))

pub powers_narrow : (base n : ℕ) → Narrow (result_unwrap_or (powers_given base n) (listed []))
unfolding powers_given
powers_narrow base n = either NarrowMade (ltb 7 n) _ _ new_narrow (small_listed (table (power base) n) (small_powers base 0 n))

pub got_narrow : (t : FieldVec) (i : ℕ) → result_unwrap_or (got t i) 0 < 1024
unfolding got
got_narrow t i =
    either (λ (a : Result ℕ Refusal). result_unwrap_or a 0 < 1024) (ltb 7 t.len) _ _ (omega arith)
    (either (λ (a : Result ℕ Refusal). result_unwrap_or a 0 < 1024) (leb t.len i) _ _ (omega arith) (by_remainder (get_or t.items i 0)))

module _ (t : FieldVec) (p : Narrow t) where
  small_elements : Small (elements t)
  small_elements = small_take t.len t.items p

  pub pushed_narrow : (v : ℕ) → Narrow (left t (pushed t v))
  unfolding pushed
  pushed_narrow v = either (NarrowLeft t) (leb 7 t.len) _ _ p (small_set t.items t.len (v % 1024) (by_remainder v) p)

  pub popped_narrow : NarrowPopped t (popped_back t)
  unfolding popped_back
  popped_narrow =
      either (NarrowPopped t) (eqb t.len 0) _ _ (omega arith, p)
      (either (NarrowPopped t) (ltb 7 t.len) _ _ (omega arith, p)
      (by_remainder (get_or t.items (t.len - 1) 0), small_set t.items (t.len - 1) 0 (omega arith) p))

  pub popped_front_narrow : NarrowPopped t (popped_front t)
  unfolding popped_front
  popped_front_narrow =
      either (NarrowPopped t) (eqb t.len 0) _ _ (omega arith, p)
      (either (NarrowPopped t) (ltb 7 t.len) _ _ (omega arith, p)
      (by_remainder (get_or t.items 0 0), small_listed (drop 1 (elements t)) (small_drop 1 (elements t) small_elements)))

  pub reversed_narrow : Narrow (left t (reversed t))
  unfolding reversed
  reversed_narrow = either (NarrowLeft t) (ltb 7 t.len) _ _ p (small_listed (reverse (elements t)) (small_reverse (elements t) [] small_elements tt))

  pub multiplied_narrow : (u : FieldVec) → Narrow (left t (multiplied_pointwise t u))
  unfolding multiplied_pointwise
  multiplied_narrow u =
      either (NarrowLeft t) (eqb t.len u.len) _ _
      (either (NarrowLeft t) (ltb 7 t.len) _ _ p (small_listed (pointwise (elements t) (elements u)) (small_products (elements t) (elements u)))) p

-- ---- so a stored number that is widened, and narrowed again by its remainder, is the same

unchanged : (l : List ℕ) → Small l → map (λ v. v % 1024) l ≡ l
unchanged [] p = refl
unchanged (x ∷ l) p = ap₂ (λ (y : ℕ) (ys : List ℕ). y ∷ ys) (mod-eq_of_lt p.0) (unchanged l p.1)

pub narrowed_again : (t : FieldVec) → Narrow t → map (λ v. v % 1024) t.items ≡ t.items
narrowed_again t p = unchanged t.items p
