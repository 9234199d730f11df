-- What callers and the functions lean on: the list that is shown or refused, comparing two lists, and what the operations do to the elements.
use mathlib.Core.Path.{◌≡◌, refl, sym, ap, ◌∙◌}
use mathlib.Core.Bool.{Bool, true, false, ◌&&◌}
use mathlib.Core.List.{List, [], ◌∷◌, ◌++◌, reverse}
use Prim.Native.Nat.{ℕ, suc, ◌+◌, ◌-◌, ◌%◌, ◌<◌, ◌≤◌}
use native.Mathlib.Nat.{le_refl}
use native.Mathlib.Numerals.{add-one}
use native.Mathlib.Omega.{arith}
use borrow.Author.Tests.{lt-leb, le-leb, lt-ltb, eq-eqb, ne_eqb, le-ltb, ltb-true, ltb-false}
use lib.Dec.{eqb, ltb, eqb→eq}
use lib.ListN.{length, take, drop, get_or, set, length-append}
use Rattle.std.proofs.lemmas.List.{get_or-take, length-take}
use lib.Seq.{length-take-le, take-set-le, take-suc-set, take-append_seam, get_or-append_seam}
use Rattle.std.specs.Prelude.{⊤, Result, Ok, Err}
use Rattle.std.specs.Result.{IsErrAnd}
use Rattle.std.proofs.lemmas.Result.{err_from_is_err_and}
use Rattle.std.specs.List.{list_all, zip}
use denote.Ref.{Bor}
use Rattle.laws.specs.Pick.{pick}
use Rattle.laws.proofs.Bools.{and_false}
use Rattle.laws.specs.Lists.{table}
use Rattle.numbers.specs.declared.Refusal.{Refusal}
use Rattle.numbers.specs.declared.Refusal.TheVariants.{ListPlace}
use Rattle.gf32_ext.specs.Field.{power}
use Rattle.fieldvec.specs.declared.FieldVec.{FieldVec}
use Rattle.fieldvec.specs.Lists.{elements, listed, given, left, shown, pushed, popped_back, popped_front, got, reversed, compared, alike, pointwise, multiplied_pointwise, powers_given}
use Rattle.fieldvec.specs.Promises.{Changes}
use Rattle.numbers.proofs.Numbers.{ok_injective}

-- ---- the list that is shown, or refused

module _ (t : FieldVec) where
  pub shown_ok : (place : ℕ × ℕ) {s : Bor (List ℕ)} → Ok s ≡ shown t place → (t.len ≤ 7) × (s.now ≡ elements t)
  unfolding shown
  shown_ok place {s} e = by (ltb 7 t.len) refl e
    where
      by : (b : Bool) → ltb 7 t.len ≡ b → Ok s ≡ pick {A = Result (Bor (List ℕ)) Refusal} b (Err ListPlace) (Ok (record { ref_ptr = place; now = elements t }))
          → (t.len ≤ 7) × (s.now ≡ elements t)
      by true s e = cc
      by false s e = (ltb-false 7 t.len s, ap (λ r. r.now) (ok_injective _ _ e))

  pub shown_err : (place : ℕ × ℕ) {refusal : Refusal} → Err refusal ≡ shown t place → (7 < t.len) × (refusal ≡ ListPlace)
  unfolding shown
  shown_err place {refusal} e = by (ltb 7 t.len) refl e
    where
      by : (b : Bool) → ltb 7 t.len ≡ b
          → Err refusal ≡ pick {A = Result (Bor (List ℕ)) Refusal} b (Err ListPlace) (Ok (record { ref_ptr = place; now = elements t }))
          → (7 < t.len) × (refusal ≡ ListPlace)
      by true s e = (ltb-true 7 t.len s, cc)
      by false s e = cc

  -- what the exit of a `?` on the elements returns
  pub exit : {A : Type 0} (place : ℕ × ℕ) (r : Result A Refusal) {refusal : Refusal} → IsErrAnd r (λ y. y ≡ refusal) → Err refusal ≡ shown t place
      → (7 < t.len) × (r ≡ Err ListPlace)
  exit place r returned e =
      let p = err_from_is_err_and r returned in ((shown_err place e).0, p.1 ∙ ap Err (p.2 ∙ (shown_err place e).1))

  module _ {A : Type 0} {answer : Result (A × FieldVec) Refusal} where
    -- a refusal leaves the list as it was
    pub refuses : {r : Result A Refusal} {refusal : Refusal} → r ≡ Err refusal → answer ≡ Err refusal → Changes t answer r t
    refuses e f = record { result = e ∙ sym (ap given f); list = sym (ap (left t) f) }

    -- an answer that is accepted is not refused, and leaves what it gives
    pub accepts : {made : A × FieldVec} {refusal : Refusal} → answer ≡ Ok made → Err refusal ≡ given answer → ⊥
    accepts f e = cc (e, ap given f)

    pub left_made : {made : A × FieldVec} {u : FieldVec} → answer ≡ Ok made → u ≡ left t answer → u ≡ made.1
    left_made f e = e ∙ ap (left t) f

    pub changes : {value : A} {u : FieldVec} → answer ≡ Ok (value, u) → Changes t answer (Ok value) u
    changes f = record { result = sym (ap given f); list = sym (ap (left t) f) }

-- ---- comparing

pub alike_unlike : (xs ys : List ℕ) → (length xs ≡ length ys → ⊥) → alike xs ys ≡ false
unfolding alike
alike_unlike [] [] d = absurd (d refl)
alike_unlike [] (y ∷ ys) d = refl
alike_unlike (x ∷ xs) [] d = refl
alike_unlike (x ∷ xs) (y ∷ ys) d = rw (alike_unlike xs ys (λ e. d (ap suc e))) (and_false (eqb (x % 1024) (y % 1024)))

pub alike_pairs : (xs ys : List ℕ) → length xs ≡ length ys → alike xs ys ≡ list_all (λ (p : ℕ × ℕ). eqb (p.0 % 1024) (p.1 % 1024)) (zip xs ys)
unfolding alike
alike_pairs [] [] e = refl
alike_pairs [] (y ∷ ys) e = absurd (omega arith)
alike_pairs (x ∷ xs) [] e = absurd (omega arith)
alike_pairs (x ∷ xs) (y ∷ ys) e = ap (λ (b : Bool). eqb (x % 1024) (y % 1024) && b) (alike_pairs xs ys (omega arith))

-- ---- each answer, where it refuses and where it does not

module _ (t : FieldVec) (outside : 7 < t.len) where
  pub got_outside : (i : ℕ) → got t i ≡ Err ListPlace
  unfolding got
  got_outside i = rw (lt-ltb 7 t.len outside)

  pub popped_back_outside : popped_back t ≡ Err ListPlace
  unfolding popped_back
  popped_back_outside = rw (ne_eqb t.len 0 (λ e. absurd (omega arith)), lt-ltb 7 t.len outside)

  pub popped_front_outside : popped_front t ≡ Err ListPlace
  unfolding popped_front
  popped_front_outside = rw (ne_eqb t.len 0 (λ e. absurd (omega arith)), lt-ltb 7 t.len outside)

  pub reversed_outside : reversed t ≡ Err ListPlace
  unfolding reversed
  reversed_outside = rw (lt-ltb 7 t.len outside)

  pub compared_outside : (u : FieldVec) → compared t u ≡ Err ListPlace
  unfolding compared
  compared_outside u = rw (lt-ltb 7 t.len outside)

pub elements_short : (t : FieldVec) → t.len ≤ 7 → length (elements t) ≤ 7
elements_short t whole = omega (arith, length-take t.len t.items)

module _ (t : FieldVec) (seven : length t.items ≡ 7) (whole : t.len ≤ 7) where
  pub elements_length : length (elements t) ≡ t.len
  elements_length = length-take-le t.len t.items (omega arith)

  elements_at : (i : ℕ) → i < t.len → get_or (elements t) i 0 ≡ get_or t.items i 0
  elements_at i h = get_or-take t.len t.items i 0 h

  pub got_at : (i x : ℕ) → i < length (elements t) → x ≡ get_or (elements t) i 0 → Ok (x % 1024) ≡ got t i
  unfolding got
  got_at i x h e =
      let within : i < t.len = omega (arith, elements_length) in
      rw (le-ltb 7 t.len whole, lt-leb t.len i within) (ap (λ (v : ℕ). Ok (v % 1024)) (e ∙ elements_at i within))

  pub got_past : (i : ℕ) → length (elements t) ≤ i → got t i ≡ Err ListPlace
  unfolding got
  got_past i h = rw (le-ltb 7 t.len whole, le-leb t.len i (omega (arith, elements_length)))

  pub popped_back_none : length (elements t) ≡ 0 → popped_back t ≡ Err ListPlace
  unfolding popped_back
  popped_back_none e = let none : t.len ≡ 0 = omega (arith, elements_length) in rw (eq-eqb t.len 0 none)

  pub popped_front_none : length (elements t) ≡ 0 → popped_front t ≡ Err ListPlace
  unfolding popped_front
  popped_front_none e = let none : t.len ≡ 0 = omega (arith, elements_length) in rw (eq-eqb t.len 0 none)

  pub popped_back_last : (rest : List ℕ) (x v : ℕ) → elements t ≡ rest ++ x ∷ [] → v ≡ x % 1024
      → popped_back t ≡ Ok (v, record { items = set t.items (length rest) 0; len = length rest })
  unfolding popped_back
  popped_back_last rest x v e f =
      let places : length (elements t) ≡ length rest + 1 = ap length e ∙ length-append rest (x ∷ []) in
      let at : t.len - 1 ≡ length rest = omega (arith, elements_length) in
      let last : get_or t.items (length rest) 0 ≡ x =
      sym (elements_at (length rest) (omega (arith, elements_length))) ∙ ap (λ (l : List ℕ). get_or l (length rest) 0) e ∙ get_or-append_seam rest x [] 0 in
      rw (ne_eqb t.len 0 (λ e. absurd (omega (arith, elements_length))), le-ltb 7 t.len whole, at, last, f)

  pub popped_front_first : (rest : List ℕ) (x v : ℕ) (u : FieldVec) → elements t ≡ x ∷ rest → v ≡ x % 1024 → u ≡ listed rest
      → popped_front t ≡ Ok (v, u)
  unfolding popped_front
  popped_front_first rest x v u e f made =
      let places : length (elements t) ≡ suc (length rest) = ap length e in
      let first : get_or t.items 0 0 ≡ x = sym (elements_at 0 (omega (arith, elements_length))) ∙ ap (λ (l : List ℕ). get_or l 0 0) e in
      let after : drop 1 (elements t) ≡ rest = ap (drop 1) e in
      rw (ne_eqb t.len 0 (λ e. absurd (omega (arith, elements_length))), le-ltb 7 t.len whole, first, after, f, made)

  pub reversed_whole : (u : FieldVec) → u ≡ listed (reverse (elements t)) → reversed t ≡ Ok (tt, u)
  unfolding reversed
  reversed_whole u made = rw (le-ltb 7 t.len whole, made)

  pub compared_whole : (u : FieldVec) → u.len ≤ 7 → compared t u ≡ Ok (alike (elements t) (elements u))
  unfolding compared
  compared_whole u h = rw (le-ltb 7 t.len whole, le-ltb 7 u.len h)

  pub compared_other : (u : FieldVec) → 7 < u.len → compared t u ≡ Err ListPlace
  unfolding compared
  compared_other u h = rw (le-ltb 7 t.len whole, lt-ltb 7 u.len h)

pub pointwise_accepted : (t u : FieldVec) → t.len ≡ u.len → t.len ≤ 7 → multiplied_pointwise t u ≡ Ok (tt, listed (pointwise (elements t) (elements u)))
unfolding multiplied_pointwise
pointwise_accepted t u e h = rw (eq-eqb t.len u.len e, le-ltb 7 t.len h)

module _ (t u : FieldVec) where
  pub multiplied_refused : (t.len ≤ 7 → t.len ≡ u.len → ⊥) → multiplied_pointwise t u ≡ Err ListPlace
  unfolding multiplied_pointwise
  multiplied_refused d = by (eqb t.len u.len) (ltb 7 t.len) refl refl
    where
      by : (a b : Bool) → eqb t.len u.len ≡ a → ltb 7 t.len ≡ b
          → pick {A = Result (⊤ × FieldVec) Refusal} a (pick b (Err ListPlace) (Ok (tt, listed (pointwise (elements t) (elements u))))) (Err ListPlace) ≡ Err ListPlace
      by true true e f = refl
      by true false e f = absurd (d (ltb-false 7 t.len f) (eqb→eq t.len u.len (rw e tt)))
      by false b e f = refl

  pub multiplied_whole : (made : FieldVec) → t.len ≡ u.len → t.len ≤ 7 → made ≡ listed (pointwise (elements t) (elements u))
      → multiplied_pointwise t u ≡ Ok (tt, made)
  multiplied_whole made e h f = pointwise_accepted t u e h ∙ ap (λ (w : FieldVec). Ok (tt, w)) (sym f)

-- ---- a FieldVec made of a list holds that list

pub elements_listed : (l : List ℕ) → elements (listed l) ≡ l
elements_listed l = take-append_seam l _

-- a push puts one element at the end
pub elements_pushed : (t : FieldVec) (v : ℕ) → t.len < 7 → length t.items ≡ 7 → elements (left t (pushed t v)) ≡ elements t ++ (v % 1024 ∷ [])
unfolding pushed
elements_pushed t v h e =
    let k : t.len < length t.items = omega arith in rw (lt-leb _ _ h, add-one, take-suc-set t.items t.len (v % 1024))

-- a pop takes the last one off
pub elements_popped : (t : FieldVec) → 0 < t.len → t.len ≤ 7 → elements (left t (popped_back t)) ≡ take (t.len - 1) t.items
unfolding popped_back
elements_popped t h k =
    rw (ne_eqb t.len 0 (λ e. absurd (omega arith)), le-ltb 7 t.len k) (take-set-le (t.len - 1) t.items (t.len - 1) 0 (le_refl (t.len - 1)))

-- ---- where nothing is refused

pub powers_accepted : (base n : ℕ) → n ≤ 7 → powers_given base n ≡ Ok (listed (table (power base) n))
unfolding powers_given
powers_accepted base n h = rw (le-ltb 7 n h)
