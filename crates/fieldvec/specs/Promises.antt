-- What each public function promises, and that two answers which keep the promise are equal; for one that changes a list, the lists that it
-- leaves too.
use Rattle.std.specs.Prelude.{◌≡◌, Bool, ⊤, Result, List, [], ℕ, ◌%◌}
use denote.Ref.{Bor}
use Rattle.laws.proofs.Bools.{same}
use Rattle.numbers.specs.declared.Refusal.{Refusal}
use Rattle.gf32_ext.specs.Field.{field_order}
use Rattle.fieldvec.specs.declared.FieldVec.{FieldVec}
use Rattle.fieldvec.specs.Lists.{given, left, listed, shown, pushed, popped_back, popped_front, got, multiplied_pointwise, reversed, compared, lifted, powers_given}

-- the call gives what the answer gives, and leaves what it leaves of the list t
pub record Changes {A : Type 0} (t : FieldVec) (answer : Result (A × FieldVec) Refusal) (r : Result A Refusal) (u : FieldVec) : Type 0 where
  pub result : r ≡ given answer
  pub list : u ≡ left t answer

once : {A : Type 0} {t : FieldVec} {answer : Result (A × FieldVec) Refusal} {r s : Result A Refusal} {u w : FieldVec}
    → Changes t answer r u → Changes t answer s w → (r ≡ s) × (u ≡ w)
once p q = (same p.result q.result, same p.list q.list)

-- fieldvec::FieldVec::new
abbrev pub Emptied : FieldVec → Type 0
Emptied r = r ≡ listed []

pub emptied_once : (r s : FieldVec) → Emptied r → Emptied s → r ≡ s
emptied_once r s p q = same p q

-- fieldvec::FieldVec::elements: the slice begins where the list lies
abbrev pub Shown : FieldVec → ℕ × ℕ → Result (Bor (List ℕ)) Refusal → Type 0
Shown t place r = r ≡ shown t place

pub shown_once : (t : FieldVec) (place : ℕ × ℕ) (r s : Result (Bor (List ℕ)) Refusal) → Shown t place r → Shown t place s → r ≡ s
shown_once t place r s p q = same p q

-- fieldvec::FieldVec::push
abbrev pub Pushed : FieldVec → ℕ → Result ⊤ Refusal → FieldVec → Type 0
Pushed t v r u = Changes t (pushed t v) r u

pub pushed_once : (t : FieldVec) (v : ℕ) (r s : Result ⊤ Refusal) (u w : FieldVec) → Pushed t v r u → Pushed t v s w → (r ≡ s) × (u ≡ w)
pushed_once t v r s u w p q = once p q

-- fieldvec::FieldVec::pop
abbrev pub PoppedBack : FieldVec → Result ℕ Refusal → FieldVec → Type 0
PoppedBack t r u = Changes t (popped_back t) r u

pub popped_back_once : (t : FieldVec) (r s : Result ℕ Refusal) (u w : FieldVec) → PoppedBack t r u → PoppedBack t s w → (r ≡ s) × (u ≡ w)
popped_back_once t r s u w p q = once p q

-- fieldvec::FieldVec::pop_front
abbrev pub PoppedFront : FieldVec → Result ℕ Refusal → FieldVec → Type 0
PoppedFront t r u = Changes t (popped_front t) r u

pub popped_front_once : (t : FieldVec) (r s : Result ℕ Refusal) (u w : FieldVec) → PoppedFront t r u → PoppedFront t s w → (r ≡ s) × (u ≡ w)
popped_front_once t r s u w p q = once p q

-- fieldvec::FieldVec::get
abbrev pub Got : FieldVec → ℕ → Result ℕ Refusal → Type 0
Got t i r = r ≡ got t i

pub got_once : (t : FieldVec) (i : ℕ) (r s : Result ℕ Refusal) → Got t i r → Got t i s → r ≡ s
got_once t i r s p q = same p q

-- fieldvec::FieldVec::multiply_pointwise
abbrev pub MultipliedPointwise : FieldVec → FieldVec → Result ⊤ Refusal → FieldVec → Type 0
MultipliedPointwise t o r u = Changes t (multiplied_pointwise t o) r u

pub multiplied_pointwise_once : (t o : FieldVec) (r s : Result ⊤ Refusal) (u w : FieldVec)
    → MultipliedPointwise t o r u → MultipliedPointwise t o s w → (r ≡ s) × (u ≡ w)
multiplied_pointwise_once t o r s u w p q = once p q

-- fieldvec::FieldVec::reverse
abbrev pub Reversed : FieldVec → Result ⊤ Refusal → FieldVec → Type 0
Reversed t r u = Changes t (reversed t) r u

pub reversed_once : (t : FieldVec) (r s : Result ⊤ Refusal) (u w : FieldVec) → Reversed t r u → Reversed t s w → (r ≡ s) × (u ≡ w)
reversed_once t r s u w p q = once p q

-- fieldvec::FieldVec::equal
abbrev pub Compared : FieldVec → FieldVec → Result Bool Refusal → Type 0
Compared t u r = r ≡ compared t u

pub compared_once : (t : FieldVec) (u : FieldVec) (r s : Result Bool Refusal) → Compared t u r → Compared t u s → r ≡ s
compared_once t u r s p q = same p q

-- fieldvec::lift
abbrev pub Lifted : List ℕ → Result FieldVec Refusal → Type 0
Lifted symbols r = r ≡ lifted symbols

pub lifted_once : (symbols : List ℕ) (r s : Result FieldVec Refusal) → Lifted symbols r → Lifted symbols s → r ≡ s
lifted_once symbols r s p q = same p q

-- fieldvec::powers
abbrev pub PowersGiven : ℕ → ℕ → Result FieldVec Refusal → Type 0
PowersGiven base n r = r ≡ powers_given base n

pub powers_given_once : (base : ℕ) (n : ℕ) (r s : Result FieldVec Refusal) → PowersGiven base n r → PowersGiven base n s → r ≡ s
powers_given_once base n r s p q = same p q

-- fieldvec::narrowed
abbrev pub Narrowed : ℕ → ℕ → Type 0
Narrowed element r = r ≡ element % field_order

pub narrowed_once : (element r s : ℕ) → Narrowed element r → Narrowed element s → r ≡ s
narrowed_once element r s p q = same p q
