-- Wrong answers that the promises rule out, each one that a slip in the code would give.
use mathlib.Core.Path.{◌≡◌, ap, sym}
use mathlib.Core.Bool.{true, false, false≢true}
use mathlib.Core.List.{[], ◌∷◌}
use Prim.Native.Nat.{ℕ}
use native.Mathlib.Omega.{arith}
use lib.ListN.{get_or, length, replicate}
use Rattle.std.specs.Prelude.{Result, Ok, Err}
use Rattle.std.specs.Result.{result_unwrap_or}
use Rattle.laws.specs.Xor.{◌⊕◌}
use Rattle.gf32.specs.Field.{products, times_a, sum as sum32, product as product32}
use Rattle.gf32_ext.specs.Field.{product, power}
use Rattle.numbers.specs.declared.Refusal.{Refusal}
use Rattle.numbers.proofs.Numbers.{ok_injective}
use Rattle.numbers.specs.declared.Refusal.TheVariants.{ListFull, ListPlace}
use Rattle.fieldvec.specs.declared.FieldVec.{FieldVec}
use Rattle.fieldvec.specs.Lists.{listed, shown, pushed, popped_back, popped_front, got, pointwise, multiplied_pointwise, reversed, alike, compared, lifted, powers_given}
use Rattle.fieldvec.specs.Promises.{Emptied, Shown, Pushed, PoppedBack, PoppedFront, Got, MultipliedPointwise, Reversed, Compared, Lifted, PowersGiven, Narrowed}

-- an empty list that counts one element, and one with ones in its places
pub empty_not_counted : Emptied (record { items = replicate 7 0; len = 1 }) → ⊥
empty_not_counted p = let e : ◌≡◌ {A = ℕ} 1 0 = ap (λ (r : FieldVec). r.len) p in omega arith

pub empty_not_ones : Emptied (record { items = replicate 7 1; len = 0 }) → ⊥
empty_not_ones p = let e : ◌≡◌ {A = ℕ} 1 0 = ap (λ (r : FieldVec). get_or r.items 0 0) p in omega arith

-- numbers that lie elsewhere, more places shown than are counted, a list shown that counts more than there is room for, and a full list refused
pub not_elsewhere : Shown (listed (1 ∷ [])) (0, 0) (Ok (record { ref_ptr = (0, 8); now = 1 ∷ [] })) → ⊥
unfolding shown
not_elsewhere p = let e : ◌≡◌ {A = ℕ} 8 0 = ap (λ s. s.ref_ptr.1) (ok_injective _ _ p) in omega arith

pub not_every_place : (place at : ℕ × ℕ) → Shown (listed (1 ∷ [])) place (Ok (record { ref_ptr = at; now = 1 ∷ 0 ∷ [] })) → ⊥
unfolding shown
not_every_place place at p = let e : ◌≡◌ {A = ℕ} 2 1 = ap (λ s. length s.now) (ok_injective _ _ p) in omega arith

pub not_over_capacity : (place at : ℕ × ℕ) → Shown (record { items = replicate 7 0; len = 8 }) place (Ok (record { ref_ptr = at; now = replicate 7 0 })) → ⊥
unfolding shown
not_over_capacity place at p = cc

pub full_not_refused : (place : ℕ × ℕ) → Shown (listed (1 ∷ 2 ∷ 3 ∷ 4 ∷ 5 ∷ 6 ∷ 7 ∷ [])) place (Err ListPlace) → ⊥
unfolding shown
full_not_refused place p = cc

-- an element stored by nine of its ten bits
pub push_not_narrower : Pushed (listed []) 1023 (Ok tt) (listed (511 ∷ [])) → ⊥
unfolding pushed
push_not_narrower p = let e : ◌≡◌ {A = ℕ} 511 1023 = ap (λ (r : FieldVec). get_or r.items 0 0) p.list in omega arith

-- a list that is full at six
pub push_not_full_early : Pushed (listed (1 ∷ 2 ∷ 3 ∷ 4 ∷ 5 ∷ 6 ∷ [])) 7 (Err ListFull) (listed (1 ∷ 2 ∷ 3 ∷ 4 ∷ 5 ∷ 6 ∷ [])) → ⊥
unfolding pushed
push_not_full_early p = cc (p.result)

-- an element without its highest bit, from the end and from a place
pub pop_not_narrower : PoppedBack (listed (1023 ∷ [])) (Ok 511) (listed []) → ⊥
unfolding popped_back
pop_not_narrower p = let e : ◌≡◌ {A = ℕ} 511 1023 = cc (p.result) in omega arith

pub get_not_narrower : Got (listed (1023 ∷ [])) 0 (Ok 511) → ⊥
unfolding got
get_not_narrower p = let e : ◌≡◌ {A = ℕ} 511 1023 = cc in omega arith

-- a place that is not zero once its element is taken
pub pop_not_left_behind : PoppedBack (listed (5 ∷ [])) (Ok 5) (record { items = 5 ∷ replicate 6 0; len = 0 }) → ⊥
unfolding popped_back
pop_not_left_behind p = let e : ◌≡◌ {A = ℕ} 5 0 = ap (λ (r : FieldVec). get_or r.items 0 0) p.list in omega arith

-- the last element for the first, and a list that keeps the element taken off
pub front_not_last : PoppedFront (listed (1 ∷ 2 ∷ [])) (Ok 2) (listed (1 ∷ [])) → ⊥
unfolding popped_front
front_not_last p = let e : ◌≡◌ {A = ℕ} 2 1 = cc (p.result) in omega arith

pub front_not_kept : PoppedFront (listed (1 ∷ 2 ∷ [])) (Ok 1) (listed (1 ∷ 2 ∷ [])) → ⊥
unfolding popped_front
front_not_kept p = let e : ◌≡◌ {A = ℕ} 2 1 = ap (λ (r : FieldVec). r.len) p.list in omega arith

-- a place past the count that is answered
pub get_not_past_the_count : Got (listed (1 ∷ [])) 1 (Ok 0) → ⊥
unfolding got
get_not_past_the_count p = cc

-- a product of lists of unlike lengths
pub not_unlike : MultipliedPointwise (listed (1 ∷ [])) (listed []) (Ok tt) (listed []) → ⊥
unfolding multiplied_pointwise
not_unlike p = cc (p.result)

-- one list's elements multiplied with themselves
pub not_squared : MultipliedPointwise (listed (2 ∷ [])) (listed (3 ∷ [])) (Ok tt) (listed (4 ∷ [])) → ⊥
unfolding multiplied_pointwise pointwise product product32 products times_a sum32 ◌⊕◌
not_squared p = let e : ◌≡◌ {A = ℕ} 4 6 = ap (λ (r : FieldVec). get_or r.items 0 0) p.list in omega arith

-- a reversal that leaves the list as it is, and the last element in every place
pub not_left_alone : Reversed (listed (1 ∷ 2 ∷ [])) (Ok tt) (listed (1 ∷ 2 ∷ [])) → ⊥
unfolding reversed
not_left_alone p = let e : ◌≡◌ {A = ℕ} 1 2 = ap (λ (r : FieldVec). get_or r.items 0 0) p.list in omega arith

pub not_the_last_only : Reversed (listed (1 ∷ 2 ∷ [])) (Ok tt) (listed (2 ∷ 2 ∷ [])) → ⊥
unfolding reversed
not_the_last_only p = let e : ◌≡◌ {A = ℕ} 2 1 = ap (λ (r : FieldVec). get_or r.items 1 0) p.list in omega arith

-- lists that are never the same, and elements compared by nine of their ten bits
pub not_always_different : Compared (listed (1 ∷ [])) (listed (1 ∷ [])) (Ok false) → ⊥
unfolding compared alike
not_always_different p = let e : false ≡ true = cc in false≢true e

pub equal_not_narrower : Compared (listed (1 ∷ [])) (listed (513 ∷ [])) (Ok true) → ⊥
unfolding compared alike
equal_not_narrower p = let e : true ≡ false = cc in false≢true (sym e)

-- the empty list for any symbols, and seven symbols refused
pub lift_not_always_empty : Lifted (31 ∷ []) (Ok (listed [])) → ⊥
unfolding lifted
lift_not_always_empty p = let e : ◌≡◌ {A = ℕ} 0 1 = ap (λ (r : Result FieldVec Refusal). (result_unwrap_or r (listed [])).len) p in omega arith

pub lift_not_full_early : Lifted (1 ∷ 2 ∷ 3 ∷ 4 ∷ 5 ∷ 6 ∷ 7 ∷ []) (Err ListFull) → ⊥
unfolding lifted
lift_not_full_early p = cc

-- a list of powers that is always empty, and one that starts with the element itself
pub powers_not_always_empty : PowersGiven 2 1 (Ok (listed [])) → ⊥
unfolding powers_given power
powers_not_always_empty p = let e : ◌≡◌ {A = ℕ} 0 1 = ap (λ (r : Result FieldVec Refusal). (result_unwrap_or r (listed [])).len) p in omega arith

pub powers_not_from_one : PowersGiven 2 1 (Ok (listed (2 ∷ []))) → ⊥
unfolding powers_given power
powers_not_from_one p = let e : ◌≡◌ {A = ℕ} 2 1 = ap (λ (r : Result FieldVec Refusal). get_or (result_unwrap_or r (listed [])).items 0 0) p in omega arith

-- nine of ten bits kept, and a number kept that is no element
pub narrowed_not_further : Narrowed 1023 511 → ⊥
narrowed_not_further p = let e : ◌≡◌ {A = ℕ} 511 1023 = p in omega arith

pub narrowed_to_an_element : Narrowed 1024 1024 → ⊥
narrowed_to_an_element p = let e : ◌≡◌ {A = ℕ} 1024 0 = p in omega arith
