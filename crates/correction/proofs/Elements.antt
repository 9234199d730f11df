-- What `detection` computes by turns is what the port computes in GF(1024): turns are products with powers of 1 + 6e, and a residue's value at
-- such a power is that of its polynomial. What carries it: a turn and the product with 1 + 6e both respect exclusive or, and agree at ten numbers.
use mathlib.Core.Path.{◌≡◌, refl, sym, ap, ap₂, ◌∙◌}
use mathlib.Core.List.{List, [], ◌∷◌}
use Prim.Native.Nat.{ℕ, zero, suc, ◌/◌, ◌%◌, ◌<◌, ◌≤◌}
use native.Mathlib.Nat.{mod-eq_of_lt}
use native.Mathlib.Omega.{arith}
use lib.Bits.{bit_xor}
use lib.Dec.{T, lit≤}
use Rattle.laws.specs.Xor.{◌⊕◌, columns}
use Rattle.laws.specs.Times.{times}
use Rattle.laws.proofs.Xor.{⊕_is, ⊕_comm}
use Rattle.laws.proofs.Additive.{Additive, add_mod, agree, basis}
use Rattle.gf32.specs.Field.{products, times_a, sum as sum32, product as product32}
use Rattle.gf32_ext.specs.Field.{sum, product, power}
use Rattle.gf32_ext.specs.Roots.{root_generator}
use Rattle.gf32_ext.proofs.Field.{sum_is, product_lt, product_mod, product_mod_right, product_assoc, product_sum, one_product}
use Rattle.gf32_ext.proofs.Powers.{power_none, power_more}
use Rattle.fieldvec.specs.declared.FieldVec.{FieldVec}
use Rattle.fieldvec.specs.Lists.{elements, listed}
use Rattle.fieldvec.proofs.Laws.{elements_listed}
use Rattle.polynomial.specs.Polynomials.{value_at, residue_polynomial}
use Rattle.polynomial.proofs.Values.{value_none, value_cons}
use Rattle.detection.specs.Roots.{turn, turns, value_of, value}
use Rattle.detection.proofs.Orbit.{turn_add}
use Rattle.detection.proofs.Values.{value_of_lt}

product_add : (x : ℕ) → Additive (product x)
product_add x a b =
    sym (product_mod_right x (a ⊕ b)) ∙ ap (product x) (add_mod 10 a b ∙ sym (sum_is a b)) ∙ product_sum x a b
    ∙ sum_is (product x a) (product x b) ∙ ap₂ (λ (m n : ℕ). m ⊕ n) (product_mod x a) (product_mod x b)

computed : T (agree turn (product root_generator) 10)
unfolding turn columns ◌⊕◌ sum product sum32 product32 products times_a
computed = tt

turn_is : (y : ℕ) → y < 1024 → turn y ≡ product root_generator y
turn_is = basis turn (product root_generator) turn_add (product_add root_generator) 10 computed

pub turns_are : (k y : ℕ) → y < 1024 → turns k y ≡ product (power root_generator k) y
unfolding times
turns_are zero y h = sym (ap (λ (a : ℕ). product a y) (power_none root_generator) ∙ one_product y ∙ mod-eq_of_lt h)
turns_are (suc k) y h =
    ap turn (turns_are k y h) ∙ turn_is (product (power root_generator k) y) (product_lt (power root_generator k) y)
    ∙ sym (ap (λ (a : ℕ). product a y) (power_more root_generator k) ∙ product_assoc root_generator (power root_generator k) y)

-- the n lowest symbols, the lowest first
symbols_of : ℕ → ℕ → List ℕ
symbols_of zero r = []
symbols_of (suc n) r = r % 32 ∷ symbols_of n (r / 32)

value_of_symbols : (k n r : ℕ) → value_at (symbols_of n r) (power root_generator k) ≡ value_of k n r
unfolding symbols_of value_of
value_of_symbols k zero r = value_none (power root_generator k)
value_of_symbols k (suc n) r =
    value_cons (r % 32) (symbols_of n (r / 32)) (power root_generator k)
    ∙ sum_is (product (power root_generator k) (value_at (symbols_of n (r / 32)) (power root_generator k))) (r % 32)
    ∙ ap₂ (λ (a b : ℕ). a ⊕ b) (higher (value_of_symbols k n (r / 32))) (mod-eq_of_lt (omega arith)) ∙ ⊕_comm (turns k (value_of k n (r / 32))) (r % 32)
  where
    higher : {v : ℕ} → v ≡ value_of k n (r / 32) → product (power root_generator k) v % 1024 ≡ turns k (value_of k n (r / 32))
    higher {v} e =
        product_mod (power root_generator k) v ∙ ap (product (power root_generator k)) e
        ∙ sym (turns_are k (value_of k n (r / 32)) (value_of_lt k n (r / 32)))

six_symbols_lem : (r : ℕ) → symbols_of 6 r ≡ residue_polynomial r
unfolding symbols_of residue_polynomial
six_symbols_lem r =
    let two : r / 32 / 32 ≡ r / 1024 = omega arith in
    let three : r / 32 / 32 / 32 ≡ r / 32768 = omega arith in
    let four : r / 32 / 32 / 32 / 32 ≡ r / 1048576 = omega arith in
    let five : r / 32 / 32 / 32 / 32 / 32 ≡ r / 33554432 = omega arith in
    rw (five, four, three, two) refl

pub value_is : (k r : ℕ) → value_at (residue_polynomial r) (power root_generator k) ≡ value k r
unfolding value
value_is k r = ap (λ (l : List ℕ). value_at l (power root_generator k)) (sym (six_symbols_lem r)) ∙ value_of_symbols k 6 r

-- ---- the three roots as numbers

pub root_24 : power root_generator 24 ≡ 780
unfolding power sum product sum32 product32 products times_a ◌⊕◌
root_24 = refl

pub root_25 : power root_generator 25 ≡ 878
unfolding power sum product sum32 product32 products times_a ◌⊕◌
root_25 = refl

pub root_26 : power root_generator 26 ≡ 966
unfolding power sum product sum32 product32 products times_a ◌⊕◌
root_26 = refl

-- ---- as the code has it

pub difference_length : {p : FieldVec} (a b : ℕ) → p ≡ listed (residue_polynomial (bit_xor a b)) → p.len ≤ 7
unfolding residue_polynomial
difference_length a b e = rw e (lit≤ tt)

pub syndrome : {p : FieldVec} {v x : ℕ} (a b k : ℕ) → p ≡ listed (residue_polynomial (bit_xor a b)) → power root_generator k ≡ x → v ≡ value_at (elements p) x
    → v ≡ value k (a ⊕ b)
syndrome a b k e root given =
    given ∙ ap₂ value_at (ap elements e ∙ elements_listed (residue_polynomial (bit_xor a b))) (sym root) ∙ value_is k (bit_xor a b)
    ∙ ap (value k) (sym (⊕_is a b))
