-- One change and the values at the three roots: each test of `place_of` fails only where no place explains the residue, and where all pass the
-- root's exponent does.
use mathlib.Core.Path.{◌≡◌, refl, sym, ap, ◌∙◌}
use mathlib.Core.Logic.{◌≢◌}
use mathlib.Core.Bool.{Bool, true, false}
use mathlib.Core.List.{[], ◌∷◌}
use Prim.Native.Nat.{ℕ, ◌*◌, ◌%◌, ◌^◌, ◌<◌, ◌≤◌}
use native.Mathlib.Nat.{mod-eq_of_lt, mul_comm, pos_of_ne-zero}
use native.Mathlib.Omega.{arith}
use lib.Dec.{ltb}
use borrow.Author.Tests.{eqb-true, eq-eqb, ltb-true, ltb-false}
use Rattle.std.specs.Prelude.{Option, Some, None, Ok, Err, is_ok}
use Rattle.numbers.specs.declared.Refusal.{Refusal}
use Rattle.laws.specs.Pick.{pick}
use Rattle.laws.specs.Xor.{◌⊕◌}
use Rattle.laws.proofs.Xor.{⊕_eq, ⊕_self}
use Rattle.laws.proofs.First.{found_from, not_later_from}
use Rattle.gf32_ext.specs.Field.{sum, product, power, quotient}
use Rattle.gf32_ext.specs.Roots.{root_generator}
use Rattle.gf32_ext.proofs.Field.{sum_is, product_comm, product_mod, product_zero, product_one, zero_sum}
use Rattle.gf32_ext.proofs.Norm.{no_quotient, divisor_nonzero, quotient_times, other_factor}
use Rattle.gf32_ext.proofs.Powers.{power_lt, power_of_power, power_nonzero}
use Rattle.fieldvec.specs.Lists.{listed}
use Rattle.polynomial.specs.Polynomials.{value_at, is_root}
use Rattle.polynomial.specs.Answers.{root_from, first_root}
use Rattle.polynomial.proofs.Values.{value_none, value_cons}
use Rattle.detection.specs.Places.{Explains}
use Rattle.detection.specs.Roots.{turns}
use Rattle.detection.proofs.Orbit.{turns_nonzero}
use Rattle.detection.proofs.Values.{value_lt}
use Rattle.detection.proofs.Syndromes.{Syndromes}
use Rattle.detection.proofs.Locate.{syndromes_of_explains, explains_of_syndromes}
use Rattle.correction.specs.Values.{ValuesOf}
use Rattle.correction.specs.declared.Values.{Values}
use Rattle.correction.proofs.Elements.{turns_are}

generator_power : (p : ℕ) → power root_generator p % 1024 ≡ power root_generator p
generator_power p = mod-eq_of_lt (power_lt root_generator p)

power_24_of : (p : ℕ) → power (power root_generator p) 24 ≡ power root_generator (24 * p)
power_24_of p = power_of_power root_generator p 24 ∙ ap (power root_generator) (mul_comm p 24)

module _ {residue constant : ℕ} {values : Values} (read : ValuesOf residue constant values) where
  first_lt : values.at_24 < 1024
  first_lt = rw read.at_24 (value_lt 24 (residue ⊕ constant))

  second_lt : values.at_25 < 1024
  second_lt = rw read.at_25 (value_lt 25 (residue ⊕ constant))

  -- ---- what a place that explains says of the values

  module _ {p : ℕ} (x : Explains residue constant p) where
    said : Syndromes p x.change (residue ⊕ constant)
    said = syndromes_of_explains residue constant p x

    change_lt : x.change < 1024
    change_lt = omega (arith, x.proper)

    first_said : values.at_24 ≡ product x.change (power (power root_generator p) 24)
    first_said =
        read.at_24 ∙ said.at_24 ∙ turns_are (24 * p) x.change change_lt
        ∙ product_comm (power root_generator (24 * p)) x.change ∙ ap (product x.change) (sym (power_24_of p))

    second_said : values.at_25 ≡ product (power root_generator p) values.at_24
    second_said =
        read.at_25 ∙ said.at_25 ∙ ap (turns p) (sym read.at_24) ∙ turns_are p values.at_24 first_lt

    third_said : values.at_26 ≡ product (power root_generator p) values.at_25
    third_said = read.at_26 ∙ said.at_26 ∙ ap (turns p) (sym read.at_25) ∙ turns_are p values.at_25 second_lt

    first_nonzero : values.at_24 % 1024 ≡ 0 → ⊥
    first_nonzero z =
        omega (
          arith,
          x.proper,
          turns_nonzero (24 * p) x.change change_lt (sym said.at_24 ∙ sym read.at_24 ∙ sym (mod-eq_of_lt first_lt) ∙ z),
        )

    pub has_ratio : (m : Refusal) → Err m ≡ quotient values.at_25 values.at_24 → ⊥
    has_ratio m e = first_nonzero (no_quotient values.at_25 values.at_24 m e)

    module _ {ratio : ℕ} (divided : Ok ratio ≡ quotient values.at_25 values.at_24) where
      pub ratio_is : ratio ≡ power root_generator p
      ratio_is = other_factor values.at_25 values.at_24 ratio divided (power root_generator p) second_said ∙ generator_power p

      pub one_ratio : product ratio values.at_25 ≡ values.at_26
      one_ratio = ap (λ (a : ℕ). product a values.at_25) ratio_is ∙ sym third_said

      pub has_change : (m : Refusal) → Err m ≡ quotient values.at_24 (power ratio 24) → ⊥
      has_change m e =
          power_nonzero (power root_generator p) 24 power_of_generator
          (sym (mod-eq_of_lt (power_lt (power root_generator p) 24)) ∙ ap (λ (a : ℕ). power a 24 % 1024) (sym ratio_is)
          ∙ no_quotient values.at_24 (power ratio 24) m e)
        where
          power_of_generator : power root_generator p % 1024 ≡ 0 → ⊥
          power_of_generator z = power_nonzero root_generator p (λ e. omega arith) (sym (generator_power p) ∙ z)

      pub small_change : (change : ℕ) → Ok change ≡ quotient values.at_24 (power ratio 24) → change < 32
      small_change change e =
          rw (other_factor values.at_24 (power ratio 24) change e x.change (rw ratio_is first_said) ∙ mod-eq_of_lt change_lt) x.proper.1

  -- ---- and what the values say of a place

  module _ (residue_lt : residue < 2 ^ 30) (constant_lt : constant < 2 ^ 30) where
    pub place_explains : {ratio change : ℕ} (p : ℕ) → Ok ratio ≡ quotient values.at_25 values.at_24 → product ratio values.at_25 ≡ values.at_26
        → Ok change ≡ quotient values.at_24 (power ratio 24) → change < 32 → power root_generator p ≡ ratio → Explains residue constant p
    place_explains {ratio} {change} p divided next left small root =
        explains_of_syndromes residue constant p residue_lt constant_lt change (pos_of_ne-zero change_nonzero, small)
        (record {
          at_24 = sym read.at_24 ∙ first_is ∙ sym (turns_are (24 * p) change (omega arith));
          at_25 = sym read.at_25 ∙ second_is ∙ sym (turns_are p values.at_24 first_lt) ∙ ap (turns p) read.at_24;
          at_26 =
              sym read.at_26 ∙ sym next ∙ ap (λ (a : ℕ). product a values.at_25) (sym root)
              ∙ sym (turns_are p values.at_25 second_lt) ∙ ap (turns p) read.at_25;
        })
      where
        first_is : values.at_24 ≡ product (power root_generator (24 * p)) change
        first_is =
            sym (mod-eq_of_lt first_lt) ∙ sym (quotient_times values.at_24 (power ratio 24) change left) ∙ product_comm change (power ratio 24)
            ∙ ap (λ (a : ℕ). product (power a 24) change) (sym root) ∙ ap (λ (a : ℕ). product a change) (power_24_of p)

        second_is : values.at_25 ≡ product (power root_generator p) values.at_24
        second_is =
            sym (mod-eq_of_lt second_lt) ∙ sym (quotient_times values.at_25 values.at_24 ratio divided)
            ∙ ap (λ (a : ℕ). product a values.at_24) (sym root)

        change_nonzero : change ≢ 0
        change_nonzero z =
            divisor_nonzero values.at_25 values.at_24 ratio divided
            (ap (λ (a : ℕ). a % 1024) (first_is ∙ ap (product (power root_generator (24 * p))) z ∙ product_zero (power root_generator (24 * p))))

-- ---- the root of x + z

root_value : (x z : ℕ) → value_at (x ∷ 1 ∷ []) z ≡ z % 1024 ⊕ x % 1024
root_value x z =
    value_cons x (1 ∷ []) z
    ∙ ap (λ (a : ℕ). sum (product z a) x)
    (value_cons 1 [] z ∙ ap (λ (a : ℕ). sum (product z a) 1) (value_none z) ∙ ap (λ (a : ℕ). sum a 1) (product_zero z) ∙ zero_sum 1)
    ∙ sum_is (product z 1) x ∙ ap (λ (a : ℕ). a ⊕ x % 1024) (product_mod z 1 ∙ product_one z)

pub root_is : (x z : ℕ) → x < 1024 → z < 1024 → is_root (x ∷ 1 ∷ []) z ≡ true → z ≡ x
root_is x z hx hz e =
    sym (mod-eq_of_lt hz) ∙ ⊕_eq (z % 1024) (x % 1024) (sym (root_value x z) ∙ eqb-true (value_at (x ∷ 1 ∷ []) z) 0 e) ∙ mod-eq_of_lt hx

pub is_root_lem : (x z : ℕ) → z ≡ x → is_root (x ∷ 1 ∷ []) z ≡ true
is_root_lem x z e = eq-eqb (value_at (x ∷ 1 ∷ []) z) 0 (root_value x z ∙ ap (λ (a : ℕ). a % 1024 ⊕ x % 1024) e ∙ ⊕_self (x % 1024))

-- ---- the search for it

abbrev test : ℕ → ℕ → Bool
test x e = is_root (x ∷ 1 ∷ []) (power root_generator e)

module _ (x : ℕ) where
  at : ℕ
  at = root_from (x ∷ 1 ∷ []) root_generator 0

  searched : first_root (listed (x ∷ 1 ∷ [])) root_generator 0 ≡ Ok (pick (ltb at 1023) (Some at) None)
  unfolding first_root at
  searched = refl

  pub root_given : is_ok (first_root (listed (x ∷ 1 ∷ [])) root_generator 0) ≡ true
  root_given = ap is_ok searched

  pub root_never_refused : (m : Refusal) → Err m ≡ first_root (listed (x ∷ 1 ∷ [])) root_generator 0 → ⊥
  root_never_refused m e = cc (e, searched)

  early : (p : ℕ) → p < 1023 → x ≡ power root_generator p → at ≤ p
  unfolding root_from at
  early p h same = not_later_from (test x) 1023 0 p (omega arith) (omega arith) (is_root_lem x (power root_generator p) (sym same))

  root_is_first : {r : Option ℕ} → Ok r ≡ first_root (listed (x ∷ 1 ∷ [])) root_generator 0 → r ≡ pick (ltb at 1023) (Some at) None
  root_is_first e = cc (e, searched)

  pub root_there : (p : ℕ) → p < 1023 → x ≡ power root_generator p → Ok None ≡ first_root (listed (x ∷ 1 ∷ [])) root_generator 0 → ⊥
  root_there p h same e = by_test (ltb at 1023) refl (root_is_first e)
    where
      by_test : (b : Bool) → ltb at 1023 ≡ b → None ≡ pick b (Some at) None → ⊥
      by_test true seen e = cc
      by_test false seen e =
          let late : 1023 ≤ at = ltb-false at 1023 seen in
          omega (arith, early p h same)

  module _ (h : x < 1024) (p : ℕ) (e : Ok (Some p) ≡ first_root (listed (x ∷ 1 ∷ [])) root_generator 0) where
    found : (p ≡ at) × (at < 1023)
    found = by_test (ltb at 1023) refl (root_is_first e)
      where
        by_test : (b : Bool) → ltb at 1023 ≡ b → Some p ≡ pick b (Some at) None → (p ≡ at) × (at < 1023)
        by_test true seen e = (cc, ltb-true at 1023 seen)
        by_test false seen e = absurd cc

    pub root_below : p < 1023
    root_below = rw found.0 found.1

    pub root_found : power root_generator p ≡ x
    unfolding root_from at
    root_found =
        root_is x (power root_generator p) h (power_lt root_generator p)
        (ap (test x) found.0 ∙ found_from (test x) 1023 0 found.1)
