-- Inverses and quotients in GF(1024): an inverse is the conjugate over the norm. The norm lies in GF(32), and is zero for zero alone by
-- one computed test.
use mathlib.Core.Path.{◌≡◌, refl, sym, ap, ap₂, ◌∙◌, subst}
use mathlib.Core.Bool.{Bool, true, false, not}
use Prim.Native.Nat.{ℕ, zero, suc, ◌%◌, ◌<◌}
use native.Mathlib.Nat.{mod-eq_of_lt}
use native.Mathlib.Decide.{ℕ_discrete}
use native.Mathlib.Omega.{arith}
use borrow.Author.Tests.{eq-eqb, ne_eqb}
use lib.Dec.{T, eqb, T_not}
use Rattle.laws.specs.Xor.{◌⊕◌}
use Rattle.laws.specs.Pick.{pick}
use Rattle.laws.specs.Lists.{all_below}
use Rattle.laws.proofs.Below.{below}
use Rattle.laws.proofs.Xor.{xor-laws}
use Rattle.gf32.specs.Field.{products, times_a, sum as sum32, product as product32, inverse as inverse32, quotient as quotient32}
use Rattle.gf32.proofs.Field.{fast, fast_is, divides as divides32, product_lt as product32-lt, product_comm as product32-comm, product_assoc as product32-assoc, product_⊕ as product32-⊕, ⊕_product as ⊕-product32}
use Rattle.std.specs.Prelude.{Ok, Err}
use Rattle.numbers.specs.declared.Refusal.{Refusal}
use Rattle.numbers.specs.declared.Refusal.TheVariants.{DivisionByZero}
use Rattle.gf32_ext.specs.Field.{low, high, packed, product, inverse, inverse_of, quotient}
use Rattle.laws.proofs.First.{first_below_lem}
use Rattle.gf32_ext.proofs.Field.{below1024, low_lt, high_lt, low_packed, high_packed, packed_lt, packed_zero, low_mod, high_mod, sum32_is, ⊕_lt32, product_is, product_lt, product_mod, product_comm, product_assoc, product_one, one_product, zero_product}

product32_left_comm : (a b c : ℕ) → product32 a (product32 b c) ≡ product32 b (product32 a c)
product32_left_comm a b c = sym (product32-assoc a b c) ∙ ap (λ (x : ℕ). product32 x c) (product32-comm a b) ∙ product32-assoc b a c

ruleset laws32 = (⊕-product32, product32-⊕, product32-assoc, product32-comm, product32_left_comm, xor-laws)

-- as the code computes them: the sum of both coefficients, which is the conjugate's first; the norm; and the conjugate times s
abbrev pub both : ℕ → ℕ
both y = sum32 (low y) (high y)

abbrev pub norm : ℕ → ℕ
norm y = sum32 (product32 (low y) (both y)) (product32 (high y) (high y))

abbrev pub reciprocal : ℕ → ℕ → ℕ
reciprocal y s = packed (product32 (both y) s) (product32 (high y) s)

both_is : (y : ℕ) → both y ≡ low y ⊕ high y
both_is y = sum32_is (low y) (high y) (low_lt y) (high_lt y)

norm_is : (y : ℕ) → norm y ≡ product32 (low y) (low y ⊕ high y) ⊕ product32 (high y) (high y)
norm_is y =
    ap (λ (b : ℕ). sum32 (product32 (low y) b) (product32 (high y) (high y))) (both_is y)
    ∙ sum32_is _ _ (product32-lt (low y) (low y ⊕ high y)) (product32-lt (high y) (high y))

norm_lt : (y : ℕ) → norm y < 32
norm_lt y = rw (norm_is y) (⊕_lt32 _ _ (product32-lt (low y) (low y ⊕ high y)) (product32-lt (high y) (high y)))

module _ (a b n : ℕ) where
  -- the conjugate of a + b e, times n, times a + b e: the norm times n, and nothing at e
  low_part : product32 (product32 (a ⊕ b) n) a ⊕ product32 (product32 b n) b ≡ product32 n (product32 a (a ⊕ b) ⊕ product32 b b)
  low_part = simp laws32

  high_part : (product32 (product32 (a ⊕ b) n) b ⊕ product32 (product32 b n) a) ⊕ product32 (product32 b n) b ≡ 0
  high_part = simp laws32

pub reciprocal_product : (y n : ℕ) → product (reciprocal y n) y ≡ product32 n (norm y)
reciprocal_product y n =
    rw (
      product_is (reciprocal y n) y,
      low_packed (product32 (both y) n) (product32 (high y) n) (product32-lt (both y) n),
      high_packed (product32 (both y) n) (product32 (high y) n) (product32-lt (both y) n) (product32-lt (high y) n),
      norm_is y,
      both_is y,
    )
    (ap₂ packed (low_part (low y) (high y) n) (high_part (low y) (high y) n)
    ∙ packed_zero _)

reciprocal_lt : (y n : ℕ) → reciprocal y n < 1024
reciprocal_lt y n = packed_lt _ _ (product32-lt (both y) n) (product32-lt (high y) n)

-- ---- the norm is zero for zero alone

abbrev norm_by : (ℕ → ℕ → ℕ) → ℕ → ℕ
norm_by op y = op (low y) (low y ⊕ high y) ⊕ op (high y) (high y)

norms_test : T (all_below 1023 (λ k. not (eqb (norm_by fast (suc k)) 0)))
unfolding ◌⊕◌
norms_test = tt

norm_of_suc : (k : ℕ) → suc k < 1024 → norm (suc k) ≡ 0 → ⊥
norm_of_suc k h e =
    T_not (eqb (norm_by product32 (suc k)) 0)
    (subst (λ (op : ℕ → ℕ → ℕ). T (not (eqb (norm_by op (suc k)) 0))) fast_is (below (λ k. not (eqb (norm_by fast (suc k)) 0)) 1023 norms_test k (omega arith)))
    (rw (sym (norm_is (suc k)) ∙ e) tt)

norm_mod : (y : ℕ) → norm (y % 1024) ≡ norm y
norm_mod y = rw (low_mod y, high_mod y)

norm_at : (y n : ℕ) → y % 1024 ≡ n → norm y ≡ 0 → n ≡ 0
norm_at y zero e z = refl
norm_at y (suc k) e z = absurd (norm_of_suc k (rw e at (below1024 y)) (ap norm (sym e) ∙ norm_mod y ∙ z))

pub norm_zero : (y : ℕ) → norm y ≡ 0 → y % 1024 ≡ 0
norm_zero y z = norm_at y (y % 1024) refl z

pub zero_norm : (y : ℕ) → y % 1024 ≡ 0 → norm y ≡ 0
unfolding sum32 product32 products times_a ◌⊕◌
zero_norm y z = sym (norm_mod y) ∙ ap norm z

-- ---- inverses

module _ (y v : ℕ) (small : v < 1024) (inverts_y : product v y ≡ 1) where
  -- whatever else gives 1 with y is the same element
  unique : (x : ℕ) → product x y ≡ 1 → x % 1024 ≡ v
  unique x e =
      sym (product_one x) ∙ ap (product x) (sym inverts_y ∙ product_comm v y) ∙ sym (product_assoc x y v)
      ∙ ap (λ (a : ℕ). product a v) e ∙ one_product v ∙ mod-eq_of_lt small

  inverse_found : inverse y ≡ v
  unfolding inverse
  inverse_found =
      first_below_lem (λ x. eqb (product x y) 1) 1024 v small (eq-eqb (product v y) 1 inverts_y)
      (λ j h. ne_eqb (product j y) 1 (λ e. not_earlier j h (unique j e)))
    where
      not_earlier : (j : ℕ) → j < v → j % 1024 ≡ v → ⊥
      not_earlier j h e = omega arith

-- what GF(32)'s division gives for 1 over the norm
abbrev scale : ℕ → ℕ
scale y = product32 1 (inverse32 (norm y))

module _ (y : ℕ) (nonzero : y % 1024 ≡ 0 → ⊥) where
  scaled : product32 (scale y) (norm y) ≡ 1
  scaled = divides32 1 (norm y) (λ e. nonzero (norm_zero y (sym (mod-eq_of_lt (norm_lt y)) ∙ e)))

  inverts_reciprocal : product (reciprocal y (scale y)) y ≡ 1
  inverts_reciprocal = reciprocal_product y (scale y) ∙ scaled

  inverse_is : inverse y ≡ reciprocal y (scale y)
  inverse_is = inverse_found y (reciprocal y (scale y)) (reciprocal_lt y (scale y)) inverts_reciprocal

  pub inverts : product (inverse y) y ≡ 1
  inverts = rw inverse_is inverts_reciprocal

  pub inverse_lt : inverse y < 1024
  inverse_lt = rw inverse_is (reciprocal_lt y (scale y))

  -- it is the only one
  pub only_inverse : (x : ℕ) → product x y ≡ 1 → x % 1024 ≡ inverse y
  only_inverse = unique y (inverse y) inverse_lt inverts

  -- what division means: the quotient times the divisor is what was divided
  pub divides : (x : ℕ) → product (product x (inverse y)) y ≡ x % 1024
  divides x = product_assoc x (inverse y) y ∙ ap (product x) inverts ∙ product_one x

  -- there are no zero divisors, and a factor other than zero can be struck out
  pub cancels : (x : ℕ) → product x y ≡ 0 → x % 1024 ≡ 0
  cancels x e =
      sym (product_one x) ∙ ap (product x) (sym inverts ∙ product_comm (inverse y) y) ∙ sym (product_assoc x y (inverse y))
      ∙ ap (λ (a : ℕ). product a (inverse y)) e ∙ zero_product (inverse y)

  pub cancels_left : (x z : ℕ) → product y x ≡ product y z → x % 1024 ≡ z % 1024
  cancels_left x z e = alone x ∙ ap (product (inverse y)) e ∙ sym (alone z)
    where
      alone : (w : ℕ) → w % 1024 ≡ product (inverse y) (product y w)
      alone w = sym (one_product w) ∙ ap (λ (a : ℕ). product a w) (sym inverts) ∙ product_assoc (inverse y) y w

-- ---- what the code finds out by dividing 1 by the norm

refused_at_zero : (y : ℕ) → y % 1024 ≡ 0 → quotient32 1 (norm y) ≡ Err DivisionByZero
unfolding quotient32
refused_at_zero y z = rw (eq-eqb (norm y % 32) 0 (ap (λ (n : ℕ). n % 32) (zero_norm y z)))

given_elsewhere : (y : ℕ) → (y % 1024 ≡ 0 → ⊥) → quotient32 1 (norm y) ≡ Ok (scale y)
unfolding quotient32
given_elsewhere y d = rw (ne_eqb (norm y % 32) 0 (λ e. d (norm_zero y (sym (mod-eq_of_lt (norm_lt y)) ∙ e))))

inverse_of_zero : (y : ℕ) → y % 1024 ≡ 0 → inverse_of y ≡ Err DivisionByZero
unfolding inverse_of
inverse_of_zero y z = rw (eq-eqb (y % 1024) 0 z)

pub inverse_of_nonzero : (y : ℕ) → (y % 1024 ≡ 0 → ⊥) → inverse_of y ≡ Ok (inverse y)
unfolding inverse_of
inverse_of_nonzero y d = rw (ne_eqb (y % 1024) 0 d)

pub none_by_norm : (y : ℕ) (m : Refusal) → Err m ≡ quotient32 1 (norm y) → Err m ≡ inverse_of y
none_by_norm y m e = by (ℕ_discrete (y % 1024) 0)
  where
    by : Dec (y % 1024 ≡ 0) → Err m ≡ inverse_of y
    by (yes z) = e ∙ refused_at_zero y z ∙ sym (inverse_of_zero y z)
    by (no d) = cc (e, given_elsewhere y d)

pub found_by_norm : (y s : ℕ) → Ok s ≡ quotient32 1 (norm y) → Ok (reciprocal y s) ≡ inverse_of y
found_by_norm y s e = by (ℕ_discrete (y % 1024) 0)
  where
    by : Dec (y % 1024 ≡ 0) → Ok (reciprocal y s) ≡ inverse_of y
    by (yes z) = cc (e, refused_at_zero y z)
    by (no d) = let same : s ≡ scale y = cc (e, given_elsewhere y d) in
        ap (λ (n : ℕ). Ok (reciprocal y n)) same ∙ sym (ap Ok (inverse_is y d)) ∙ sym (inverse_of_nonzero y d)

-- ---- division by way of the inverse

none_to_divide : (t : Bool) (x v : ℕ) (m : Refusal) → Err m ≡ pick t (Err DivisionByZero) (Ok v) → Err m ≡ pick t (Err DivisionByZero) (Ok (product x v))
none_to_divide true x v m e = e
none_to_divide false x v m e = cc

one_to_multiply : (t : Bool) (x v w : ℕ) → Ok w ≡ pick t (Err DivisionByZero) (Ok v) → Ok (product x w) ≡ pick t (Err DivisionByZero) (Ok (product x v))
one_to_multiply true x v w e = cc
one_to_multiply false x v w e = let same : w ≡ v = cc in ap (λ (n : ℕ). Ok (product x n)) same

pub none_by_inverse : (x y : ℕ) (m : Refusal) → Err m ≡ inverse_of y → Err m ≡ quotient x y
unfolding inverse_of quotient
none_by_inverse x y m e = none_to_divide (eqb (y % 1024) 0) x (inverse y) m e

pub found_by_inverse : (x y w : ℕ) → Ok w ≡ inverse_of y → Ok (product x w) ≡ quotient x y
unfolding inverse_of quotient
found_by_inverse x y w e = one_to_multiply (eqb (y % 1024) 0) x (inverse y) w e

-- ---- what a quotient says

pub no_quotient : (x y : ℕ) (m : Refusal) → Err m ≡ quotient x y → y % 1024 ≡ 0
unfolding quotient
no_quotient x y m e = by (ℕ_discrete (y % 1024) 0)
  where
    by : Dec (y % 1024 ≡ 0) → y % 1024 ≡ 0
    by (yes z) = z
    by (no d) = absurd (cc (e, ne_eqb (y % 1024) 0 d))

module _ (x y v : ℕ) (given : Ok v ≡ quotient x y) where
  pub divisor_nonzero : y % 1024 ≡ 0 → ⊥
  unfolding quotient
  divisor_nonzero z = cc (given, eq-eqb (y % 1024) 0 z)

  quotient_is : v ≡ product x (inverse y)
  unfolding quotient
  quotient_is = cc (given, ne_eqb (y % 1024) 0 divisor_nonzero)

  pub quotient_lt : v < 1024
  quotient_lt = rw quotient_is (product_lt x (inverse y))

  -- times the divisor it is what was divided
  pub quotient_times : product v y ≡ x % 1024
  quotient_times = ap (λ (a : ℕ). product a y) quotient_is ∙ divides y divisor_nonzero x

  -- so of a product with the divisor it is the other factor
  pub other_factor : (z : ℕ) → x ≡ product z y → v ≡ z % 1024
  other_factor z e =
      sym (mod-eq_of_lt quotient_lt)
      ∙ cancels_left y divisor_nonzero v z (product_comm y v ∙ quotient_times ∙ ap (λ (a : ℕ). a % 1024) e ∙ product_mod z y ∙ product_comm z y)
