-- Powers in GF(1024); and the root generator 1 + 6e: its order is 1023, and its powers 24, 25 and 26 are roots of the checksum's generator.
-- The order is one computed walk over all its powers, with products by GF(32)'s table.
use mathlib.Core.Path.{◌≡◌, refl, sym, ap, ◌∙◌, subst, fun_ext}
use mathlib.Core.Bool.{Bool, not, ◌&&◌}
use Prim.Native.Nat.{ℕ, zero, suc, ◌+◌, ◌-◌, ◌*◌, ◌%◌, ◌<◌, ◌≤◌}
use native.Mathlib.Nat.{mod-eq_of_lt, zero-add, suc-add, add_comm, add-suc, mul-suc, mul-zero}
use native.Mathlib.Decide.{ℕ_discrete}
use native.Mathlib.Omega.{arith}
use lib.Dec.{T, eqb, eqb→eq, T_not, lit<}
use Rattle.laws.specs.Xor.{◌⊕◌}
use Rattle.laws.proofs.Bools.{and_left, and_right}
use Rattle.gf32.specs.Field.{products, times_a, sum as sum32, product as product32}
use Rattle.gf32.proofs.Field.{fast, fast_is}
use Rattle.gf32_ext.specs.Field.{low, high, packed, sum, product, power}
use Rattle.gf32_ext.specs.Roots.{generator_at, root_generator}
use Rattle.gf32_ext.proofs.Field.{product_is, product_lt, product_mod_left, product_comm, product_assoc, product_left_comm, product_one, one_product}
use Rattle.gf32_ext.proofs.Norm.{cancels, cancels_left}

pub power_lt : (x n : ℕ) → power x n < 1024
unfolding power
power_lt x zero = lit< tt
power_lt x (suc n) = product_lt x (power x n)

pub power_mod : (x n : ℕ) → power (x % 1024) n ≡ power x n
unfolding power
power_mod x zero = refl
power_mod x (suc n) = product_mod_left x (power (x % 1024) n) ∙ ap (product x) (power_mod x n)

pub power_none : (x : ℕ) → power x 0 ≡ 1
unfolding power
power_none x = refl

pub power_more : (x n : ℕ) → power x (suc n) ≡ product x (power x n)
unfolding power
power_more x n = refl

pub power_one : (x : ℕ) → power x 1 ≡ x % 1024
unfolding power
power_one x = product_one x

pub power_plus : (x m n : ℕ) → power x (m + n) ≡ product (power x m) (power x n)
unfolding power
power_plus x zero n = ap (power x) (zero-add n) ∙ sym (one_product (power x n) ∙ mod-eq_of_lt (power_lt x n))
power_plus x (suc m) n = ap (power x) (suc-add m n) ∙ ap (product x) (power_plus x m n) ∙ sym (product_assoc x (power x m) (power x n))

pub power_of_one : (n : ℕ) → power 1 n ≡ 1
unfolding power
power_of_one zero = refl
power_of_one (suc n) = one_product (power 1 n) ∙ mod-eq_of_lt (power_lt 1 n) ∙ power_of_one n

pub power_of_product : (x y n : ℕ) → power (product x y) n ≡ product (power x n) (power y n)
unfolding power
power_of_product x y zero = sym (product_one 1)
power_of_product x y (suc n) =
    ap (product (product x y)) (power_of_product x y n) ∙ product_assoc x y (product (power x n) (power y n))
    ∙ ap (product x) (product_left_comm y (power x n) (power y n)) ∙ sym (product_assoc x (power x n) (product y (power y n)))

pub power_of_power : (x m n : ℕ) → power (power x m) n ≡ power x (m * n)
unfolding power
power_of_power x m zero = sym (ap (power x) (mul-zero m))
power_of_power x m (suc n) =
    ap (product (power x m)) (power_of_power x m n) ∙ sym (power_plus x m (m * n))
    ∙ ap (power x) (add_comm m (m * n) ∙ sym (mul-suc m n))

pub power_nonzero : (x n : ℕ) → (x % 1024 ≡ 0 → ⊥) → power x n ≡ 0 → ⊥
unfolding power
power_nonzero x zero nonzero e = absurd (omega arith)
power_nonzero x (suc n) nonzero e =
    power_nonzero x n nonzero
    (sym (mod-eq_of_lt (power_lt x n)) ∙ cancels x nonzero (power x n) (product_comm (power x n) x ∙ e))

-- ---- products by GF(32)'s table, for computed tests

abbrev pub product_by : (ℕ → ℕ → ℕ) → ℕ → ℕ → ℕ
product_by op x y =
    packed (op (low x) (low y) ⊕ op (high x) (high y)) ((op (low x) (high y) ⊕ op (high x) (low y)) ⊕ op (high x) (high y))

pub by_product32 : product_by product32 ≡ product
by_product32 = fun_ext (λ x. fun_ext (λ y. sym (product_is x y)))

pub by_table : product_by fast ≡ product
by_table = ap product_by fast_is ∙ by_product32

-- ---- the order of the root generator

-- y, and n - 1 more after it, each the root generator times the one before, are not 1; the one after them is
abbrev walk : (ℕ → ℕ → ℕ) → ℕ → ℕ → Bool
walk op zero y = eqb y 1
walk op (suc n) y = not (eqb y 1) && walk op n (op root_generator y)

walk_test : T (walk (product_by fast) 1022 root_generator)
unfolding ◌⊕◌
walk_test = tt

walked : T (walk product 1022 root_generator)
walked = subst (λ (op : ℕ → ℕ → ℕ). T (walk op 1022 root_generator)) by_table walk_test

round_from : (n j : ℕ) → T (walk product n (power root_generator j)) → power root_generator (n + j) ≡ 1
unfolding power
round_from zero j t = ap (power root_generator) (zero-add j) ∙ eqb→eq (power root_generator j) 1 t
round_from (suc n) j t =
    ap (power root_generator) (suc-add n j ∙ sym (add-suc n j))
    ∙ round_from n (suc j) (and_right (not (eqb (power root_generator j) 1)) (walk product n (power root_generator (suc j))) t)

not_one_from : (n j : ℕ) → T (walk product n (power root_generator j)) → (k : ℕ) → j ≤ k → k < n + j → power root_generator k ≡ 1 → ⊥
unfolding power
not_one_from zero j t k h l e = omega arith
not_one_from (suc n) j t k h l e =
    by (ℕ_discrete j k) (λ b. not_one_from n (suc j) (and_right (not (eqb (power root_generator j) 1)) (walk product n (power root_generator (suc j))) t) k b (omega arith) e)
  where
    by : Dec (j ≡ k) → (suc j ≤ k → ⊥) → ⊥
    by (yes s) later =
        T_not (eqb (power root_generator j) 1)
        (and_left (not (eqb (power root_generator j) 1)) (walk product n (power root_generator (suc j))) t)
        (rw (ap (power root_generator) s ∙ e) tt)
    by (no d) later = later (omega (arith, d))

first_power : power root_generator 1 ≡ root_generator
first_power = power_one root_generator

walked_from_one : T (walk product 1022 (power root_generator 1))
walked_from_one = rw first_power walked

-- the root generator's order is 1023, that of the whole group
pub generator_round : power root_generator 1023 ≡ 1
generator_round = round_from 1022 1 walked_from_one

pub generator_order : (n : ℕ) → 0 < n → n < 1023 → power root_generator n ≡ 1 → ⊥
generator_order n h l e = not_one_from 1022 1 walked_from_one n h l e

pub generator_nonzero : (n : ℕ) → power root_generator n ≡ 0 → ⊥
generator_nonzero n = power_nonzero root_generator n (λ e. absurd (omega arith))

-- its powers below 1023 are all different
pub generator_differs : (m n : ℕ) → m < n → n < 1023 → power root_generator m ≡ power root_generator n → ⊥
generator_differs m n h l e =
    generator_order (n - m) (omega arith) (omega arith)
    (sym (mod-eq_of_lt (power_lt root_generator (n - m)))
    ∙ cancels_left (power root_generator m) (λ z. generator_nonzero m (sym (mod-eq_of_lt (power_lt root_generator m)) ∙ z)) (power root_generator (n - m)) 1
    (sym (power_plus root_generator m (n - m)) ∙ ap (power root_generator) meets ∙ sym e
    ∙ sym (product_one (power root_generator m) ∙ mod-eq_of_lt (power_lt root_generator m))))
  where
    meets : m + (n - m) ≡ n
    meets = omega arith

-- ---- document 01, "The rules": three consecutive powers are roots of the checksum's generator

pub root_24 : generator_at (power root_generator 24) ≡ 0
unfolding generator_at power product sum product32 products times_a sum32 ◌⊕◌
root_24 = refl

pub root_25 : generator_at (power root_generator 25) ≡ 0
unfolding generator_at power product sum product32 products times_a sum32 ◌⊕◌
root_25 = refl

pub root_26 : generator_at (power root_generator 26) ≡ 0
unfolding generator_at power product sum product32 products times_a sum32 ◌⊕◌
root_26 = refl
