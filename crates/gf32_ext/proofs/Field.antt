-- GF(1024) is a ring: the laws of `sum` and `product`, at every number. Each comes down to GF(32)'s laws at the two coefficients.
use mathlib.Core.Path.{◌≡◌, sym, ap, ap₂, ◌∙◌}
use Prim.Native.Nat.{ℕ, ◌+◌, ◌*◌, ◌/◌, ◌%◌, ◌^◌, ◌<◌}
use native.Mathlib.Nat.{mod-lt, zero-lt-suc, mod-eq_of_lt, add_comm, mul_comm}
use native.Mathlib.Omega.{arith}
use lib.Bits.{xor_shifted}
use Rattle.laws.specs.Xor.{◌⊕◌}
use Rattle.laws.proofs.Xor.{⊕_comm, ⊕_assoc, ⊕_self, ⊕_zero, zero_⊕, ⊕_lt, ⊕_four, xor-laws}
use Rattle.laws.proofs.Additive.{add_mod, add_shr, add_shl}
use Rattle.gf32.specs.Field.{sum as sum32, product as product32}
use Rattle.gf32.proofs.Field.{below32, mod_mod as mod-mod32, product_lt as product32-lt, product_comm as product32-comm, product_assoc as product32-assoc, product_⊕ as product32-⊕, ⊕_product as ⊕-product32, product_zero as product32-zero, zero_product as zero-product32, product_one as product32-one}
use Rattle.gf32_ext.specs.Field.{low, high, packed, sum, product}

-- ---- numbers and their two coefficients

pub below1024 : (x : ℕ) → x % 1024 < 1024
below1024 x = mod-lt x (zero-lt-suc 1023)

pub low_lt : (x : ℕ) → low x < 32
low_lt x = below32 x

pub high_lt : (x : ℕ) → high x < 32
high_lt x = below32 (x / 32)

pub packed_lt : (a b : ℕ) → a < 32 → b < 32 → packed a b < 1024
packed_lt a b ha hb = omega arith

pub low_packed : (a b : ℕ) → a < 32 → low (packed a b) ≡ a
low_packed a b ha = omega arith

pub high_packed : (a b : ℕ) → a < 32 → b < 32 → high (packed a b) ≡ b
high_packed a b ha hb = omega arith

pub packed_zero : (a : ℕ) → packed a 0 ≡ a
packed_zero a = omega arith

-- an element is its two coefficients
pub whole : (x : ℕ) → packed (low x) (high x) ≡ x % 1024
whole x = omega arith

pub low_mod : (x : ℕ) → low (x % 1024) ≡ low x
low_mod x = omega arith

pub high_mod : (x : ℕ) → high (x % 1024) ≡ high x
high_mod x = omega arith

pub sum32_is : (a b : ℕ) → a < 32 → b < 32 → sum32 a b ≡ a ⊕ b
unfolding sum32
sum32_is a b ha hb = ap₂ (λ (x y : ℕ). x ⊕ y) (mod-eq_of_lt ha) (mod-eq_of_lt hb)

pub ⊕_lt32 : (a b : ℕ) → a < 32 → b < 32 → a ⊕ b < 32
⊕_lt32 a b ha hb = ⊕_lt 5 a b ha hb

packed_is : (a b : ℕ) → a < 32 → packed a b ≡ b * 2 ^ 5 ⊕ a
unfolding ◌⊕◌
packed_is a b ha = add_comm a (32 * b) ∙ ap (λ (n : ℕ). n + a) (mul_comm 32 b) ∙ sym (xor_shifted b 5 a ha)

-- pairs are added coefficient by coefficient
packed_⊕ : (a b c d : ℕ) → a < 32 → c < 32 → packed a b ⊕ packed c d ≡ packed (a ⊕ c) (b ⊕ d)
packed_⊕ a b c d ha hc =
    ap₂ (λ (x y : ℕ). x ⊕ y) (packed_is a b ha) (packed_is c d hc)
    ∙ ⊕_four (b * 2 ^ 5) a (d * 2 ^ 5) c
    ∙ ap (λ (x : ℕ). x ⊕ (a ⊕ c)) (sym (add_shl 5 b d))
    ∙ sym (packed_is (a ⊕ c) (b ⊕ d) (⊕_lt32 a c ha hc))

-- ---- sums

-- the ten bits at once
pub sum_is : (x y : ℕ) → sum x y ≡ x % 1024 ⊕ y % 1024
unfolding sum
sum_is x y =
    ap₂ packed (sum32_is (low x) (low y) (low_lt x) (low_lt y)) (sum32_is (high x) (high y) (high_lt x) (high_lt y))
    ∙ sym (packed_⊕ (low x) (high x) (low y) (high y) (low_lt x) (low_lt y))
    ∙ ap₂ (λ (a b : ℕ). a ⊕ b) (whole x) (whole y)

pub sum_lt : (x y : ℕ) → sum x y < 1024
sum_lt x y = rw (sum_is x y) (⊕_lt 10 (x % 1024) (y % 1024) (below1024 x) (below1024 y))

pub sum_comm : (x y : ℕ) → sum x y ≡ sum y x
sum_comm x y = sum_is x y ∙ ⊕_comm (x % 1024) (y % 1024) ∙ sym (sum_is y x)

mod_mod : (x : ℕ) → x % 1024 % 1024 ≡ x % 1024
mod_mod x = mod-eq_of_lt (below1024 x)

pub sum_mod_left : (x y : ℕ) → sum (x % 1024) y ≡ sum x y
sum_mod_left x y = sum_is (x % 1024) y ∙ ap (λ (a : ℕ). a ⊕ y % 1024) (mod_mod x) ∙ sym (sum_is x y)

pub sum_mod_right : (x y : ℕ) → sum x (y % 1024) ≡ sum x y
sum_mod_right x y = sum_comm x (y % 1024) ∙ sum_mod_left y x ∙ sum_comm y x

pub sum_mod : (x y : ℕ) → sum x y % 1024 ≡ sum x y
sum_mod x y = mod-eq_of_lt (sum_lt x y)

pub sum_assoc : (x y z : ℕ) → sum (sum x y) z ≡ sum x (sum y z)
sum_assoc x y z =
    sum_is (sum x y) z ∙ ap (λ (a : ℕ). a ⊕ z % 1024) (sum_mod x y ∙ sum_is x y) ∙ ⊕_assoc (x % 1024) (y % 1024) (z % 1024)
    ∙ ap (λ (a : ℕ). x % 1024 ⊕ a) (sym (sum_mod y z ∙ sum_is y z)) ∙ sym (sum_is x (sum y z))

pub sum_left_comm : (x y z : ℕ) → sum x (sum y z) ≡ sum y (sum x z)
sum_left_comm x y z = sym (sum_assoc x y z) ∙ ap (λ (a : ℕ). sum a z) (sum_comm x y) ∙ sum_assoc y x z

pub sum_zero : (x : ℕ) → sum x 0 ≡ x % 1024
sum_zero x = sum_is x 0 ∙ ⊕_zero (x % 1024)

pub zero_sum : (x : ℕ) → sum 0 x ≡ x % 1024
zero_sum x = sum_comm 0 x ∙ sum_zero x

-- each element is its own opposite
pub sum_self : (x : ℕ) → sum x x ≡ 0
sum_self x = sum_is x x ∙ ⊕_self (x % 1024)

-- ---- products

-- the coefficients of a product
abbrev pub product_low : ℕ → ℕ → ℕ
product_low x y = product32 (low x) (low y) ⊕ product32 (high x) (high y)

abbrev pub product_high : ℕ → ℕ → ℕ
product_high x y = (product32 (low x) (high y) ⊕ product32 (high x) (low y)) ⊕ product32 (high x) (high y)

pub product_low_lt : (x y : ℕ) → product_low x y < 32
product_low_lt x y = ⊕_lt32 _ _ (product32-lt (low x) (low y)) (product32-lt (high x) (high y))

crossed_lt : (x y : ℕ) → product32 (low x) (high y) ⊕ product32 (high x) (low y) < 32
crossed_lt x y = ⊕_lt32 _ _ (product32-lt (low x) (high y)) (product32-lt (high x) (low y))

pub product_high_lt : (x y : ℕ) → product_high x y < 32
product_high_lt x y = ⊕_lt32 _ _ (crossed_lt x y) (product32-lt (high x) (high y))

pub product_is : (x y : ℕ) → product x y ≡ packed (product_low x y) (product_high x y)
unfolding product
product_is x y =
    ap₂ packed (sum32_is _ _ (product32-lt (low x) (low y)) (product32-lt (high x) (high y)))
    (ap (λ (a : ℕ). sum32 a (product32 (high x) (high y))) (sum32_is _ _ (product32-lt (low x) (high y)) (product32-lt (high x) (low y)))
    ∙ sum32_is _ _ (crossed_lt x y) (product32-lt (high x) (high y)))

pub product_lt : (x y : ℕ) → product x y < 1024
product_lt x y = rw (product_is x y) (packed_lt _ _ (product_low_lt x y) (product_high_lt x y))

pub low_product : (x y : ℕ) → low (product x y) ≡ product_low x y
low_product x y = ap low (product_is x y) ∙ low_packed _ (product_high x y) (product_low_lt x y)

pub high_product : (x y : ℕ) → high (product x y) ≡ product_high x y
high_product x y = ap high (product_is x y) ∙ high_packed _ _ (product_low_lt x y) (product_high_lt x y)

pub product_mod : (x y : ℕ) → product x y % 1024 ≡ product x y
product_mod x y = mod-eq_of_lt (product_lt x y)

pub product_mod_left : (x y : ℕ) → product (x % 1024) y ≡ product x y
unfolding product
product_mod_left x y = rw (low_mod x, high_mod x)

pub product_comm : (x y : ℕ) → product x y ≡ product y x
product_comm x y =
    product_is x y
    ∙ ap₂ packed (simp (product32-comm, ⊕_comm)) (simp (product32-comm, xor-laws))
    ∙ sym (product_is y x)

pub product_mod_right : (x y : ℕ) → product x (y % 1024) ≡ product x y
product_mod_right x y = product_comm x (y % 1024) ∙ product_mod_left y x ∙ product_comm y x

pub product_assoc : (x y z : ℕ) → product (product x y) z ≡ product x (product y z)
product_assoc x y z =
    rw (product_is (product x y) z, low_product x y, high_product x y, product_is x (product y z), low_product y z, high_product y z)
    (ap₂ packed
    (simp (⊕-product32, product32-⊕, product32-assoc, xor-laws))
    (simp (⊕-product32, product32-⊕, product32-assoc, xor-laws)))

pub product_left_comm : (x y z : ℕ) → product x (product y z) ≡ product y (product x z)
product_left_comm x y z = sym (product_assoc x y z) ∙ ap (λ (a : ℕ). product a z) (product_comm x y) ∙ product_assoc y x z

low_sum : (x y : ℕ) → low (sum x y) ≡ low x ⊕ low y
low_sum x y = ap low (sum_is x y) ∙ add_mod 5 (x % 1024) (y % 1024) ∙ ap₂ (λ (a b : ℕ). a ⊕ b) (low_mod x) (low_mod y)

high_sum : (x y : ℕ) → high (sum x y) ≡ high x ⊕ high y
high_sum x y =
    ap high (sum_is x y) ∙ ap (λ (n : ℕ). n % 32) (add_shr 5 (x % 1024) (y % 1024)) ∙ add_mod 5 (x % 1024 / 32) (y % 1024 / 32)
    ∙ ap₂ (λ (a b : ℕ). a ⊕ b) (high_mod x) (high_mod y)

pub product_sum : (x y z : ℕ) → product x (sum y z) ≡ sum (product x y) (product x z)
product_sum x y z =
    rw (sum_is (product x y) (product x z), product_mod x y, product_mod x z, product_is x (sum y z), low_sum y z, high_sum y z, product_is x y, product_is x z)
    (ap₂ packed (simp (product32-⊕, xor-laws)) (simp (product32-⊕, xor-laws))
    ∙ sym (packed_⊕ (product_low x y) (product_high x y) (product_low x z) (product_high x z) (product_low_lt x y) (product_low_lt x z)))

pub sum_product : (x y z : ℕ) → product (sum x y) z ≡ sum (product x z) (product y z)
sum_product x y z = product_comm (sum x y) z ∙ product_sum z x y ∙ ap₂ sum (product_comm z x) (product_comm z y)

pub product_zero : (x : ℕ) → product x 0 ≡ 0
product_zero x = ap (product x) (sym (sum_self 0)) ∙ product_sum x 0 0 ∙ sum_self (product x 0)

pub zero_product : (x : ℕ) → product 0 x ≡ 0
zero_product x = product_comm 0 x ∙ product_zero x

pub product_one : (x : ℕ) → product x 1 ≡ x % 1024
product_one x =
    rw (product_is x 1)
    (ap₂ packed (simp (product32-zero, product32-one, ⊕_zero, mod-mod32)) (simp (product32-zero, product32-one, ⊕_zero, zero_⊕, mod-mod32)) ∙ whole x)

pub one_product : (x : ℕ) → product 1 x ≡ x % 1024
one_product x = product_comm 1 x ∙ product_one x

-- ---- GF(32) within: a symbol is the same number in both fields, and sums and products are the same

high_small : (x : ℕ) → x < 32 → high x ≡ 0
high_small x h = omega arith

pub sum_embeds : (x y : ℕ) → x < 32 → y < 32 → sum x y ≡ sum32 x y
sum_embeds x y hx hy = sum_is x y ∙ ap₂ (λ (a b : ℕ). a ⊕ b) (mod-eq_of_lt (omega arith)) (mod-eq_of_lt (omega arith)) ∙ sym (sum32_is x y hx hy)

pub product_embeds : (x y : ℕ) → x < 32 → y < 32 → product x y ≡ product32 x y
product_embeds x y hx hy =
    rw (product_is x y, high_small x hx, high_small y hy, mod-eq_of_lt hx, mod-eq_of_lt hy)
    (simp (product32-zero, zero-product32, ⊕_zero) (packed_zero (product32 x y)))
