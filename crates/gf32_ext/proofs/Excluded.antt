-- Wrong answers that the promises rule out, each one that a slip in the code would give. 32 is the element e.
use mathlib.Core.Path.{◌≡◌}
use Prim.Native.Nat.{ℕ}
use native.Mathlib.Omega.{arith}
use Rattle.laws.specs.Xor.{◌⊕◌}
use Rattle.gf32.specs.Field.{products, times_a, sum as sum32, product as product32}
use Rattle.std.specs.Prelude.{Ok}
use Rattle.gf32_ext.specs.Field.{sum, product, inverse, inverse_of, quotient}
use Rattle.gf32_ext.specs.Promises.{Added, Multiplied, Inverted, Divided}

-- a sum that keeps a coefficient both elements have
pub sum_not_or : Added 32 32 32 → ⊥
unfolding sum sum32 ◌⊕◌
sum_not_or p = let e : ◌≡◌ {A = ℕ} 32 0 = p in omega arith

-- a sum that keeps what lies over 1023
pub sum_not_wide : Added 0 1024 1024 → ⊥
unfolding sum sum32 ◌⊕◌
sum_not_wide p = let e : ◌≡◌ {A = ℕ} 1024 0 = p in omega arith

-- e squared taken as 1, and as e: it is e + 1
pub square_not_one : Multiplied 32 32 1 → ⊥
unfolding product product32 products times_a sum32 ◌⊕◌
square_not_one p = let e : ◌≡◌ {A = ℕ} 1 33 = p in omega arith

pub square_not_e : Multiplied 32 32 32 → ⊥
unfolding product product32 products times_a sum32 ◌⊕◌
square_not_e p = let e : ◌≡◌ {A = ℕ} 32 33 = p in omega arith

-- the element itself over its norm, without the conjugate: 1 over e is e + 1
pub inverse_not_itself : Inverted 32 (Ok 32) → ⊥
unfolding inverse_of inverse product product32 products times_a sum32 ◌⊕◌
inverse_not_itself p = let e : ◌≡◌ {A = ℕ} 32 33 = cc in omega arith

-- an inverse of zero
pub inverse_not_of_zero : (v : ℕ) → Inverted 0 (Ok v) → ⊥
unfolding inverse_of
inverse_not_of_zero v p = cc

-- a product for a quotient, and divisor and dividend exchanged: 1 over e is e + 1
pub quotient_not_product : Divided 1 32 (Ok 32) → ⊥
unfolding quotient inverse product product32 products times_a sum32 ◌⊕◌
quotient_not_product p = let e : ◌≡◌ {A = ℕ} 32 33 = cc in omega arith

pub quotient_not_exchanged : Divided 32 1 (Ok 33) → ⊥
unfolding quotient inverse product product32 products times_a sum32 ◌⊕◌
quotient_not_exchanged p = let e : ◌≡◌ {A = ℕ} 33 32 = cc in omega arith

-- zero over zero that is zero
pub quotient_not_of_zero : Divided 0 0 (Ok 0) → ⊥
unfolding quotient
quotient_not_of_zero p = cc
