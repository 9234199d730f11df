-- GF(1024), from document 01, module 2: the extension of GF(32) of degree 2, in the Rust's representation (gf32_ext.rs): e with
-- e^2 = e + 1 is added, and the element a0 + a1 e is the number a0 + 32 * a1. A number over 1023 counts by its remainder
-- (docs/DECISIONS.md), so that every number has a meaning.
use Rattle.std.specs.Prelude.{Result, Ok, Err, ℕ, zero, suc, ◌+◌, ◌*◌, ◌/◌, ◌%◌, eqb}
use Rattle.laws.specs.Pick.{pick}
use Rattle.numbers.specs.declared.Refusal.{Refusal}
use Rattle.numbers.specs.declared.Refusal.TheVariants.{DivisionByZero}
use Rattle.laws.specs.Lists.{first_below}
use Rattle.gf32.specs.Field.{sum as sum32, product as product32}

-- how many elements the field has
abbrev pub field_order : ℕ
field_order = 1024

-- the two coefficients of an element, each of GF(32), and the element that has them
abbrev pub low : ℕ → ℕ
low x = x % 32

abbrev pub high : ℕ → ℕ
high x = x / 32 % 32

abbrev pub packed : ℕ → ℕ → ℕ
packed a0 a1 = a0 + 32 * a1

-- coefficients are added each for itself
unfoldable pub sum : ℕ → ℕ → ℕ
sum x y = packed (sum32 (low x) (low y)) (sum32 (high x) (high y))

-- (x0 + x1 e)(y0 + y1 e) = x0 y0 + (x0 y1 + x1 y0) e + x1 y1 e^2, and e^2 is e + 1
unfoldable pub product : ℕ → ℕ → ℕ
product x y =
    packed
    (sum32 (product32 (low x) (low y)) (product32 (high x) (high y)))
    (sum32 (sum32 (product32 (low x) (high y)) (product32 (high x) (low y))) (product32 (high x) (high y)))

-- the number below the field's order whose product with y is 1; the order where there is none, as for 0
unfoldable pub inverse : ℕ → ℕ
inverse y = first_below field_order (λ x. eqb (product x y) 1)

-- document 01, answer 27: zero has no inverse, and no division by zero has a value, whatever is divided
unfoldable pub inverse_of : ℕ → Result ℕ Refusal
inverse_of y = pick (eqb (y % field_order) 0) (Err DivisionByZero) (Ok (inverse y))

unfoldable pub quotient : ℕ → ℕ → Result ℕ Refusal
quotient x y = pick (eqb (y % field_order) 0) (Err DivisionByZero) (Ok (product x (inverse y)))

-- x multiplied with itself, n times x in all
unfoldable pub power : ℕ → ℕ → ℕ
power x zero = 1
power x (suc n) = product x (power x n)
