-- Products of polynomials, by coefficients.
use Rattle.std.specs.Prelude.{List, [], ◌∷◌, ℕ, zero, suc, ◌+◌, ◌-◌, min, ltb, length, get_or}
use Rattle.laws.specs.Pick.{pick}
use Rattle.laws.specs.Lists.{table}
use Rattle.gf32_ext.specs.Field.{sum, product}
use Rattle.polynomial.specs.Polynomials.{degree, trimmed}

-- f 0 + f 1 + .. , n terms
unfoldable pub sum_below : ℕ → (ℕ → ℕ) → ℕ
sum_below zero f = 0
sum_below (suc n) f = sum (sum_below n f) (f n)

-- the coefficient of x^k in a product: the sum of a_i b_(k - i)
unfoldable pub coefficient : List ℕ → List ℕ → ℕ → ℕ
coefficient a b k = sum_below (suc k) (λ i. product (get_or a i 0) (get_or b (k - i) 0))

-- the coefficients of x^d, x^(d + 1), .., n of them
unfoldable pub coefficients_from : List ℕ → List ℕ → ℕ → ℕ → List ℕ
coefficients_from a b d n = table (λ j. coefficient a b (d + j)) n

-- the product modulo x^d: the coefficients of the places below d. From the two lengths together on there is none but zero.
unfoldable pub product_modulo : List ℕ → List ℕ → ℕ → List ℕ
product_modulo a b d = trimmed (coefficients_from a b 0 (min d (length a + length b)))

-- the Rust's convolution: the coefficients of the product from the first polynomial's degree on, as many as the second list is longer than
-- that; a zero where there are none. The second counts by its length, zeros at its end included (docs/DECISIONS.md).
unfoldable pub convolved : List ℕ → List ℕ → List ℕ
convolved a s =
    pick (ltb (degree a) (length s))
    (coefficients_from a s (degree a) (length s - degree a))
    (0 ∷ [])
