-- Document 01, "The rules", the checksum as algebra: the generator, and the element of which three consecutive powers are its roots.
use Rattle.std.specs.Prelude.{ℕ}
use Rattle.gf32_ext.specs.Field.{sum, product, power}

-- x^6 + 29x^5 + 22x^4 + 20x^3 + 21x^2 + 29x + 18
unfoldable pub generator_at : ℕ → ℕ
generator_at x =
    sum (power x 6)
    (sum (product 29 (power x 5))
    (sum (product 22 (power x 4))
    (sum (product 20 (power x 3))
    (sum (product 21 (power x 2))
    (sum (product 29 x) 18)))))

-- 1 + 6e, which the Rust names in primitives/mod.rs, with 24, 25 and 26 as the exponents
abbrev pub root_generator : ℕ
root_generator = 193
