-- The answers: those of the polynomial that a FieldVec means. Document 01, answer 26: a FieldVec whose count is over its capacity; 25: a product
-- of more coefficients than a list has room for; 27: powers of zero, which are none.
use Rattle.std.specs.Prelude.{Bool, Option, Some, None, Result, Ok, Err, List, ℕ, ◌-◌, ◌%◌, eqb, ltb, length}
use Rattle.laws.specs.Pick.{pick}
use Rattle.laws.specs.Lists.{first_from}
use Rattle.numbers.specs.declared.Refusal.{Refusal}
use Rattle.numbers.specs.declared.Refusal.TheVariants.{ListFull, ListPlace, DivisionByZero}
use Rattle.gf32_ext.specs.Field.{field_order, power}
use Rattle.fieldvec.specs.declared.FieldVec.{FieldVec}
use Rattle.fieldvec.specs.Lists.{capacity, elements, listed}
use Rattle.polynomial.specs.Polynomials.{degree, leading, value_at, is_root, derivative}
use Rattle.polynomial.specs.Products.{product_modulo, convolved}

-- the answer for the polynomial that p means, unless p counts more than its capacity
abbrev pub about : {A : Type 0} → FieldVec → (List ℕ → Result A Refusal) → Result A Refusal
about p answer = pick (ltb capacity p.len) (Err ListPlace) (answer (elements p))

unfoldable pub degree_of : FieldVec → Result ℕ Refusal
degree_of p = about p (λ cs. Ok (degree cs))

unfoldable pub leading_of : FieldVec → Result ℕ Refusal
leading_of p = about p (λ cs. Ok (leading cs))

unfoldable pub zero_is_root : FieldVec → Result Bool Refusal
zero_is_root p = about p (λ cs. Ok (is_root cs 0))

unfoldable pub value_of : FieldVec → ℕ → Result ℕ Refusal
value_of p x = about p (λ cs. Ok (value_at cs x))

unfoldable pub derivative_of : FieldVec → Result FieldVec Refusal
derivative_of p = about p (λ cs. Ok (listed (derivative cs)))

-- a list for which there is room, or 25
abbrev pub fitting : List ℕ → Result FieldVec Refusal
fitting l = pick (ltb capacity (length l)) (Err ListFull) (Ok (listed l))

unfoldable pub product_of : FieldVec → FieldVec → ℕ → Result FieldVec Refusal
product_of p q d = about p (λ a. about q (λ b. fitting (product_modulo a b d)))

unfoldable pub convolution_of : FieldVec → FieldVec → Result FieldVec Refusal
convolution_of p q = about p (λ a. about q (λ b. Ok (listed (convolved a b))))

-- the order of the field's multiplicative group
abbrev pub group_order : ℕ
group_order = 1023

-- the first exponent from k on, below the group's order, at which the power of the base is a root; the order or more where there is none
unfoldable pub root_from : List ℕ → ℕ → ℕ → ℕ
root_from cs base k = first_from k (group_order - k) (λ e. is_root cs (power base e))

-- that exponent, if there is one
abbrev pub root_after : List ℕ → ℕ → ℕ → Option ℕ
root_after cs base k = pick (ltb (root_from cs base k) group_order) (Some (root_from cs base k)) None

unfoldable pub first_root : FieldVec → ℕ → ℕ → Result (Option ℕ) Refusal
first_root p base k = about p (λ cs. pick (eqb (base % field_order) 0) (Err DivisionByZero) (Ok (root_after cs base k)))
