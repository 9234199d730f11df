-- The traps that document 01 names, on the smallest inputs; the checksum's generator and its first root; wrong answers that are ruled out.
use mathlib.Core.Path.{◌≡◌, refl, sym, ap, ◌∙◌}
use mathlib.Core.Bool.{true, false, false≢true}
use mathlib.Core.List.{[], ◌∷◌}
use Prim.Native.Nat.{ℕ}
use native.Mathlib.Omega.{arith}
use lib.ListN.{get_or}
use Rattle.std.specs.Prelude.{Some, None, Result, Ok, Err}
use Rattle.std.specs.Result.{result_unwrap_or}
use Rattle.laws.specs.Xor.{◌⊕◌}
use Rattle.gf32.specs.Field.{products, times_a, sum as sum32, product as product32}
use Rattle.gf32_ext.specs.Field.{sum, product, power}
use Rattle.numbers.specs.declared.Refusal.{Refusal}
use Rattle.fieldvec.specs.declared.FieldVec.{FieldVec}
use Rattle.fieldvec.specs.Lists.{listed}
use Rattle.polynomial.specs.Polynomials.{degree, leading, value_from, value_at, trimmed, multiple, multiples, derivative, residue_polynomial}
use Rattle.polynomial.specs.Products.{sum_below, coefficient, coefficients_from, product_modulo, convolved}
use Rattle.polynomial.specs.Answers.{degree_of, leading_of, zero_is_root, value_of, derivative_of, product_of, convolution_of, root_from, first_root}
use Rattle.polynomial.specs.Promises.{DegreeGiven, LeadingGiven, ZeroAsked, Evaluated, Derived, Multiplied, Convolved, FromResidue, RootFound}

-- the empty list is the zero polynomial, and has degree 0
empty_degree : degree_of (listed []) ≡ Ok 0
unfolding degree_of degree
empty_degree = refl

-- the derivative of a constant is the empty list, also where a zero is written after the constant
constant_derivative : derivative_of (listed (5 ∷ 0 ∷ [])) ≡ Ok (listed [])
unfolding derivative_of derivative multiples multiple trimmed sum sum32 ◌⊕◌
constant_derivative = refl

-- zero is a root of x, whose constant term is zero, and not of 1
zero_of_x : zero_is_root (listed (0 ∷ 1 ∷ [])) ≡ Ok true
unfolding zero_is_root value_at value_from sum sum32 product product32 products times_a power ◌⊕◌
zero_of_x = refl

zero_of_one : zero_is_root (listed (1 ∷ [])) ≡ Ok false
unfolding zero_is_root value_at value_from sum sum32 product product32 products times_a power ◌⊕◌
zero_of_one = refl

-- (1 + 2x)(3 + 4x) has three coefficients, however large d is; modulo x^0 it is the zero polynomial
small_product : product_of (listed (1 ∷ 2 ∷ [])) (listed (3 ∷ 4 ∷ [])) 99 ≡ Ok (listed (3 ∷ 2 ∷ 8 ∷ []))
unfolding product_of product_modulo coefficients_from coefficient sum_below trimmed sum sum32 product product32 products times_a ◌⊕◌
small_product = refl

nothing_left : product_of (listed (1 ∷ 2 ∷ [])) (listed (3 ∷ 4 ∷ [])) 0 ≡ Ok (listed [])
unfolding product_of product_modulo coefficients_from trimmed
nothing_left = refl

-- the checksum's generator: its first root among the powers of 1 + 6e, from exponent 24 on, is at 24
first_of_generator : first_root (listed (18 ∷ 29 ∷ 21 ∷ 20 ∷ 22 ∷ 29 ∷ 1 ∷ [])) 193 24 ≡ Ok (Some 24)
unfolding first_root root_from value_at value_from sum sum32 product product32 products times_a power ◌⊕◌
first_of_generator = refl

-- a leading term that is only the last coefficient of the list
pub not_the_last : LeadingGiven (listed (1 ∷ 0 ∷ [])) (Ok 0) → ⊥
unfolding leading_of leading degree
not_the_last e = let wrong : ◌≡◌ {A = ℕ} 0 1 = cc in omega arith

-- a degree that counts the coefficients, zeros at the end with them
pub not_counted : DegreeGiven (listed (1 ∷ 0 ∷ [])) (Ok 1) → ⊥
unfolding degree_of degree
not_counted e = let wrong : ◌≡◌ {A = ℕ} 0 1 = cc in omega arith

-- a coefficient looked at, and a leading term given, by nine of its ten bits
pub degree_not_narrower : DegreeGiven (listed (1 ∷ 512 ∷ [])) (Ok 0) → ⊥
unfolding degree_of degree
degree_not_narrower e = let wrong : ◌≡◌ {A = ℕ} 0 1 = cc in omega arith

pub leading_not_narrower : LeadingGiven (listed (1023 ∷ [])) (Ok 511) → ⊥
unfolding leading_of leading degree
leading_not_narrower e = let wrong : ◌≡◌ {A = ℕ} 511 1023 = cc in omega arith

-- zero that is a root if the last coefficient is zero, as in the Rust: not of 1
one_with_a_zero : zero_is_root (listed (1 ∷ 0 ∷ [])) ≡ Ok false
unfolding zero_is_root value_at value_from sum sum32 product product32 products times_a power ◌⊕◌
one_with_a_zero = refl

pub not_by_the_last : ZeroAsked (listed (1 ∷ 0 ∷ [])) (Ok true) → ⊥
not_by_the_last e = let wrong : true ≡ false = cc (e, one_with_a_zero) in false≢true (sym wrong)

-- zero that is never a root
pub not_never : ZeroAsked (listed (0 ∷ 1 ∷ [])) (Ok false) → ⊥
not_never e = let wrong : false ≡ true = cc (e, zero_of_x) in false≢true wrong

-- a value that is always the constant term
value_of_x : value_of (listed (0 ∷ 1 ∷ [])) 5 ≡ Ok 5
unfolding value_of value_at value_from sum sum32 product product32 products times_a power ◌⊕◌
value_of_x = refl

pub not_the_constant : Evaluated (listed (0 ∷ 1 ∷ [])) 5 (Ok 0) → ⊥
not_the_constant e = let wrong : ◌≡◌ {A = ℕ} 0 5 = cc (e, value_of_x) in omega arith

-- a value that is always the one at 1
pub not_the_total : Evaluated (listed (0 ∷ 1 ∷ [])) 5 (Ok 1) → ⊥
not_the_total e = let wrong : ◌≡◌ {A = ℕ} 1 5 = cc (e, value_of_x) in omega arith

-- a derivative in which twice a term is once that term: that of x^2 is zero
square_derivative : derivative_of (listed (0 ∷ 0 ∷ 1 ∷ [])) ≡ Ok (listed [])
unfolding derivative_of derivative multiples multiple trimmed sum sum32 ◌⊕◌
square_derivative = refl

pub not_once_for_twice : Derived (listed (0 ∷ 0 ∷ 1 ∷ [])) (Ok (listed (0 ∷ 1 ∷ []))) → ⊥
not_once_for_twice e = let wrong : ◌≡◌ {A = ℕ} 2 0 = ap (λ (c : Result FieldVec Refusal). (result_unwrap_or c (listed [])).len) (e ∙ square_derivative) in omega arith

-- a derivative that is the polynomial itself
pub not_itself : Derived (listed (5 ∷ 0 ∷ [])) (Ok (listed (5 ∷ 0 ∷ []))) → ⊥
not_itself e = let wrong : ◌≡◌ {A = ℕ} 2 0 = ap (λ (c : Result FieldVec Refusal). (result_unwrap_or c (listed [])).len) (e ∙ constant_derivative) in omega arith

-- a product that is always refused
pub not_always_refused : (k : Refusal) → Multiplied (listed (1 ∷ 2 ∷ [])) (listed (3 ∷ 4 ∷ [])) 99 (Err k) → ⊥
not_always_refused k e = cc (e, small_product)

-- a product of the coefficients at the same place alone
pub not_pointwise : Multiplied (listed (1 ∷ 2 ∷ [])) (listed (3 ∷ 4 ∷ [])) 99 (Ok (listed (3 ∷ 8 ∷ []))) → ⊥
not_pointwise e = let wrong : ◌≡◌ {A = ℕ} 2 3 = ap (λ (c : Result FieldVec Refusal). (result_unwrap_or c (listed [])).len) (e ∙ small_product) in omega arith

-- a convolution of as many terms as the second list has elements: (1 + x)(1 + x) has one from x on within the list
one_term : convolution_of (listed (1 ∷ 1 ∷ [])) (listed (1 ∷ 1 ∷ [])) ≡ Ok (listed (0 ∷ []))
unfolding convolution_of convolved coefficients_from coefficient sum_below degree sum sum32 product product32 products times_a ◌⊕◌
one_term = refl

pub not_all_terms : Convolved (listed (1 ∷ 1 ∷ [])) (listed (1 ∷ 1 ∷ [])) (Ok (listed (0 ∷ 1 ∷ []))) → ⊥
not_all_terms e = let wrong : ◌≡◌ {A = ℕ} 2 1 = ap (λ (c : Result FieldVec Refusal). (result_unwrap_or c (listed [])).len) (e ∙ one_term) in omega arith

-- a convolution that is always zero: of 1 and 5 it is 5
five : convolution_of (listed (1 ∷ [])) (listed (5 ∷ [])) ≡ Ok (listed (5 ∷ []))
unfolding convolution_of convolved coefficients_from coefficient sum_below degree sum sum32 product product32 products times_a ◌⊕◌
five = refl

pub not_always_zero : Convolved (listed (1 ∷ [])) (listed (5 ∷ [])) (Ok (listed (0 ∷ []))) → ⊥
not_always_zero e = let wrong : ◌≡◌ {A = ℕ} 0 5 = ap (λ (c : Result FieldVec Refusal). get_or (result_unwrap_or c (listed [])).items 0 0) (e ∙ five) in omega arith

-- a residue that is always the zero polynomial
pub not_the_zero_residue : FromResidue 1 (listed (0 ∷ 0 ∷ 0 ∷ 0 ∷ 0 ∷ 0 ∷ [])) → ⊥
unfolding residue_polynomial
not_the_zero_residue e = let wrong : ◌≡◌ {A = ℕ} 0 1 = ap (λ (t : FieldVec). get_or t.items 0 0) e in omega arith

-- a residue's symbols in the other order
pub not_highest_first : FromResidue 1 (listed (0 ∷ 0 ∷ 0 ∷ 0 ∷ 0 ∷ 1 ∷ [])) → ⊥
unfolding residue_polynomial
not_highest_first e = let wrong : ◌≡◌ {A = ℕ} 0 1 = ap (λ (t : FieldVec). get_or t.items 0 0) e in omega arith

-- a search that passes over its first exponent: 25 is a root too
pub not_the_next : RootFound (listed (18 ∷ 29 ∷ 21 ∷ 20 ∷ 22 ∷ 29 ∷ 1 ∷ [])) 193 24 (Ok (Some 25)) → ⊥
not_the_next e = let wrong : ◌≡◌ {A = ℕ} 25 24 = cc (e, first_of_generator) in omega arith

-- a search that never finds a root
pub not_always_none : RootFound (listed (18 ∷ 29 ∷ 21 ∷ 20 ∷ 22 ∷ 29 ∷ 1 ∷ [])) 193 24 (Ok None) → ⊥
not_always_none e = cc (e, first_of_generator)
