-- What each public function promises, and that two answers which keep the promise are equal.
use Rattle.std.specs.Prelude.{◌≡◌, Bool, Option, Result, ℕ}
use Rattle.laws.proofs.Bools.{same}
use Rattle.numbers.specs.declared.Refusal.{Refusal}
use Rattle.fieldvec.specs.declared.FieldVec.{FieldVec}
use Rattle.fieldvec.specs.Lists.{listed}
use Rattle.polynomial.specs.Polynomials.{residue_polynomial}
use Rattle.polynomial.specs.Answers.{degree_of, leading_of, zero_is_root, value_of, derivative_of, product_of, convolution_of, first_root}

-- polynomial::degree
abbrev pub DegreeGiven : FieldVec → Result ℕ Refusal → Type 0
DegreeGiven p r = r ≡ degree_of p

pub degree_given_once : (p : FieldVec) (r s : Result ℕ Refusal) → DegreeGiven p r → DegreeGiven p s → r ≡ s
degree_given_once p r s e f = same e f

-- polynomial::leading_term
abbrev pub LeadingGiven : FieldVec → Result ℕ Refusal → Type 0
LeadingGiven p r = r ≡ leading_of p

pub leading_given_once : (p : FieldVec) (r s : Result ℕ Refusal) → LeadingGiven p r → LeadingGiven p s → r ≡ s
leading_given_once p r s e f = same e f

-- polynomial::zero_is_root
abbrev pub ZeroAsked : FieldVec → Result Bool Refusal → Type 0
ZeroAsked p r = r ≡ zero_is_root p

pub zero_asked_once : (p : FieldVec) (r s : Result Bool Refusal) → ZeroAsked p r → ZeroAsked p s → r ≡ s
zero_asked_once p r s e f = same e f

-- polynomial::evaluate
abbrev pub Evaluated : FieldVec → ℕ → Result ℕ Refusal → Type 0
Evaluated p x r = r ≡ value_of p x

pub evaluated_once : (p : FieldVec) (x : ℕ) (r s : Result ℕ Refusal) → Evaluated p x r → Evaluated p x s → r ≡ s
evaluated_once p x r s e f = same e f

-- polynomial::formal_derivative
abbrev pub Derived : FieldVec → Result FieldVec Refusal → Type 0
Derived p r = r ≡ derivative_of p

pub derived_once : (p : FieldVec) (r s : Result FieldVec Refusal) → Derived p r → Derived p s → r ≡ s
derived_once p r s e f = same e f

-- polynomial::multiply_mod_x_d
abbrev pub Multiplied : FieldVec → FieldVec → ℕ → Result FieldVec Refusal → Type 0
Multiplied p q d r = r ≡ product_of p q d

pub multiplied_once : (p : FieldVec) (q : FieldVec) (d : ℕ) (r s : Result FieldVec Refusal) → Multiplied p q d r → Multiplied p q d s → r ≡ s
multiplied_once p q d r s e f = same e f

-- polynomial::convolution
abbrev pub Convolved : FieldVec → FieldVec → Result FieldVec Refusal → Type 0
Convolved p q r = r ≡ convolution_of p q

pub convolved_once : (p : FieldVec) (q : FieldVec) (r s : Result FieldVec Refusal) → Convolved p q r → Convolved p q s → r ≡ s
convolved_once p q r s e f = same e f

-- polynomial::from_residue
abbrev pub FromResidue : ℕ → FieldVec → Type 0
FromResidue residue r = r ≡ listed (residue_polynomial residue)

pub from_residue_once : (residue : ℕ) (r s : FieldVec) → FromResidue residue r → FromResidue residue s → r ≡ s
from_residue_once residue r s e f = same e f

-- polynomial::first_root
abbrev pub RootFound : FieldVec → ℕ → ℕ → Result (Option ℕ) Refusal → Type 0
RootFound p base k r = r ≡ first_root p base k

pub root_found_once : (p : FieldVec) (base : ℕ) (k : ℕ) (r s : Result (Option ℕ) Refusal) → RootFound p base k r → RootFound p base k s → r ≡ s
root_found_once p base k r s e f = same e f
