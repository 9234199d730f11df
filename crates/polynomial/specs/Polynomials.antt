-- Document 01, module 4: polynomials over GF(1024). A list of coefficients c_0, c_1, .. means the sum of c_i x^i; the empty list is the zero
-- polynomial. A coefficient counts by its remainder modulo the field's order, as every element does.
use Rattle.std.specs.Prelude.{◌≡◌, Bool, List, [], ◌∷◌, reverse, ℕ, zero, suc, ◌%◌, ◌<◌, eqb, get_or, drop}
use Rattle.laws.specs.Pick.{pick}
use Rattle.laws.specs.Lists.{all}
use Rattle.paper.specs.Checksum.{six_symbols}
use Rattle.gf32_ext.specs.Field.{field_order, sum, product, power}

abbrev pub is_zero : ℕ → Bool
is_zero c = eqb (c % field_order) 0

-- the highest place of a coefficient other than zero; 0 for the zero polynomial
unfoldable pub degree : List ℕ → ℕ
degree [] = 0
degree (c ∷ cs) = pick (all is_zero cs) 0 (suc (degree cs))

-- the coefficient at that place
unfoldable pub leading : List ℕ → ℕ
leading cs = get_or cs (degree cs) 0 % field_order

-- the sum of c_i x^i over the coefficients given, the first of which is c_k
unfoldable pub value_from : ℕ → List ℕ → ℕ → ℕ
value_from k [] x = 0
value_from k (c ∷ cs) x = sum (product c (power x k)) (value_from (suc k) cs x)

unfoldable pub value_at : List ℕ → ℕ → ℕ
value_at cs x = value_from 0 cs x

-- what is given for an element v of the field is x times v
pub record MultipliesBy (gives : ℕ → ℕ → Type 0) (x : ℕ) : Type 0 where
  pub times : (v r : ℕ) → v < field_order → gives v r → r ≡ product x v

-- a root: the value there is zero
abbrev pub is_root : List ℕ → ℕ → Bool
is_root cs x = eqb (value_at cs x) 0

-- without the zeros at the end, which do not change what the list means; for coefficients below the field's order
unfoldable pub trimmed : List ℕ → List ℕ
trimmed [] = []
trimmed (c ∷ cs) = pick (all (λ a. eqb a 0) (c ∷ cs)) [] (c ∷ trimmed cs)

-- n times c: the sum of n times the same element
unfoldable pub multiple : ℕ → ℕ → ℕ
multiple zero c = 0
multiple (suc n) c = sum c (multiple n c)

-- k c_k, and so on for the coefficients after it
unfoldable pub multiples : ℕ → List ℕ → List ℕ
multiples k [] = []
multiples k (c ∷ cs) = multiple k c ∷ multiples (suc k) cs

-- the formal derivative: the sum of i c_i x^(i - 1)
unfoldable pub derivative : List ℕ → List ℕ
derivative cs = trimmed (multiples 1 (drop 1 cs))

-- a residue of 30 bits as a polynomial: its lowest symbol is the constant term
unfoldable pub residue_polynomial : ℕ → List ℕ
residue_polynomial r = reverse (six_symbols r)
