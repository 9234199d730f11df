-- What a class tells is what the paper says of its byte: one computed test over the 256 bytes for each question. And what classes joined by
-- `|` tell: a bit of the join is set exactly if one of the classes has it.
use mathlib.Core.Path.{◌≡◌, refl, sym, ap, ap₂, ◌∙◌}
use mathlib.Core.Bool.{Bool, true, false, not, ◌&&◌, ◌||◌}
use mathlib.Core.List.{List, [], ◌∷◌}
use Prim.Native.Nat.{ℕ, zero, suc, ◌/◌, ◌%◌, ◌^◌, ◌<◌}
use native.Mathlib.Omega.{arith}
use lib.Dec.{T, eqb}
use lib.ListN.{get_or}
use lib.Bits.{bit_or, or_shr, or_mod}
use Rattle.laws.specs.Text.{bytes}
use Rattle.laws.specs.Lists.{any, all, all_below}
use Rattle.laws.proofs.Below.{below, equal_below}
use Rattle.laws.proofs.Tables.{tabulated}
use Rattle.laws.proofs.Xor.{digit}
use Rattle.paper.specs.Charset.{charset, symbol, is_symbol, is_upper, is_lower}
use Rattle.gf32.specs.Classes.{class_of, symbol_in, outside_in, upper_in, lower_in, both_cases_in, Joined}
use Rattle.gf32.specs.Promises.{ClassesGiven}
use Rattle.gf32.specs.declared.tables.TheConstants.{CLASSES}

-- ---- one byte

alike : Bool → Bool → Bool
alike true b = b
alike false b = not b

alike_eq : (a b : Bool) → T (alike a b) → a ≡ b
unfolding alike
alike_eq true true t = refl
alike_eq true false t = absurd t
alike_eq false true t = absurd t
alike_eq false false t = refl

alike_below : (f g : ℕ → Bool) (n : ℕ) → T (all_below n (λ k. alike (f k) (g k))) → (k : ℕ) → k < n → f k ≡ g k
alike_below f g n t k h = alike_eq (f k) (g k) (below (λ k. alike (f k) (g k)) n t k h)

pub symbol_told : (c : ℕ) → c < 256 → symbol_in (class_of c) ≡ symbol c
unfolding class_of symbol_in symbol is_symbol charset
symbol_told = equal_below (λ c. symbol_in (class_of c)) symbol 256 tt

pub outside_told : (c : ℕ) → c < 256 → outside_in (class_of c) ≡ not (is_symbol c)
unfolding class_of outside_in symbol is_symbol charset alike
outside_told = alike_below (λ c. outside_in (class_of c)) (λ c. not (is_symbol c)) 256 tt

pub inside_told : (c : ℕ) → c < 256 → {b : Bool} → outside_in (class_of c) ≡ b → is_symbol c ≡ not b
inside_told c byte told = sym (not_not (is_symbol c)) ∙ ap not (sym (outside_told c byte) ∙ told)
  where
    not_not : (b : Bool) → not (not b) ≡ b
    not_not true = refl
    not_not false = refl

upper_told : (c : ℕ) → c < 256 → upper_in (class_of c) ≡ is_upper c
unfolding class_of upper_in symbol is_symbol charset alike
upper_told = alike_below (λ c. upper_in (class_of c)) is_upper 256 tt

lower_told : (c : ℕ) → c < 256 → lower_in (class_of c) ≡ is_lower c
unfolding class_of lower_in symbol is_symbol charset alike
lower_told = alike_below (λ c. lower_in (class_of c)) is_lower 256 tt

-- ---- one byte, by the table

-- the code's table is the list that `class_of` computes
pub classes_given : ClassesGiven CLASSES
unfolding class_of symbol is_symbol charset
classes_given = refl

pub entry : (classes : List ℕ) (c : ℕ) → ClassesGiven classes → c < 256 → get_or classes c 0 ≡ class_of c
entry classes c given byte = ap (λ (l : List ℕ). get_or l c 0) given ∙ tabulated class_of 256 c byte

pub class_read : (classes : List ℕ) (c : ℕ) → ClassesGiven classes → c < 256 → symbol_in (get_or classes c 0) ≡ symbol c
class_read classes c given byte = ap symbol_in (entry classes c given byte) ∙ symbol_told c byte

-- ---- a bit of a join

either_digit : (x y : ℕ) → x < 2 → y < 2 → eqb (bit_or x y) 1 ≡ eqb x 1 || eqb y 1
either_digit zero y hx hy = refl
either_digit (suc zero) zero hx hy = refl
either_digit (suc zero) (suc zero) hx hy = refl
either_digit (suc zero) (suc (suc y)) hx hy = absurd (omega arith)
either_digit (suc (suc x)) y hx hy = absurd (omega arith)

bit_or_lem : (k a b : ℕ) → eqb (bit_or a b / 2 ^ k % 2) 1 ≡ eqb (a / 2 ^ k % 2) 1 || eqb (b / 2 ^ k % 2) 1
bit_or_lem k a b =
    ap (λ (x : ℕ). eqb (x % 2) 1) (or_shr a b k)
    ∙ ap (λ (x : ℕ). eqb x 1) (or_mod (a / 2 ^ k) (b / 2 ^ k) 1)
    ∙ either_digit (a / 2 ^ k % 2) (b / 2 ^ k % 2) (digit (a / 2 ^ k)) (digit (b / 2 ^ k))

outside_or : (a b : ℕ) → outside_in (bit_or a b) ≡ outside_in a || outside_in b
unfolding outside_in
outside_or = bit_or_lem 7

upper_or : (a b : ℕ) → upper_in (bit_or a b) ≡ upper_in a || upper_in b
unfolding upper_in
upper_or = bit_or_lem 5

lower_or : (a b : ℕ) → lower_in (bit_or a b) ≡ lower_in a || lower_in b
unfolding lower_in
lower_or = bit_or_lem 6

-- ---- classes joined over a list

not_and : (a b : Bool) → not a || not b ≡ not (a && b)
not_and true b = refl
not_and false b = refl

pub joined_none : Joined 0 []
unfolding outside_in upper_in lower_in
joined_none = record { outside = refl; upper = refl; lower = refl }

-- one character more in front
pub joined_more : (c classes : ℕ) (s : List ℕ) → c < 256 → Joined classes s → Joined (bit_or (class_of c) classes) (c ∷ s)
joined_more c classes s byte j =
    record {
      outside = outside_or (class_of c) classes ∙ ap₂ (λ (a b : Bool). a || b) (outside_told c byte) j.outside ∙ not_and (is_symbol c) (all is_symbol s);
      upper = upper_or (class_of c) classes ∙ ap₂ (λ (a b : Bool). a || b) (upper_told c byte) j.upper;
      lower = lower_or (class_of c) classes ∙ ap₂ (λ (a b : Bool). a || b) (lower_told c byte) j.lower;
    }

-- both cases in two lists
pub joined_cases : (a b : ℕ) (s t : List ℕ) → Joined a s → Joined b t
    → both_cases_in (bit_or a b) ≡ (any is_upper s || any is_upper t) && (any is_lower s || any is_lower t)
unfolding both_cases_in
joined_cases a b s t p q =
    ap₂ (λ (x y : Bool). x && y)
    (upper_or a b ∙ ap₂ (λ (x y : Bool). x || y) p.upper q.upper)
    (lower_or a b ∙ ap₂ (λ (x y : Bool). x || y) p.lower q.lower)

-- a is symbol 29; B is no symbol
pub joined_letters : Joined 253 (bytes "aB")
unfolding outside_in upper_in lower_in symbol is_symbol charset
joined_letters = record { outside = refl; upper = refl; lower = refl }
