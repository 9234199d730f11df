-- Letters and symbols undo one another: a symbol below 32 is that of its letter, and a character of the charset, of either case, is in lower
-- case the letter of its symbol. A letter is no capital and no separator. Each law over the 32 symbols is one computed test.
use mathlib.Core.Path.{◌≡◌, refl, ap₂}
use mathlib.Core.Bool.{Bool, true, false, not}
use mathlib.Core.List.{List, [], ◌∷◌, map}
use Prim.Native.Nat.{ℕ, suc, ◌<◌}
use native.Mathlib.Nat.{le_of_suc-le-suc, not-suc-le-zero}
use borrow.Author.Tests.{eqb-true}
use lib.Dec.{T, eqb}
use lib.ListN.{length, get_or}
use Rattle.laws.specs.Pick.{pick}
use Rattle.laws.specs.Lists.{any, Every}
use Rattle.laws.proofs.Below.{below, equal_below}
use Rattle.paper.specs.Charset.{charset, place, lower, symbol, is_symbol, letter, is_upper, is_separator}

-- ---- one symbol

pub symbol_letter : (v : ℕ) → v < 32 → symbol (letter v) ≡ v
unfolding symbol letter charset
symbol_letter = equal_below (λ v. symbol (letter v)) (λ v. v) 32 tt

not_passed : (b : Bool) → T (not b) → b ≡ false
not_passed true t = absurd t
not_passed false t = refl

passed : (b : Bool) → T b → b ≡ true
passed true t = refl
passed false t = absurd t

pub letter_is_symbol : (v : ℕ) → v < 32 → is_symbol (letter v) ≡ true
unfolding is_symbol symbol letter charset
letter_is_symbol v h = passed (is_symbol (letter v)) (below (λ v. is_symbol (letter v)) 32 tt v h)

pub letter_not_upper : (v : ℕ) → v < 32 → is_upper (letter v) ≡ false
unfolding letter charset
letter_not_upper v h = not_passed (is_upper (letter v)) (below (λ v. not (is_upper (letter v))) 32 tt v h)

pub letter_not_separator : (v : ℕ) → v < 32 → is_separator (letter v) ≡ false
unfolding letter charset
letter_not_separator v h = not_passed (is_separator (letter v)) (below (λ v. not (is_separator (letter v))) 32 tt v h)

-- ---- one character

-- what stands at the place where c stands is c
here_or_later : (c x : ℕ) (l : List ℕ) (here : Bool) → eqb x c ≡ here → (place c l < length l → get_or l (place c l) 0 ≡ c)
    → pick here 0 (suc (place c l)) < suc (length l) → get_or (x ∷ l) (pick here 0 (suc (place c l))) 0 ≡ c
here_or_later c x l true e later h = eqb-true x c e
here_or_later c x l false e later h = later (le_of_suc-le-suc h)

at_its_place : (c : ℕ) (l : List ℕ) → place c l < length l → get_or l (place c l) 0 ≡ c
at_its_place c [] h = absurd (not-suc-le-zero h)
at_its_place c (x ∷ l) h = here_or_later c x l (eqb x c) refl (at_its_place c l) h

pub letter_symbol : (c : ℕ) → symbol c < 32 → letter (symbol c) ≡ lower c
unfolding letter symbol charset
letter_symbol c h = at_its_place (lower c) charset h

-- ---- lists

pub symbols_letters : (s : List ℕ) → Every (λ v. v < 32) s → map symbol (map letter s) ≡ s
symbols_letters [] p = refl
symbols_letters (v ∷ s) p = ap₂ ◌∷◌ (symbol_letter v p.0) (symbols_letters s p.1)

pub letters_symbols : (d : List ℕ) → Every (λ c. symbol c < 32) d → map letter (map symbol d) ≡ map lower d
letters_symbols [] p = refl
letters_symbols (c ∷ d) p = ap₂ ◌∷◌ (letter_symbol c p.0) (letters_symbols d p.1)

pub letters_are_symbols : (s : List ℕ) → Every (λ v. v < 32) s → Every (λ c. symbol c < 32) (map letter s)
letters_are_symbols [] p = tt
letters_are_symbols (v ∷ s) p = (rw (symbol_letter v p.0) p.0, letters_are_symbols s p.1)

pub letters_not_upper : (s : List ℕ) → Every (λ v. v < 32) s → any is_upper (map letter s) ≡ false
letters_not_upper [] p = refl
letters_not_upper (v ∷ s) p = rw (letter_not_upper v p.0, letters_not_upper s p.1)

pub letters_no_separator : (s : List ℕ) → Every (λ v. v < 32) s → any is_separator (map letter s) ≡ false
letters_no_separator [] p = refl
letters_no_separator (v ∷ s) p = rw (letter_not_separator v p.0, letters_no_separator s p.1)
