-- Steps from the start give the paper's list, and past its end nothing.
-- From any walk they give what is left of the list: each step is the head of it.
use mathlib.Core.Path.{◌≡◌, refl, ap, ◌∙◌}
use mathlib.Core.Bool.{Bool, true, false}
use mathlib.Core.List.{List, [], ◌∷◌}
use Prim.Native.Nat.{ℕ, zero, suc, ◌≤◌}
use native.Mathlib.Numerals.{add-one}
use borrow.Author.Tests.{leb-true, leb-false}
use lib.Dec.{leb}
use lib.ListN.{length, take, drop, get_or, drop_of_length-le}
use lib.Seq.{drop-cons, take_all}
use Rattle.std.specs.Prelude.{Option, Some, None, MatchOption, slice_get}
use Rattle.std.specs.Iterator.{YieldsFirst}
use Rattle.paper.specs.Bits.{to_bytes, to_symbols}
use Rattle.iter.specs.declared.BytesToSymbols.{BytesToSymbols}
use Rattle.iter.specs.declared.SymbolsToBytes.{SymbolsToBytes}
use Rattle.iter.specs.Steps.{place_after, symbols_left, bytes_left, symbols_walk, bytes_walk, symbol_step, after_symbol, byte_step, after_byte, first_given, symbols_walked, bytes_walked}
use Rattle.iter.specs.Promises.{SymbolGiven, ByteGiven}
use Rattle.iter.proofs.Answers.{at_end, at_value}

-- of what is left of a list a step gives the head, and leaves the others
abbrev HeadGiven : List ℕ → ℕ → Option ℕ → Type 0
HeadGiven list at r =
    MatchOption r ((drop at list ≡ []) × (drop (place_after list at) list ≡ [])) (λ v. drop at list ≡ v ∷ drop (place_after list at) list)

head_given : (list : List ℕ) (at : ℕ) → HeadGiven list at (slice_get list at)
head_given list at = go (leb (length list) at) refl
  where
    go : (b : Bool) → leb (length list) at ≡ b → HeadGiven list at (slice_get list at)
    go true e =
        let h = leb-true (length list) at e in
        let none = at_end list at (length list) refl h in
        rw (← none.0, ← none.1) (drop_of_length-le list h, drop_of_length-le list h)
    go false e =
        let h = leb-false (length list) at e in
        let some = at_value list at (length list) refl h (get_or list at 0) refl in
        rw (← some.0, ← some.1, add-one at) (drop-cons list at 0 h)

-- so each walk is an iterator over what is left
pub symbol_yields : (walk after : BytesToSymbols) (r : Option ℕ) → SymbolGiven walk r after → YieldsFirst symbols_left walk r after
unfolding symbol_step after_symbol
symbol_yields walk after r p = rw (p.given, p.left) (head_given (to_symbols walk.bytes.now) walk.at)

pub byte_yields : (walk after : SymbolsToBytes) (r : Option ℕ) → ByteGiven walk r after → YieldsFirst bytes_left walk r after
unfolding byte_step after_byte
byte_yields walk after r p = rw (p.given, p.left) (head_given (to_bytes walk.symbols.now) walk.at)

one_step : (list : List ℕ) (n at : ℕ) → first_given (slice_get list at) (take n (drop (place_after list at) list)) ≡ take (suc n) (drop at list)
one_step list n at = go (slice_get list at) (head_given list at)
  where
    go : (r : Option ℕ) → HeadGiven list at r → first_given r (take n (drop (place_after list at) list)) ≡ take (suc n) (drop at list)
    go None left = rw left.0 refl
    go (Some v) left = rw left refl

pub symbols_walked_lem : (n : ℕ) (walk : BytesToSymbols) → symbols_walked n walk ≡ take n (drop walk.at (to_symbols walk.bytes.now))
unfolding symbol_step after_symbol
symbols_walked_lem zero walk = refl
symbols_walked_lem (suc n) walk =
    ap (first_given (symbol_step walk)) (symbols_walked_lem n (after_symbol walk)) ∙ one_step (to_symbols walk.bytes.now) n walk.at

pub bytes_walked_lem : (n : ℕ) (walk : SymbolsToBytes) → bytes_walked n walk ≡ take n (drop walk.at (to_bytes walk.symbols.now))
unfolding byte_step after_byte
bytes_walked_lem zero walk = refl
bytes_walked_lem (suc n) walk =
    ap (first_given (byte_step walk)) (bytes_walked_lem n (after_byte walk)) ∙ one_step (to_bytes walk.symbols.now) n walk.at

-- from the start
pub all_symbols_walked : (n : ℕ) (place : ℕ × ℕ) (bytes : List ℕ) → length (to_symbols bytes) ≤ n
    → symbols_walked n (symbols_walk place bytes 0) ≡ to_symbols bytes
all_symbols_walked n place bytes h = symbols_walked_lem n (symbols_walk place bytes 0) ∙ take_all n (to_symbols bytes) h

pub all_bytes_walked : (n : ℕ) (place : ℕ × ℕ) (symbols : List ℕ) → length (to_bytes symbols) ≤ n
    → bytes_walked n (bytes_walk place symbols 0) ≡ to_bytes symbols
all_bytes_walked n place symbols h = bytes_walked_lem n (bytes_walk place symbols 0) ∙ take_all n (to_bytes symbols) h
