-- Wrong answers that the promises rule out, each on a concrete input: what a body gives that counts, cuts, starts or stops in the wrong place.
use mathlib.Core.Path.{◌≡◌, sym, ap}
use mathlib.Core.List.{List, [], ◌∷◌}
use Prim.Native.Nat.{ℕ}
use native.Mathlib.Omega.{arith}
use lib.ListN.{get_or}
use Rattle.laws.specs.Text.{bytes}
use Rattle.paper.specs.Charset.{charset, symbol}
use Rattle.paper.specs.Bits.{bits_of, bits, spelled, groups, whole, leftover, to_bytes, padding, to_symbols}
use Rattle.answers.specs.Rules.{padding_long, padding_not_zero, padding_verdict}
use Rattle.answers.specs.Reading.{room_small, written_into}
use Rattle.iter.specs.Steps.{symbols_walk, bytes_walk, symbol_step, after_symbol, byte_step, after_byte}
use Rattle.iter.specs.Numbers.{given_of_step, value_of_step}
use Rattle.iter.specs.Promises.{SymbolsCounted, BytesCounted, SymbolsWritten, BytesWritten, CharactersWritten, PaddingJudged, CharactersJudged, SymbolsBegun, SymbolGiven, CountTold, BytesBegun, ByteGiven}
use Rattle.iter.specs.declared.BytesToSymbols.{BytesToSymbols}
use Rattle.iter.specs.declared.SymbolsToBytes.{SymbolsToBytes}
use Rattle.numbers.specs.declared.Refusal.TheVariants.{PaddingLong, PaddingNotZero, RoomSmall}
use Rattle.numbers.proofs.Numbers.{err_apart, ok_injective}
use Rattle.std.specs.Prelude.{Option, Ok, Err, Some, None}

-- ---- the counts

-- the last symbol not counted, seven symbols for five bytes
pub symbols_not_counted_down : SymbolsCounted (255 ∷ []) 1 → ⊥
unfolding to_symbols whole groups spelled bits bits_of
symbols_not_counted_down p = let e : ◌≡◌ {A = ℕ} 1 2 = p in omega arith

pub symbols_not_counted_sevens : SymbolsCounted (1 ∷ 2 ∷ 3 ∷ 4 ∷ 5 ∷ []) 7 → ⊥
unfolding to_symbols whole groups spelled bits bits_of
symbols_not_counted_sevens p = let e : ◌≡◌ {A = ℕ} 7 8 = p in omega arith

-- seven bits left over counted as a byte, four bytes for eight symbols
pub bytes_not_counted_up : BytesCounted (1 ∷ 2 ∷ 3 ∷ []) 2 → ⊥
unfolding to_bytes whole groups spelled bits bits_of
bytes_not_counted_up p = let e : ◌≡◌ {A = ℕ} 2 1 = p in omega arith

pub bytes_not_counted_fours : BytesCounted (1 ∷ 2 ∷ 3 ∷ 4 ∷ 5 ∷ 6 ∷ 7 ∷ 8 ∷ []) 4 → ⊥
unfolding to_bytes whole groups spelled bits bits_of
bytes_not_counted_fours p = let e : ◌≡◌ {A = ℕ} 4 5 = p in omega arith

-- ---- the three that write

-- 17 where the room is just enough, and the count of what was read
pub symbols_not_refused : SymbolsWritten (255 ∷ []) (9 ∷ 9 ∷ []) (Err RoomSmall) (9 ∷ 9 ∷ []) → ⊥
unfolding written_into room_small to_symbols whole groups spelled bits bits_of
symbols_not_refused p = err_apart 2 RoomSmall p.answer

pub symbols_not_counted_as_bytes : (after : List ℕ) → SymbolsWritten (255 ∷ []) (9 ∷ 9 ∷ []) (Ok 1) after → ⊥
unfolding written_into room_small to_symbols whole groups spelled bits bits_of
symbols_not_counted_as_bytes after p = let e : ◌≡◌ {A = ℕ} 1 2 = ok_injective 1 2 p.answer in omega arith

-- symbols read one bit late, and what stands past them overwritten
pub symbols_not_late : SymbolsWritten (255 ∷ []) (9 ∷ 9 ∷ []) (Ok 2) (31 ∷ 24 ∷ []) → ⊥
unfolding written_into room_small to_symbols whole groups spelled bits bits_of
symbols_not_late p = let e : ◌≡◌ {A = ℕ} 24 28 = ap (λ (l : List ℕ). get_or l 1 0) p.buffer in omega arith

pub symbols_not_past_the_end : SymbolsWritten (255 ∷ []) (9 ∷ 9 ∷ 9 ∷ []) (Ok 2) (31 ∷ 28 ∷ 0 ∷ []) → ⊥
unfolding written_into room_small to_symbols whole groups spelled bits bits_of
symbols_not_past_the_end p = let e : ◌≡◌ {A = ℕ} 0 9 = ap (λ (l : List ℕ). get_or l 2 0) p.buffer in omega arith

-- of symbols: 17 where the room is just enough, the count of what was read, and bits of the second symbol where those of the third belong
pub bytes_not_refused : BytesWritten (31 ∷ 28 ∷ []) (9 ∷ []) (Err RoomSmall) (9 ∷ []) → ⊥
unfolding written_into room_small to_bytes whole groups spelled bits bits_of
bytes_not_refused p = err_apart 1 RoomSmall p.answer

pub bytes_not_counted_as_symbols : (after : List ℕ) → BytesWritten (31 ∷ 28 ∷ []) (9 ∷ 9 ∷ []) (Ok 2) after → ⊥
unfolding written_into room_small to_bytes whole groups spelled bits bits_of
bytes_not_counted_as_symbols after p = let e : ◌≡◌ {A = ℕ} 2 1 = ok_injective 2 1 p.answer in omega arith

pub third_symbol_not_lost : BytesWritten (31 ∷ 0 ∷ 31 ∷ 0 ∷ []) (9 ∷ 9 ∷ []) (Ok 2) (248 ∷ 63 ∷ []) → ⊥
unfolding written_into room_small to_bytes whole groups spelled bits bits_of
third_symbol_not_lost p = let e : ◌≡◌ {A = ℕ} 63 62 = ap (λ (l : List ℕ). get_or l 1 0) p.buffer in omega arith

-- the same of characters, where q is 0 and l is 31
pub characters_not_refused : CharactersWritten (bytes "lu") (9 ∷ []) (Err RoomSmall) (9 ∷ []) → ⊥
unfolding written_into room_small to_bytes whole groups spelled bits bits_of symbol charset
characters_not_refused p = err_apart 1 RoomSmall p.answer

pub characters_not_counted_as_read : (after : List ℕ) → CharactersWritten (bytes "lu") (9 ∷ 9 ∷ []) (Ok 2) after → ⊥
unfolding written_into room_small to_bytes whole groups spelled bits bits_of symbol charset
characters_not_counted_as_read after p = let e : ◌≡◌ {A = ℕ} 2 1 = ok_injective 2 1 p.answer in omega arith

pub third_character_not_lost : CharactersWritten (bytes "lqlq") (9 ∷ 9 ∷ []) (Ok 2) (248 ∷ 63 ∷ []) → ⊥
unfolding written_into room_small to_bytes whole groups spelled bits bits_of symbol charset
third_character_not_lost p = let e : ◌≡◌ {A = ℕ} 63 62 = ap (λ (l : List ℕ). get_or l 1 0) p.buffer in omega arith

-- and of characters in upper case taken as they are
pub capitals_not_outside : CharactersWritten (bytes "LU") (9 ∷ []) (Ok 1) (0 ∷ []) → ⊥
unfolding written_into room_small to_bytes whole groups spelled bits bits_of symbol charset
capitals_not_outside p = let e : ◌≡◌ {A = ℕ} 0 255 = ap (λ (l : List ℕ). get_or l 0 0) p.buffer in omega arith

-- ---- the padding

-- the first symbol judged for the last, 13 for four bits, and bits that are dropped unlooked
pub not_the_first_symbol : PaddingJudged (3 ∷ 0 ∷ []) (Err PaddingNotZero) → ⊥
unfolding padding_verdict padding_long padding_not_zero padding leftover bits bits_of
not_the_first_symbol p = err_apart tt PaddingNotZero p

pub not_13_for_four_bits : PaddingJudged (0 ∷ 0 ∷ 0 ∷ 0 ∷ []) (Err PaddingLong) → ⊥
unfolding padding_verdict padding_long padding_not_zero padding leftover bits bits_of
not_13_for_four_bits p = err_apart tt PaddingLong p

pub not_unlooked : PaddingJudged (0 ∷ 3 ∷ []) (Ok tt) → ⊥
unfolding padding_verdict padding_long padding_not_zero padding leftover bits bits_of
not_unlooked p = err_apart tt PaddingNotZero (sym p)

-- the same of characters, where r is 3
pub not_the_first_character : CharactersJudged (bytes "rq") (Err PaddingNotZero) → ⊥
unfolding padding_verdict padding_long padding_not_zero padding leftover bits bits_of symbol charset
not_the_first_character p = err_apart tt PaddingNotZero p

pub not_13_for_four_characters : CharactersJudged (bytes "qqqq") (Err PaddingLong) → ⊥
unfolding padding_verdict padding_long padding_not_zero padding leftover bits bits_of symbol charset
not_13_for_four_characters p = err_apart tt PaddingLong p

pub not_unlooked_characters : CharactersJudged (bytes "qr") (Ok tt) → ⊥
unfolding padding_verdict padding_long padding_not_zero padding leftover bits bits_of symbol charset
not_unlooked_characters p = err_apart tt PaddingNotZero (sym p)

-- ---- the walks

-- walks that leave out the first value, or start behind any list and so give nothing
pub symbols_not_from_the_second : (place : ℕ × ℕ) (bytes : List ℕ) → SymbolsBegun place bytes (symbols_walk place bytes 1) → ⊥
symbols_not_from_the_second place bytes p = let e : ◌≡◌ {A = ℕ} 1 0 = ap (λ (w : BytesToSymbols). w.at) p in omega arith

pub symbols_not_at_the_end : (place : ℕ × ℕ) (bytes : List ℕ) → SymbolsBegun place bytes (symbols_walk place bytes 18446744073709551615) → ⊥
symbols_not_at_the_end place bytes p = let e : ◌≡◌ {A = ℕ} 18446744073709551615 0 = ap (λ (w : BytesToSymbols). w.at) p in omega arith

pub bytes_not_from_the_second : (place : ℕ × ℕ) (symbols : List ℕ) → BytesBegun place symbols (bytes_walk place symbols 1) → ⊥
bytes_not_from_the_second place symbols p = let e : ◌≡◌ {A = ℕ} 1 0 = ap (λ (w : SymbolsToBytes). w.at) p in omega arith

pub bytes_not_at_the_end : (place : ℕ × ℕ) (symbols : List ℕ) → BytesBegun place symbols (bytes_walk place symbols 18446744073709551615) → ⊥
bytes_not_at_the_end place symbols p = let e : ◌≡◌ {A = ℕ} 18446744073709551615 0 = ap (λ (w : SymbolsToBytes). w.at) p in omega arith

-- and over another list than the one lent
pub symbols_not_of_another : (place : ℕ × ℕ) → SymbolsBegun place (255 ∷ []) (symbols_walk place (254 ∷ []) 0) → ⊥
symbols_not_of_another place p = let e : ◌≡◌ {A = ℕ} 254 255 = ap (λ (w : BytesToSymbols). get_or w.bytes.now 0 0) p in omega arith

pub bytes_not_of_another : (place : ℕ × ℕ) → BytesBegun place (31 ∷ 28 ∷ []) (bytes_walk place (31 ∷ 27 ∷ []) 0) → ⊥
bytes_not_of_another place p = let e : ◌≡◌ {A = ℕ} 27 28 = ap (λ (w : SymbolsToBytes). get_or w.symbols.now 1 0) p in omega arith

-- steps that never leave the first value, that give it again, that end one value early, and that give a value past the end
pub symbols_not_staying : (place : ℕ × ℕ)
    → SymbolGiven (symbols_walk place (255 ∷ []) 0) (Some 31) (symbols_walk place (255 ∷ []) 0) → ⊥
unfolding after_symbol to_symbols whole groups spelled bits bits_of
symbols_not_staying place p = let e : ◌≡◌ {A = ℕ} 0 1 = ap (λ (w : BytesToSymbols). w.at) p.left in omega arith

pub symbols_not_repeating : (place : ℕ × ℕ)
    → SymbolGiven (symbols_walk place (255 ∷ []) 1) (Some 31) (symbols_walk place (255 ∷ []) 2) → ⊥
unfolding symbol_step to_symbols whole groups spelled bits bits_of
symbols_not_repeating place p = let e : ◌≡◌ {A = ℕ} 31 28 = ap value_of_step p.given in omega arith

pub symbols_not_ending_early : (place : ℕ × ℕ) (after : BytesToSymbols) → SymbolGiven (symbols_walk place (255 ∷ []) 1) None after → ⊥
unfolding symbol_step to_symbols whole groups spelled bits bits_of
symbols_not_ending_early place after p = let e : ◌≡◌ {A = ℕ} 0 1 = ap given_of_step p.given in omega arith

pub symbols_not_going_on : (place : ℕ × ℕ)
    → SymbolGiven (symbols_walk place (255 ∷ []) 2) (Some 0) (symbols_walk place (255 ∷ []) 3) → ⊥
unfolding symbol_step to_symbols whole groups spelled bits bits_of
symbols_not_going_on place p = let e : ◌≡◌ {A = ℕ} 1 0 = ap given_of_step p.given in omega arith

pub bytes_not_staying : (place : ℕ × ℕ)
    → ByteGiven (bytes_walk place (31 ∷ 0 ∷ 31 ∷ 0 ∷ []) 0) (Some 248) (bytes_walk place (31 ∷ 0 ∷ 31 ∷ 0 ∷ []) 0) → ⊥
unfolding after_byte to_bytes whole groups spelled bits bits_of
bytes_not_staying place p = let e : ◌≡◌ {A = ℕ} 0 1 = ap (λ (w : SymbolsToBytes). w.at) p.left in omega arith

pub bytes_not_repeating : (place : ℕ × ℕ)
    → ByteGiven (bytes_walk place (31 ∷ 0 ∷ 31 ∷ 0 ∷ []) 1) (Some 248) (bytes_walk place (31 ∷ 0 ∷ 31 ∷ 0 ∷ []) 2) → ⊥
unfolding byte_step to_bytes whole groups spelled bits bits_of
bytes_not_repeating place p = let e : ◌≡◌ {A = ℕ} 248 62 = ap value_of_step p.given in omega arith

pub bytes_not_ending_early : (place : ℕ × ℕ) (after : SymbolsToBytes) → ByteGiven (bytes_walk place (31 ∷ 0 ∷ 31 ∷ 0 ∷ []) 1) None after → ⊥
unfolding byte_step to_bytes whole groups spelled bits bits_of
bytes_not_ending_early place after p = let e : ◌≡◌ {A = ℕ} 0 1 = ap given_of_step p.given in omega arith

pub bytes_not_going_on : (place : ℕ × ℕ)
    → ByteGiven (bytes_walk place (31 ∷ 0 ∷ 31 ∷ 0 ∷ []) 2) (Some 0) (bytes_walk place (31 ∷ 0 ∷ 31 ∷ 0 ∷ []) 3) → ⊥
unfolding byte_step to_bytes whole groups spelled bits bits_of
bytes_not_going_on place p = let e : ◌≡◌ {A = ℕ} 1 0 = ap given_of_step p.given in omega arith

-- ---- how many values are left

pub count_not_unbounded : CountTold (7 ∷ []) (0, None) → ⊥
count_not_unbounded h = let e : ◌≡◌ {A = ℕ} 0 1 = ap (λ (told : ℕ × Option ℕ). told.0) h in omega arith

pub count_not_a_bound : CountTold (7 ∷ []) (1, Some 2) → ⊥
count_not_a_bound h = let e : ◌≡◌ {A = ℕ} 2 1 = ap (λ (told : ℕ × Option ℕ). value_of_step told.1) h in omega arith
