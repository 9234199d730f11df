-- Worked cases, computed: the program of BIP-173's example address `BC1QW508D6QEJXTDG4Y5R3ZARVARY0C5XW7KV8F3T4`, and the smallest inputs
-- of each answer.
use mathlib.Core.Path.{◌≡◌, refl}
use mathlib.Core.List.{List, [], ◌∷◌, map}
use Prim.Native.Nat.{ℕ}
use Rattle.laws.specs.Text.{bytes}
use Rattle.paper.specs.Charset.{charset, symbol}
use Rattle.paper.specs.Bits.{bits_of, bits, spelled, groups, whole, leftover, to_bytes, padding, to_symbols}
use Rattle.answers.specs.Rules.{padding_long, padding_not_zero, padding_verdict}
use Rattle.answers.specs.Reading.{room_small, written_into}
use Rattle.iter.specs.Promises.{SymbolsWritten, BytesWritten, CharactersWritten}
use Rattle.numbers.specs.declared.Refusal.{Refusal}
use Rattle.numbers.specs.declared.Refusal.TheVariants.{PaddingLong, PaddingNotZero, RoomSmall}
use Rattle.std.specs.Prelude.{Result, Ok, Err}

unfoldable pub program : List ℕ
program =
    0x75 ∷ 0x1e ∷ 0x76 ∷ 0xe8 ∷ 0x19 ∷ 0x91 ∷ 0x96 ∷ 0xd4 ∷ 0x54 ∷ 0x94 ∷ 0x1c ∷ 0x45 ∷ 0xd1 ∷ 0xb3 ∷ 0xa3 ∷ 0x23 ∷ 0xf1 ∷ 0x43 ∷ 0x3b ∷ 0xd6 ∷ []

unfoldable pub characters : List ℕ
characters = bytes "w508d6qejxtdg4y5r3zarvary0c5xw7k"

pub program_symbols_lem : to_symbols program ≡ map symbol characters
unfolding to_symbols whole groups spelled bits bits_of program characters symbol charset
program_symbols_lem = refl

pub program_bytes : to_bytes (map symbol characters) ≡ program
unfolding to_bytes whole groups spelled bits bits_of program characters symbol charset
program_bytes = refl

pub program_padding : padding_verdict (map symbol characters) ≡ Ok tt
unfolding padding_verdict padding_long padding_not_zero padding leftover bits bits_of characters symbol charset
program_padding = refl

-- one symbol leaves five bits, two symbols two
pub five_bits_left : padding_verdict (0 ∷ []) ≡ Err PaddingLong
unfolding padding_verdict padding_long padding_not_zero padding leftover bits bits_of
five_bits_left = refl

pub two_bits_set : padding_verdict (0 ∷ 3 ∷ []) ≡ Err PaddingNotZero
unfolding padding_verdict padding_long padding_not_zero padding leftover bits bits_of
two_bits_set = refl

pub two_bits_clear : padding_verdict (31 ∷ 28 ∷ []) ≡ Ok tt
unfolding padding_verdict padding_long padding_not_zero padding leftover bits bits_of
two_bits_clear = refl

-- one byte of ones: written where there is room for two symbols, with what stands past them kept; refused with 17 where there is not
pub one_byte_meets : SymbolsWritten (255 ∷ []) (9 ∷ 9 ∷ 9 ∷ []) (Ok 2) (31 ∷ 28 ∷ 9 ∷ [])
unfolding written_into room_small to_symbols whole groups spelled bits bits_of
one_byte_meets = record { answer = refl; buffer = refl }

pub one_byte_written : (r : Result ℕ Refusal) (after : List ℕ) → SymbolsWritten (255 ∷ []) (9 ∷ 9 ∷ 9 ∷ []) r after
    → (r ≡ Ok 2) × (after ≡ 31 ∷ 28 ∷ 9 ∷ [])
unfolding written_into room_small to_symbols whole groups spelled bits bits_of
one_byte_written r after p = (p.answer, p.buffer)

pub one_byte_refused : (r : Result ℕ Refusal) (after : List ℕ) → SymbolsWritten (255 ∷ []) (9 ∷ []) r after → (r ≡ Err RoomSmall) × (after ≡ 9 ∷ [])
unfolding written_into room_small to_symbols whole groups spelled bits bits_of
one_byte_refused r after p = (p.answer, p.buffer)

-- its two symbols, and its two characters in upper case
pub two_symbols_meets : BytesWritten (31 ∷ 28 ∷ []) (9 ∷ 9 ∷ []) (Ok 1) (255 ∷ 9 ∷ [])
unfolding written_into room_small to_bytes whole groups spelled bits bits_of
two_symbols_meets = record { answer = refl; buffer = refl }

pub two_characters_meets : CharactersWritten (bytes "LU") (9 ∷ 9 ∷ []) (Ok 1) (255 ∷ 9 ∷ [])
unfolding written_into room_small to_bytes whole groups spelled bits bits_of symbol charset
two_characters_meets = record { answer = refl; buffer = refl }

pub two_symbols_written : (r : Result ℕ Refusal) (after : List ℕ) → BytesWritten (31 ∷ 28 ∷ []) (9 ∷ 9 ∷ []) r after
    → (r ≡ Ok 1) × (after ≡ 255 ∷ 9 ∷ [])
unfolding written_into room_small to_bytes whole groups spelled bits bits_of
two_symbols_written r after p = (p.answer, p.buffer)

pub two_characters_written : (r : Result ℕ Refusal) (after : List ℕ) → CharactersWritten (bytes "LU") (9 ∷ 9 ∷ []) r after
    → (r ≡ Ok 1) × (after ≡ 255 ∷ 9 ∷ [])
unfolding written_into room_small to_bytes whole groups spelled bits bits_of symbol charset
two_characters_written r after p = (p.answer, p.buffer)
