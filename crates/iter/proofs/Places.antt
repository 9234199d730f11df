-- Where the code finds a value: the byte at a place in three symbols, the symbol at a place in two bytes.
-- Both are `group_is` at the two widths.
use mathlib.Core.Path.{◌≡◌, sym, ap, ap₂, ◌∙◌}
use mathlib.Core.List.{List, append-nil}
use Prim.Native.Nat.{ℕ, ◌+◌, ◌-◌, ◌*◌, ◌/◌, ◌%◌, ◌^◌, ◌<◌}
use native.Mathlib.Numerals.{add-one, add-two}
use native.Mathlib.Nat.{mod-eq_of_lt}
use native.Mathlib.Omega.{arith}
use lib.ListN.{length, get_or}
use Rattle.paper.specs.Bits.{bits, whole, to_bytes, to_symbols}
use Rattle.iter.proofs.Bits.{bits_length, number}
use Rattle.iter.proofs.Window.{window, group_is}
use Rattle.iter.proofs.Lengths.{bytes_length, symbols_length, filling}

module _ (symbols : List ℕ) (at : ℕ) (within : at < length (to_bytes symbols)) where
  abbrev pub first_symbol : ℕ
  first_symbol = at / 5 * 8 + at % 5 * 8 / 5

  pub first_symbol_in : first_symbol + 1 < length symbols
  first_symbol_in = omega (arith, bytes_length symbols)

  three : number 5 (window 3 first_symbol symbols)
      ≡ get_or symbols first_symbol 0 % 32 * 1024 + get_or symbols (first_symbol + 1) 0 % 32 * 32 + get_or symbols (first_symbol + 2) 0 % 32
  unfolding number window
  three = rw (add-one, add-two) (omega arith)

  pub byte_is : get_or (to_bytes symbols) at 0
      ≡ (get_or symbols first_symbol 0 % 32 * 1024 + get_or symbols (first_symbol + 1) 0 % 32 * 32 + get_or symbols (first_symbol + 2) 0 % 32)
      / 2 ^ (7 - at % 5 * 8 % 5) % 256
  unfolding to_bytes
  byte_is =
      ap (λ (l : List ℕ). get_or (whole 8 l) at 0) (sym (append-nil (bits 5 symbols)))
      ∙ group_is 5 8 3 symbols first_symbol (at % 5 * 8 % 5) (7 - at % 5 * 8 % 5) (omega arith) 0 at
      (omega arith) (omega (arith, first_symbol_in)) (omega arith) (omega arith) (omega (arith, bytes_length symbols))
      ∙ ap (λ (v : ℕ). v / 2 ^ (7 - at % 5 * 8 % 5) % 256) three

  -- by three numbers that count as those symbols
  pub byte_from : (x y z : ℕ) → x % 32 ≡ get_or symbols first_symbol 0 % 32 → y % 32 ≡ get_or symbols (first_symbol + 1) 0 % 32
      → z % 32 ≡ get_or symbols (first_symbol + 2) 0 % 32
      → (x % 32 * 1024 + y % 32 * 32 + z % 32) / 2 ^ (7 - at % 5 * 8 % 5) % 256 ≡ get_or (to_bytes symbols) at 0
  byte_from x y z p q r = rw (p, q, r) (sym byte_is)

module _ (bytes : List ℕ) (at : ℕ) (within : at < length (to_symbols bytes)) where
  abbrev pub first_byte : ℕ
  first_byte = at / 8 * 5 + at % 8 * 5 / 8

  pub first_byte_in : first_byte < length bytes
  first_byte_in = omega (arith, symbols_length bytes)

  two : number 8 (window 2 first_byte bytes) ≡ get_or bytes first_byte 0 % 256 * 256 + get_or bytes (first_byte + 1) 0 % 256
  unfolding number window
  two = rw add-one (omega arith)

  pub symbol_is : get_or (to_symbols bytes) at 0
      ≡ (get_or bytes first_byte 0 % 256 * 256 + get_or bytes (first_byte + 1) 0 % 256) / 2 ^ (11 - at % 8 * 5 % 8) % 32
  unfolding to_symbols filling
  symbol_is =
      group_is 8 5 2 bytes first_byte (at % 8 * 5 % 8) (11 - at % 8 * 5 % 8) (omega arith) (filling (length (bits 8 bytes))) at
      (omega arith) (omega (arith, first_byte_in)) (omega arith) (omega arith) (omega (arith, symbols_length bytes, bits_length 8 bytes))
      ∙ ap (λ (v : ℕ). v / 2 ^ (11 - at % 8 * 5 % 8) % 32) two

  pub symbol_from : (x y : ℕ) → x ≡ get_or bytes first_byte 0 → y ≡ get_or bytes (first_byte + 1) 0 → x < 256 → y < 256
      → (x * 256 + y) / 2 ^ (11 - at % 8 * 5 % 8) % 32 ≡ get_or (to_symbols bytes) at 0
  symbol_from x y p q h k =
      ap₂ (λ (u v : ℕ). (u * 256 + v) / 2 ^ (11 - at % 8 * 5 % 8) % 32)
      (sym (mod-eq_of_lt h) ∙ ap (λ (v : ℕ). v % 256) p) (sym (mod-eq_of_lt k) ∙ ap (λ (v : ℕ). v % 256) q)
      ∙ sym symbol_is
