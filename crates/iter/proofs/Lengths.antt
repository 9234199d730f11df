-- How many bytes, symbols and leftover bits there are, and how large they can be.
use mathlib.Core.Path.{◌≡◌, ap, ◌∙◌}
use mathlib.Core.List.{List, ◌++◌}
use Prim.Native.Nat.{ℕ, zero, suc, ◌+◌, ◌-◌, ◌*◌, ◌/◌, ◌%◌, ◌<◌}
use native.Mathlib.Omega.{arith}
use lib.ListN.{length, replicate, length-append, length-replicate}
use Rattle.laws.specs.Lists.{Every}
use Rattle.paper.specs.Bits.{bits, to_bytes, padding, to_symbols}
use Rattle.iter.proofs.Bits.{bits_length}
use Rattle.iter.proofs.Groups.{Binary, bits_binary, every_append, whole_length, leftover_length, whole_lt}

-- ---- lengths

pub bytes_length : (symbols : List ℕ) → length (to_bytes symbols) ≡ length symbols * 5 / 8
unfolding to_bytes
bytes_length symbols = whole_length 8 (bits 5 symbols) ∙ ap (λ (n : ℕ). n / 8) (bits_length 5 symbols)

pub padding_length : (symbols : List ℕ) → length (padding symbols) ≡ length symbols * 5 % 8
unfolding padding
padding_length symbols = leftover_length 8 (bits 5 symbols) ∙ ap (λ (n : ℕ). n % 8) (bits_length 5 symbols)

-- how many zeros fill up the last symbol of n bits
unfoldable pub filling : ℕ → ℕ
filling n = (5 - n % 5) % 5

-- and those zeros, after the bits of bytes
abbrev pub fill : List ℕ → List ℕ
fill bytes = replicate (filling (length (bits 8 bytes))) 0

pub filling_lt : (n : ℕ) → filling n < 5
unfolding filling
filling_lt n = omega arith

filled_up : (n : ℕ) → (n + filling n) / 5 ≡ (n + 4) / 5
unfolding filling
filled_up n = omega arith

pub filled_length : (bytes : List ℕ) → length (bits 8 bytes ++ fill bytes) ≡ length (bits 8 bytes) + filling (length (bits 8 bytes))
filled_length bytes = length-append (bits 8 bytes) (fill bytes) ∙ ap (λ (n : ℕ). length (bits 8 bytes) + n) (length-replicate (filling (length (bits 8 bytes))) 0)

pub symbols_length : (bytes : List ℕ) → length (to_symbols bytes) ≡ (length bytes * 8 + 4) / 5
unfolding to_symbols filling
symbols_length bytes =
    whole_length 5 (bits 8 bytes ++ fill bytes)
    ∙ ap (λ (n : ℕ). n / 5) (filled_length bytes)
    ∙ filled_up (length (bits 8 bytes))
    ∙ ap (λ (n : ℕ). (n + 4) / 5) (bits_length 8 bytes)

-- ---- values

pub bytes_below : (symbols : List ℕ) → Every (λ v. v < 256) (to_bytes symbols)
unfolding to_bytes
bytes_below symbols = whole_lt 8 (bits 5 symbols) (bits_binary 5 symbols)

zeros_binary : (n : ℕ) → Binary (replicate n 0)
zeros_binary zero = tt
zeros_binary (suc n) = (omega arith, zeros_binary n)

pub filled_binary : (bytes : List ℕ) (n : ℕ) → Binary (bits 8 bytes ++ replicate n 0)
filled_binary bytes n = every_append (λ b. b < 2) (bits 8 bytes) (replicate n 0) (bits_binary 8 bytes) (zeros_binary n)

pub symbols_below : (bytes : List ℕ) → Every (λ v. v < 32) (to_symbols bytes)
unfolding to_symbols filling
symbols_below bytes = whole_lt 5 (bits 8 bytes ++ fill bytes) (filled_binary bytes (filling (length (bits 8 bytes))))
