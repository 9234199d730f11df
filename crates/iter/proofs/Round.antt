-- Bytes to symbols and back is the identity; symbols to bytes and back is, exactly where the leftover bits are under five and zero.
-- Both go by the bits: regrouping changes the groups and not the bits.
use mathlib.Core.Path.{◌≡◌, refl, sym, ap, ap₂, ◌∙◌}
use mathlib.Core.Logic.{◌↔◌}
use mathlib.Core.Bool.{Bool, false, not}
use mathlib.Core.List.{List, [], ◌∷◌, ◌++◌, append-nil}
use Prim.Native.Nat.{ℕ, zero, suc, ◌+◌, ◌*◌, ◌%◌, ◌≤◌, ◌<◌}
use native.Mathlib.Nat.{le_refl, le_of_suc-le-suc}
use native.Mathlib.Omega.{arith}
use borrow.Author.Tests.{ltb-false, le-ltb, eqb-true, not-false}
use lib.Dec.{ltb, eqb}
use lib.ListN.{length, drop, replicate, length-append, length-replicate}
use lib.Seq.{drop-append_seam}
use Rattle.laws.specs.Lists.{Every, any}
use Rattle.laws.proofs.Bools.{or_first, or_second}
use Rattle.paper.specs.Bits.{bits, whole, leftover, to_bytes, padding, to_symbols}
use Rattle.answers.specs.Rules.{padding_long, padding_not_zero, padding_verdict}
use Rattle.std.specs.Prelude.{Ok}
use Rattle.iter.proofs.Bits.{bits_length}
use Rattle.iter.proofs.Groups.{bits_binary, leftover_length, bits_whole, whole_bits, leftover_bits}
use Rattle.iter.proofs.Lengths.{filling, fill, filling_lt, filled_length, filled_binary}

-- ---- the bits of what was regrouped

pub none_left : (l : List ℕ) → length l ≡ 0 → l ≡ []
none_left [] e = refl
none_left (x ∷ l) e = absurd (omega arith)

filled_even : (n : ℕ) → (n + filling n) % 5 ≡ 0
unfolding filling
filled_even n = omega arith

bits_of_bytes : (symbols : List ℕ) → bits 8 (to_bytes symbols) ++ padding symbols ≡ bits 5 symbols
unfolding to_bytes padding
bits_of_bytes symbols = bits_whole 8 (bits 5 symbols) (bits_binary 5 symbols)

bits_of_symbols : (bytes : List ℕ) → bits 5 (to_symbols bytes) ≡ bits 8 bytes ++ fill bytes
unfolding to_symbols filling
bits_of_symbols bytes =
    sym (append-nil (bits 5 (whole 5 full))) ∙ ap (λ (l : List ℕ). bits 5 (whole 5 full) ++ l) (sym (none_left (leftover 5 full) even))
    ∙ bits_whole 5 full (filled_binary bytes (filling (length (bits 8 bytes))))
  where
    full : List ℕ
    full = bits 8 bytes ++ fill bytes

    even : length (leftover 5 full) ≡ 0
    even =
        leftover_length 5 full
        ∙ ap (λ (n : ℕ). n % 5) (filled_length bytes)
        ∙ filled_even (length (bits 8 bytes))

-- ---- there and back

filling_few : (bytes : List ℕ) (k : ℕ) → 5 ≤ k → length (fill bytes) < k
filling_few bytes k h = omega (arith, filling_lt (length (bits 8 bytes)), length-replicate {A = ℕ} (filling (length (bits 8 bytes))) 0)

pub bytes_round : (bytes : List ℕ) → Every (λ v. v < 256) bytes → to_bytes (to_symbols bytes) ≡ bytes
unfolding to_bytes
bytes_round bytes p =
    ap (whole 8) (bits_of_symbols bytes)
    ∙ whole_bits 8 bytes (fill bytes) p (filling_few bytes 8 (omega arith))

-- what bytes_to_symbols fills up is left over again
padding_filled : (bytes : List ℕ) → padding (to_symbols bytes) ≡ fill bytes
unfolding padding
padding_filled bytes =
    ap (leftover 8) (bits_of_symbols bytes)
    ∙ leftover_bits 8 bytes (fill bytes) (filling_few bytes 8 (omega arith))

-- no bit of it is set
abbrev pub is_set : ℕ → Bool
is_set b = not (eqb b 0)

zeros_pass : (n : ℕ) → any is_set (replicate n 0) ≡ false
zeros_pass zero = refl
zeros_pass (suc n) = zeros_pass n

zeros_of : (l : List ℕ) → any is_set l ≡ false → l ≡ replicate (length l) 0
zeros_of [] e = refl
zeros_of (b ∷ l) e =
    ap₂ ◌∷◌ (eqb-true b 0 (not-false (eqb b 0) (or_first (is_set b) (any is_set l) e))) (zeros_of l (or_second (is_set b) (any is_set l) e))

zeros_zero : (n : ℕ) → Every (λ b. b ≡ 0) (replicate n 0)
zeros_zero zero = tt
zeros_zero (suc n) = (refl, zeros_zero n)

-- so writers leave padding that every reader accepts
pub written_padding_short : (bytes : List ℕ) → length (padding (to_symbols bytes)) ≤ 4
written_padding_short bytes = rw (padding_filled bytes) (le_of_suc-le-suc (filling_few bytes 5 (le_refl 5)))

pub written_padding_zero : (bytes : List ℕ) → Every (λ b. b ≡ 0) (padding (to_symbols bytes))
written_padding_zero bytes = rw (padding_filled bytes) (zeros_zero (filling (length (bits 8 bytes))))

pub written_padding : (bytes : List ℕ) → padding_verdict (to_symbols bytes) ≡ Ok tt
unfolding padding_verdict padding_long padding_not_zero
written_padding bytes =
    rw (padding_filled bytes, le-ltb 4 (length (fill bytes)) (le_of_suc-le-suc (filling_few bytes 5 (le_refl 5))), zeros_pass (filling (length (bits 8 bytes))))

module _ (symbols : List ℕ) where
  abbrev Short : Type 0
  Short = (padding_long symbols ≡ false) × (padding_not_zero symbols ≡ false)

  -- where the leftover is zero bits, fewer than five, they are what is filled up again
  symbols_again : Every (λ v. v < 32) symbols → Short → to_symbols (to_bytes symbols) ≡ symbols
  unfolding to_symbols filling padding_long padding_not_zero
  symbols_again p s =
      ap (λ (l : List ℕ). whole 5 (bits 8 (to_bytes symbols) ++ l)) (sym zeros)
      ∙ ap (whole 5) (bits_of_bytes symbols ∙ sym (append-nil (bits 5 symbols)))
      ∙ whole_bits 5 symbols [] p (omega arith)
    where
      count : length (bits 8 (to_bytes symbols)) + length (padding symbols) ≡ length symbols * 5
      count = sym (length-append (bits 8 (to_bytes symbols)) (padding symbols)) ∙ ap length (bits_of_bytes symbols) ∙ bits_length 5 symbols

      few : length (padding symbols) ≤ 4
      few = ltb-false 4 (length (padding symbols)) s.0

      same : length (padding symbols) ≡ filling (length (bits 8 (to_bytes symbols)))
      same = omega (arith, count, few)

      zeros : padding symbols ≡ fill (to_bytes symbols)
      zeros = zeros_of (padding symbols) s.1 ∙ ap (λ (n : ℕ). replicate n 0) same

  symbols_short : to_symbols (to_bytes symbols) ≡ symbols → Short
  unfolding padding_long padding_not_zero
  symbols_short e = (rw left short, rw left (zeros_pass (filling (length (bits 8 (to_bytes symbols))))))
    where
      short : ltb 4 (length (fill (to_bytes symbols))) ≡ false
      short = le-ltb 4 (length (fill (to_bytes symbols))) (le_of_suc-le-suc (filling_few (to_bytes symbols) 5 (le_refl 5)))

      both : bits 8 (to_bytes symbols) ++ padding symbols ≡ bits 8 (to_bytes symbols) ++ fill (to_bytes symbols)
      both = bits_of_bytes symbols ∙ ap (bits 5) (sym e) ∙ bits_of_symbols (to_bytes symbols)

      left : padding symbols ≡ fill (to_bytes symbols)
      left =
          sym (drop-append_seam (bits 8 (to_bytes symbols)) (padding symbols))
          ∙ ap (drop (length (bits 8 (to_bytes symbols)))) both
          ∙ drop-append_seam (bits 8 (to_bytes symbols)) (fill (to_bytes symbols))

  -- symbols to bytes and back: the identity exactly where neither 13 nor 14 would be answered
  pub symbols_round : Every (λ v. v < 32) symbols
      → (to_symbols (to_bytes symbols) ≡ symbols) ↔ ((padding_long symbols ≡ false) × (padding_not_zero symbols ≡ false))
  symbols_round p = (symbols_short, symbols_again p)
