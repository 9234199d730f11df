-- Document 01's 13 and 14 from the count of symbols and the last of them.
-- The leftover bits, where they are fewer than five, are the low bits of the last symbol.
use mathlib.Core.Path.{◌≡◌, refl, sym, ap, ◌∙◌}
use mathlib.Core.Bool.{Bool, not, ◌||◌}
use mathlib.Core.List.{List, [], ◌∷◌, map, append-nil}
use Prim.Native.Nat.{ℕ, zero, suc, ◌+◌, ◌-◌, ◌*◌, ◌/◌, ◌%◌, ◌^◌, ◌≤◌, ◌<◌}
use native.Mathlib.Nat.{zero-add, zero-mul, one-mul, suc-mul, mod-one, mul-add-mod_self_right}
use native.Mathlib.Omega.{arith}
use borrow.Author.Tests.{lt-ltb, le-ltb, ne_eqb}
use lib.Dec.{eqb, eqb-suc-zero}
use lib.Pow.{pow_pos, shl_exact}
use lib.ListN.{length, drop, get_or, drop_of_length-le}
use lib.Seq.{drop-cons, drop-drop, drop_at}
use Rattle.laws.specs.Lists.{any}
use Rattle.paper.specs.Bits.{bits_of, bits, leftover, padding}
use Rattle.answers.specs.Rules.{padding_long, padding_not_zero, padding_verdict}
use Rattle.iter.proofs.Bits.{mod_digit, bits_of_length, bits_of_add, bits_of_mod, bits_length, bits_drop}
use Rattle.iter.proofs.Lengths.{padding_length}
use Rattle.iter.proofs.Round.{none_left, is_set}
use Rattle.numbers.specs.declared.Refusal.TheVariants.{PaddingLong, PaddingNotZero}
use Rattle.std.specs.Prelude.{Ok, Err, Some, None, slice_get}
use Rattle.std.specs.Option.{option_map}
use Rattle.std.proofs.lemmas.Option.{slice_get-get_or, slice_get-map, get_or_from_slice_get}

-- some bit is set exactly if the number is not zero
any_bit : (k v : ℕ) → any is_set (bits_of k v) ≡ not (eqb (v % 2 ^ k) 0)
unfolding bits_of
any_bit zero v = rw (mod-one v)
any_bit (suc k) v = go (v / 2 ^ k % 2) (any_bit k v) (mod_digit k v) (omega arith)
  where
    go : (b : ℕ) → any is_set (bits_of k v) ≡ not (eqb (v % 2 ^ k) 0) → v % 2 ^ suc k ≡ b * 2 ^ k + v % 2 ^ k → b < 2
        → (is_set b || any is_set (bits_of k v)) ≡ not (eqb (v % 2 ^ suc k) 0)
    go zero e d h = e ∙ ap (λ (n : ℕ). not (eqb n 0)) (sym (d ∙ ap (λ (n : ℕ). n + v % 2 ^ k) (zero-mul (2 ^ k)) ∙ zero-add (v % 2 ^ k)))
    go (suc b) e d h =
        ap (λ (t : Bool). not t || any is_set (bits_of k v)) (eqb-suc-zero b)
        ∙ sym (ap not (ne_eqb (v % 2 ^ suc k) 0 (λ z. omega (arith, pow_pos k, suc-mul b (2 ^ k)))))

-- the code's shift of 1
pub shifted_one : (k : ℕ) → k ≤ 4 → 1 * 2 ^ k % 256 ≡ 2 ^ k
shifted_one k h = shl_exact {a = 1} 1 k 8 (omega arith) (omega arith) ∙ one-mul (2 ^ k)

abbrev pub left_of : ℕ → ℕ
left_of count = count % 8 * 5 % 8

left_length : (symbols : List ℕ) (count : ℕ) → length symbols ≡ count → length (padding symbols) ≡ left_of count
left_length symbols count all =
    padding_length symbols
    ∙ ap (λ (n : ℕ). n * 5 % 8) all
    ∙ ap (λ (n : ℕ). n % 8) parts
    ∙ mul-add-mod_self_right (count / 8 * 5) 8 (count % 8 * 5)
  where
    parts : count * 5 ≡ count / 8 * 5 * 8 + count % 8 * 5
    parts = omega arith

-- the low bits of a symbol of five
low_bits : (k last : ℕ) → k ≤ 4 → drop (5 - k) (bits_of 5 last) ≡ bits_of k last
low_bits k last h =
    ap (λ (n : ℕ). drop (5 - k) (bits_of n last)) parts
    ∙ ap (drop (5 - k)) (bits_of_add (5 - k) k last)
    ∙ drop_at (bits_of (5 - k) (last / 2 ^ k)) (bits_of k last) (5 - k) (bits_of_length (5 - k) (last / 2 ^ k))
  where
    parts : 5 ≡ 5 - k + k
    parts = omega arith

pub low_bits_of_last : (symbols : List ℕ) (count last : ℕ) → length symbols ≡ count
    → get_or symbols (count - 1) 0 % 32 ≡ last % 32 → left_of count ≤ 4 → padding symbols ≡ bits_of (left_of count) last
unfolding bits_of bits padding leftover
low_bits_of_last symbols zero last all same few = none_left (padding symbols) (left_length symbols zero all) ∙ none
  where
    none : [] ≡ bits_of 0 last
    none = refl
low_bits_of_last symbols (suc n) last all same few =
    ap (λ (k : ℕ). drop k (bits 5 symbols)) start
    ∙ sym (drop-drop (5 - left_of (suc n)) (n * 5) (bits 5 symbols))
    ∙ ap (drop (5 - left_of (suc n))) (bits_drop 5 n symbols ∙ one)
    ∙ low_bits (left_of (suc n)) last few
  where
    start : length (bits 5 symbols) / 8 * 8 ≡ n * 5 + (5 - left_of (suc n))
    start = omega (arith, bits_length 5 symbols, all, few)

    v : ℕ
    v = get_or symbols n 0

    before : n ≡ suc n - 1
    before = omega arith

    one : bits 5 (drop n symbols) ≡ bits_of 5 last
    one =
        ap (bits 5) (drop-cons symbols n 0 (omega (arith, all)) ∙ ap (λ (l : List ℕ). v ∷ l) (drop_of_length-le symbols {i = suc n} (omega (arith, all))))
        ∙ append-nil (bits_of 5 v)
        ∙ sym (bits_of_mod 5 v)
        ∙ ap (bits_of 5) (ap (λ (i : ℕ). get_or symbols i 0 % 32) before ∙ same)
        ∙ bits_of_mod 5 last

-- a list without a last number is empty
pub none_last : (list : List ℕ) → slice_get list (length list - 1) ≡ None → length list ≡ 0
none_last [] e = refl
none_last (x ∷ list) e = let some = slice_get-get_or (x ∷ list) (length (x ∷ list) - 1) 0 (omega arith) in cc

-- the last number counts as the last symbol that is read
pub last_symbol : (read : ℕ → ℕ) (list : List ℕ) (v r : ℕ) → slice_get list (length list - 1) ≡ Some v → r ≡ read v
    → get_or (map read list) (length list - 1) 0 % 32 ≡ r % 32
last_symbol read list v r e told = ap (λ (x : ℕ). x % 32) (get_or_from_slice_get (map read list) (length list - 1) (read v) 0 there ∙ sym told)
  where
    there : slice_get (map read list) (length list - 1) ≡ Some (read v)
    there = slice_get-map read list (length list - 1) ∙ ap (option_map read) e

pub padding_none : (symbols : List ℕ) → length symbols ≡ 0 → Ok tt ≡ padding_verdict symbols
unfolding padding_verdict padding_long padding_not_zero
padding_none symbols e = rw (none_left (padding symbols) (left_length symbols 0 e))

module _ (symbols : List ℕ) (count last : ℕ) (all : length symbols ≡ count) (same : get_or symbols (count - 1) 0 % 32 ≡ last % 32) where
  pub padding_long_lem : 4 < left_of count → Err PaddingLong ≡ padding_verdict symbols
  unfolding padding_verdict padding_long
  padding_long_lem h = rw (left_length symbols count all, lt-ltb 4 (left_of count) h)

  module _ (few : left_of count ≤ 4) where
    bits_left : padding symbols ≡ bits_of (left_of count) last
    bits_left = low_bits_of_last symbols count last all same few

    pub padding_set : (last % (1 * 2 ^ left_of count % 256) ≡ 0 → ⊥) → Err PaddingNotZero ≡ padding_verdict symbols
    unfolding padding_verdict padding_long padding_not_zero
    padding_set h =
        let set : last % 2 ^ left_of count ≡ 0 → ⊥ = λ z. h (ap (λ (m : ℕ). last % m) (shifted_one (left_of count) few) ∙ z) in
        rw (left_length symbols count all, le-ltb 4 (left_of count) few, bits_left, any_bit (left_of count) last, ne_eqb (last % 2 ^ left_of count) 0 set)

    pub padding_clear : last % (1 * 2 ^ left_of count % 256) ≡ 0 → Ok tt ≡ padding_verdict symbols
    unfolding padding_verdict padding_long padding_not_zero
    padding_clear h =
        rw (left_length symbols count all, le-ltb 4 (left_of count) few, bits_left, any_bit (left_of count) last, ← shifted_one (left_of count) few, h)
