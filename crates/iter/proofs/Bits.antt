-- The bits of numbers: how many, how they split and join, and the number that they spell.
-- A list of numbers of w bits each spells one number, and a part of its bits is a quotient and a remainder of that number.
use mathlib.Core.Path.{◌≡◌, refl, sym, ap, ap₂, ◌∙◌}
use mathlib.Core.List.{List, [], ◌∷◌, ◌++◌, append_assoc}
use Prim.Native.Nat.{ℕ, zero, suc, ◌+◌, ◌*◌, ◌/◌, ◌%◌, ◌^◌, ◌<◌}
use native.Mathlib.Nat.{zero-div, zero-add, suc-add, add_comm, suc-mul, zero-mul, pow-suc, mod-lt, mul-add-div_right, mul-add-mod_self_right}
use native.Mathlib.Omega.{arith}
use lib.Arith.{digits_lt, digits_div}
use lib.Pow.{pow_pos, pow-add, shr-shr, split, mod-pow-add}
use lib.ListN.{replicate-append-replicate, length, take, drop, replicate, length-append}
use lib.Seq.{take_at, drop_at, drop-nil, drop-append-add}
use Rattle.paper.specs.Bits.{bits_of, bits, spelled}

-- ---- one number

pub bits_of_length : (w v : ℕ) → length (bits_of w v) ≡ w
unfolding bits_of
bits_of_length zero v = refl
bits_of_length (suc w) v = ap suc (bits_of_length w v)

-- the high bits, then the low ones
pub bits_of_add : (m n v : ℕ) → bits_of (m + n) v ≡ bits_of m (v / 2 ^ n) ++ bits_of n v
unfolding bits_of
bits_of_add zero n v = rw (zero-add n)
bits_of_add (suc m) n v =
    rw (suc-add m n)
    (ap₂ ◌∷◌ (ap (λ (k : ℕ). v / 2 ^ k % 2) (add_comm m n) ∙ ap (λ (x : ℕ). x % 2) (sym (shr-shr v n m))) (bits_of_add m n v))

-- what lies above the bits does not count
pub bits_of_above : (n x y : ℕ) → bits_of n (x * 2 ^ n + y) ≡ bits_of n y
unfolding bits_of
bits_of_above zero x y = refl
bits_of_above (suc n) x y = ap₂ ◌∷◌ top (ap (bits_of n) move ∙ bits_of_above n (x * 2) y)
  where
    move : x * 2 ^ suc n + y ≡ x * 2 * 2 ^ n + y
    move = rw (pow-suc 2 n) (omega arith)

    top : (x * 2 ^ suc n + y) / 2 ^ n % 2 ≡ y / 2 ^ n % 2
    top =
        ap (λ (v : ℕ). v / 2 ^ n % 2) move ∙ ap (λ (v : ℕ). v % 2) (mul-add-div_right (pow_pos n) (x * 2) y)
        ∙ mul-add-mod_self_right x 2 (y / 2 ^ n)

pub bits_of_mod : (n v : ℕ) → bits_of n (v % 2 ^ n) ≡ bits_of n v
bits_of_mod n v = sym (bits_of_above n (v / 2 ^ n) (v % 2 ^ n)) ∙ ap (bits_of n) (split v n)

pub bits_of_zero : (n : ℕ) → bits_of n 0 ≡ replicate n 0
unfolding bits_of
bits_of_zero zero = refl
bits_of_zero (suc n) = ap₂ ◌∷◌ none (bits_of_zero n)
  where
    none : 0 / 2 ^ n % 2 ≡ 0
    none = ap (λ (v : ℕ). v % 2) (zero-div (2 ^ n))

-- the highest of w + 1 bits, and the others
pub mod_digit : (w v : ℕ) → v % 2 ^ suc w ≡ v / 2 ^ w % 2 * 2 ^ w + v % 2 ^ w
mod_digit w v = ap (λ (k : ℕ). v % 2 ^ k) (sym (suc-add 0 w ∙ ap suc (zero-add w))) ∙ mod-pow-add v 1 w

-- bits spell their number, after what was read before
pub spelled_bits_of : (x w v : ℕ) → spelled x (bits_of w v) ≡ x * 2 ^ w + v % 2 ^ w
unfolding bits_of spelled
spelled_bits_of x zero v = omega arith
spelled_bits_of x (suc w) v = spelled_bits_of (x * 2 + v / 2 ^ w % 2) w v ∙ rw (mod_digit w v, pow-suc 2 w) (omega arith)

-- the bits from off on, w of them, of a number of off + (w + m) bits
pub part_of_number : (off w m v : ℕ) → spelled 0 (take w (drop off (bits_of (off + (w + m)) v))) ≡ v / 2 ^ m % 2 ^ w
part_of_number off w m v =
    ap (λ (l : List ℕ). spelled 0 (take w l)) after
    ∙ ap (spelled 0) first
    ∙ spelled_bits_of 0 w (v / 2 ^ m)
    ∙ omega arith
  where
    after : drop off (bits_of (off + (w + m)) v) ≡ bits_of (w + m) v
    after = ap (drop off) (bits_of_add off (w + m) v) ∙ drop_at (bits_of off (v / 2 ^ (w + m))) (bits_of (w + m) v) off (bits_of_length off (v / 2 ^ (w + m)))

    first : take w (bits_of (w + m) v) ≡ bits_of w (v / 2 ^ m)
    first = ap (take w) (bits_of_add w m v) ∙ take_at (bits_of w (v / 2 ^ m)) (bits_of m v) w (bits_of_length w (v / 2 ^ m))

-- ---- a list of numbers of w bits

module _ (w : ℕ) where
  pub bits_length : (vs : List ℕ) → length (bits w vs) ≡ length vs * w
  unfolding bits
  bits_length [] = sym (zero-mul w)
  bits_length (v ∷ vs) =
      length-append (bits_of w v) (bits w vs)
      ∙ ap₂ ◌+◌ (bits_of_length w v) (bits_length vs)
      ∙ omega (arith, suc-mul (length vs) w)

  pub bits_append : (us vs : List ℕ) → bits w (us ++ vs) ≡ bits w us ++ bits w vs
  unfolding bits
  bits_append [] vs = refl
  bits_append (u ∷ us) vs = ap (bits_of w u ++◌) (bits_append us vs) ∙ sym (append_assoc (bits_of w u) (bits w us) (bits w vs))

  pub bits_drop : (i : ℕ) (vs : List ℕ) → drop (i * w) (bits w vs) ≡ bits w (drop i vs)
  unfolding bits
  bits_drop zero vs = rw (zero-mul w)
  bits_drop (suc i) [] = drop-nil (suc i * w)
  bits_drop (suc i) (v ∷ vs) = ap (λ (n : ℕ). drop n (bits_of w v ++ bits w vs)) count ∙ drop-append-add (bits_of w v) (bits w vs) (i * w) ∙ bits_drop i vs
    where
      count : suc i * w ≡ length (bits_of w v) + i * w
      count = omega (arith, suc-mul i w, bits_of_length w v)

  pub bits_zeros : (n : ℕ) → bits w (replicate n 0) ≡ replicate (n * w) 0
  unfolding bits
  bits_zeros zero = ap (λ (k : ℕ). replicate k 0) (sym (zero-mul w))
  bits_zeros (suc n) =
      ap₂ ◌++◌ (bits_of_zero w) (bits_zeros n)
      ∙ replicate-append-replicate w (n * w) 0
      ∙ ap (λ (k : ℕ). replicate k 0) (add_comm w (n * w) ∙ sym (suc-mul n w))

  -- the number that they spell together
  unfoldable pub number : List ℕ → ℕ
  number [] = 0
  number (v ∷ vs) = v % 2 ^ w * 2 ^ (length vs * w) + number vs

  pub number_lt : (vs : List ℕ) → number vs < 2 ^ (length vs * w)
  unfolding number
  number_lt [] = pow_pos (0 * w)
  number_lt (v ∷ vs) =
      omega (arith, digits_lt (mod-lt v (pow_pos w)) (number_lt vs), pow-add 2 w (length vs * w), ap (λ (k : ℕ). 2 ^ k) one_more)
    where
      one_more : suc (length vs) * w ≡ w + length vs * w
      one_more = suc-mul (length vs) w ∙ add_comm (length vs * w) w

  pub bits_number : (vs : List ℕ) → bits w vs ≡ bits_of (length vs * w) (number vs)
  unfolding bits_of bits number
  bits_number [] = rw (zero-mul w)
  bits_number (v ∷ vs) =
      ap₂ ◌++◌
      (sym (bits_of_mod w v) ∙ ap (bits_of w) (sym (digits_div (v % 2 ^ w) (number_lt vs))))
      (bits_number vs ∙ sym (bits_of_above n (v % 2 ^ w) (number vs)))
      ∙ sym (bits_of_add w n (v % 2 ^ w * 2 ^ n + number vs))
      ∙ ap (λ (k : ℕ). bits_of k (v % 2 ^ w * 2 ^ n + number vs)) (add_comm w n ∙ sym (suc-mul (length vs) w))
    where
      n : ℕ
      n = length vs * w
