-- A group of w bits, read off the few numbers of a bits each that it lies in: a quotient and a remainder of the number that they spell.
-- Numbers past the end count as zero, which serves both the zeros that fill up and a window that reaches past the last group.
use mathlib.Core.Path.{◌≡◌, refl, sym, ap, ap₂, ◌∙◌}
use mathlib.Core.List.{List, [], ◌∷◌, ◌++◌, append_assoc}
use Prim.Native.Nat.{ℕ, zero, suc, ◌+◌, ◌-◌, ◌*◌, ◌/◌, ◌%◌, ◌^◌, ◌≤◌, ◌<◌}
use native.Mathlib.Nat.{suc-mul, le-div_iff_mul-le}
use native.Mathlib.Omega.{arith}
use lib.ListN.{length, take, drop, get_or, replicate, length-append, length-drop, length-replicate, replicate-append-replicate, take-append-drop}
use lib.Seq.{drop-cons, drop-drop, take-append-le, drop-append-le}
use Rattle.paper.specs.Bits.{bits_of, bits, spelled, whole}
use Rattle.iter.proofs.Bits.{bits_length, bits_append, bits_drop, bits_zeros, number, bits_number, part_of_number}
use Rattle.iter.proofs.Groups.{groups_at}

-- the numbers at i, i + 1, .., c of them, and zero past the end
unfoldable pub window : ℕ → ℕ → List ℕ → List ℕ
window zero i s = []
window (suc c) i s = get_or s i 0 ∷ window c (suc i) s

pub window_length : (c i : ℕ) (s : List ℕ) → length (window c i s) ≡ c
unfolding window
window_length zero i s = refl
window_length (suc c) i s = ap suc (window_length c (suc i) s)

get_d_zeros : (s : List ℕ) (e i : ℕ) → get_or (s ++ replicate e 0) i 0 ≡ get_or s i 0
get_d_zeros [] zero i = refl
get_d_zeros [] (suc e) zero = refl
get_d_zeros [] (suc e) (suc i) = get_d_zeros [] e i
get_d_zeros (x ∷ s) e zero = refl
get_d_zeros (x ∷ s) e (suc i) = get_d_zeros s e i

window_is : (c i e : ℕ) (s : List ℕ) → i + c ≤ length s + e → take c (drop i (s ++ replicate e 0)) ≡ window c i s
unfolding window
window_is zero i e s h = refl
window_is (suc c) i e s h =
    ap (take (suc c)) (drop-cons (s ++ replicate e 0) i 0 (omega (arith, length-append s (replicate e 0), length-replicate {A = ℕ} e 0)))
    ∙ ap₂ ◌∷◌ (get_d_zeros s e i) (window_is c (suc i) e s (omega arith))

-- a part that ends within the first of two lists
part_append : (p w : ℕ) (xs ys : List ℕ) → p + w ≤ length xs → take w (drop p (xs ++ ys)) ≡ take w (drop p xs)
part_append p w xs ys h =
    ap (take w) (drop-append-le p xs ys (omega arith)) ∙ take-append-le w (drop p xs) ys (omega (arith, length-drop p xs))

module _ (a w c : ℕ) (s : List ℕ) (i off m : ℕ) (fits : off + (w + m) ≡ c * a) where
  -- the part of w bits at off, within the bits from the ith number on
  part_is : (e : ℕ) → i + c ≤ length s + e → take w (drop off (bits a (drop i (s ++ replicate e 0)))) ≡ take w (drop off (bits a (window c i s)))
  part_is e h =
      ap (λ (l : List ℕ). take w (drop off (bits a l))) (sym (take-append-drop c (drop i (s ++ replicate e 0))))
      ∙ ap (λ (l : List ℕ). take w (drop off (bits a (l ++ drop c (drop i (s ++ replicate e 0)))))) (window_is c i e s h)
      ∙ ap (λ (l : List ℕ). take w (drop off l)) (bits_append a (window c i s) (drop c (drop i (s ++ replicate e 0))))
      ∙ part_append off w (bits a (window c i s)) (bits a (drop c (drop i (s ++ replicate e 0))))
      (omega (arith, bits_length a (window c i s), ap (λ (n : ℕ). n * a) (window_length c i s)))

  spelled_window : spelled 0 (take w (drop off (bits a (window c i s)))) ≡ number a (window c i s) / 2 ^ m % 2 ^ w
  spelled_window =
      ap (λ (l : List ℕ). spelled 0 (take w (drop off l)))
      (bits_number a (window c i s) ∙ ap (λ (n : ℕ). bits_of n (number a (window c i s))) (ap (λ (n : ℕ). n * a) (window_length c i s) ∙ sym fits))
      ∙ part_of_number off w m (number a (window c i s))

  -- the jth group of w bits starts at bit off of the ith number, and ends within c numbers; e zeros are filled up
  pub group_is : (e j : ℕ) → 0 < w → i ≤ length s → e ≤ c * a → j * w ≡ i * a + off → j * w + w ≤ length s * a + e
      → get_or (whole w (bits a s ++ replicate e 0)) j 0 ≡ number a (window c i s) / 2 ^ m % 2 ^ w
  unfolding whole
  group_is e j pos within few at ends =
      groups_at w (length full / w) j full ((le-div_iff_mul-le pos).1 (omega (arith, suc-mul j w, long)))
      ∙ ap (spelled 0) (part ∙ part_is c (omega arith))
      ∙ spelled_window
    where
      full : List ℕ
      full = bits a s ++ replicate e 0

      long : length full ≡ length s * a + e
      long = length-append (bits a s) (replicate e 0) ∙ ap₂ ◌+◌ (bits_length a s) (length-replicate e 0)

      filled : full ++ replicate (c * a - e) 0 ≡ bits a (s ++ replicate c 0)
      filled =
          append_assoc (bits a s) (replicate e 0) (replicate (c * a - e) 0)
          ∙ ap (λ (l : List ℕ). bits a s ++ l) (replicate-append-replicate e (c * a - e) 0 ∙ ap (λ (n : ℕ). replicate n 0) more ∙ sym (bits_zeros a c))
          ∙ sym (bits_append a s (replicate c 0))
        where
          more : e + (c * a - e) ≡ c * a
          more = omega arith

      part : take w (drop (j * w) full) ≡ take w (drop off (bits a (drop i (s ++ replicate c 0))))
      part =
          sym (part_append (j * w) w full (replicate (c * a - e) 0) (omega (arith, long)))
          ∙ ap (λ (l : List ℕ). take w (drop (j * w) l)) filled
          ∙ ap (λ (n : ℕ). take w (drop n (bits a (s ++ replicate c 0)))) at
          ∙ ap (take w) (sym (drop-drop off (i * a) (bits a (s ++ replicate c 0))) ∙ ap (drop off) (bits_drop a i (s ++ replicate c 0)))
