-- Groups of w bits: how many, what each spells, and that their bits are the bits that were grouped.
-- A bit list is its whole groups' bits and what is left over, so groups and bits undo one another.
use mathlib.Core.Path.{◌≡◌, refl, sym, ap, ap₂, ◌∙◌, subst}
use mathlib.Core.List.{List, [], ◌∷◌, ◌++◌, append_assoc}
use Prim.Native.Nat.{ℕ, zero, suc, ◌+◌, ◌*◌, ◌/◌, ◌%◌, ◌^◌, ◌≤◌, ◌<◌}
use native.Mathlib.Nat.{add_comm, suc-mul, zero-mul, pow-suc, pow-succ', mod-eq_of_lt, mul-add-mod_self_right, div-mul-le_self, mod-eq-sub-div-mul, le_of_suc-le-suc, not-suc-le-zero}
use native.Mathlib.Omega.{arith}
use lib.Arith.{digits_lt, digits_div}
use lib.ListN.{length, take, drop, get_or, length-append, length-drop, take-append-drop}
use lib.Seq.{take_at, drop_at, take-add, drop-drop, length-take-le}
use Rattle.laws.specs.Lists.{Every}
use Rattle.paper.specs.Bits.{bits_of, bits, spelled, groups, whole, leftover}
use Rattle.iter.proofs.Bits.{bits_of_length, bits_length, spelled_bits_of}

-- ---- lists of bits

abbrev pub Binary : List ℕ → Type 0
Binary bs = Every (λ b. b < 2) bs

module _ (P : ℕ → Type 0) where
  pub every_append : (xs ys : List ℕ) → Every P xs → Every P ys → Every P (xs ++ ys)
  every_append [] ys p q = q
  every_append (x ∷ xs) ys p q = (p.0, every_append xs ys p.1 q)

  pub every_take : (n : ℕ) (xs : List ℕ) → Every P xs → Every P (take n xs)
  every_take zero xs p = tt
  every_take (suc n) [] p = tt
  every_take (suc n) (x ∷ xs) p = (p.0, every_take n xs p.1)

  pub every_drop : (n : ℕ) (xs : List ℕ) → Every P xs → Every P (drop n xs)
  every_drop zero xs p = p
  every_drop (suc n) [] p = tt
  every_drop (suc n) (x ∷ xs) p = every_drop n xs p.1

bits_of_binary : (w v : ℕ) → Binary (bits_of w v)
unfolding bits_of
bits_of_binary zero v = tt
bits_of_binary (suc w) v = (omega arith, bits_of_binary w v)

pub bits_binary : (w : ℕ) (vs : List ℕ) → Binary (bits w vs)
unfolding bits
bits_binary w [] = tt
bits_binary w (v ∷ vs) = every_append (λ b. b < 2) (bits_of w v) (bits w vs) (bits_of_binary w v) (bits_binary w vs)

-- what bits spell after x: x in front, and less than one more below
spelled_after : (x : ℕ) (bs : List ℕ) → spelled x bs ≡ x * 2 ^ length bs + spelled 0 bs
unfolding spelled
spelled_after x [] = omega arith
spelled_after x (b ∷ bs) = spelled_after (x * 2 + b) bs ∙ rw (spelled_after (0 * 2 + b) bs, pow-suc 2 (length bs)) (omega arith)

pub spelled_lt : (bs : List ℕ) → Binary bs → spelled 0 bs < 2 ^ length bs
unfolding spelled
spelled_lt [] p = omega arith
spelled_lt (b ∷ bs) p = rw (spelled_after (0 * 2 + b) bs, pow-succ' 2 (length bs)) (digits_lt (omega (arith, p.0)) (spelled_lt bs p.1))

-- spelled and written out again, bits are what they were
pub spelled_back : (x : ℕ) (bs : List ℕ) → Binary bs → bits_of (length bs) (spelled x bs) ≡ bs
unfolding bits_of spelled
spelled_back x [] p = refl
spelled_back x (b ∷ bs) p = ap₂ ◌∷◌ top (spelled_back (x * 2 + b) bs p.1)
  where
    top : spelled (x * 2 + b) bs / 2 ^ length bs % 2 ≡ b
    top =
        ap (λ (v : ℕ). v / 2 ^ length bs % 2) (spelled_after (x * 2 + b) bs)
        ∙ ap (λ (v : ℕ). v % 2) (digits_div (x * 2 + b) (spelled_lt bs p.1))
        ∙ mul-add-mod_self_right x 2 b
        ∙ mod-eq_of_lt p.0

-- ---- groups

module _ (w : ℕ) where
  pub groups_length : (n : ℕ) (bs : List ℕ) → length (groups w n bs) ≡ n
  unfolding groups
  groups_length zero bs = refl
  groups_length (suc n) bs = ap suc (groups_length n (drop w bs))

  pub whole_length : (bs : List ℕ) → length (whole w bs) ≡ length bs / w
  unfolding whole
  whole_length bs = groups_length (length bs / w) bs

  pub leftover_length : (bs : List ℕ) → length (leftover w bs) ≡ length bs % w
  unfolding leftover
  leftover_length bs = length-drop (length bs / w * w) bs ∙ sym (mod-eq-sub-div-mul (length bs) w)

  pub groups_at : (n j : ℕ) (bs : List ℕ) → j < n → get_or (groups w n bs) j 0 ≡ spelled 0 (take w (drop (j * w) bs))
  unfolding groups
  groups_at zero j bs h = absurd (not-suc-le-zero h)
  groups_at (suc n) zero bs h = ap (λ (k : ℕ). spelled 0 (take w (drop k bs))) (sym (zero-mul w))
  groups_at (suc n) (suc j) bs h =
      groups_at n j (drop w bs) (le_of_suc-le-suc h)
      ∙ ap (λ (l : List ℕ). spelled 0 (take w l)) (drop-drop (j * w) w bs ∙ ap (λ (k : ℕ). drop k bs) (add_comm w (j * w) ∙ sym (suc-mul j w)))

  pub groups_lt : (n : ℕ) (bs : List ℕ) → Binary bs → n * w ≤ length bs → Every (λ v. v < 2 ^ w) (groups w n bs)
  unfolding groups
  groups_lt zero bs p h = tt
  groups_lt (suc n) bs p h = (first, groups_lt n (drop w bs) (every_drop (λ b. b < 2) w bs p) (omega (arith, suc-mul n w, length-drop w bs)))
    where
      first : spelled 0 (take w bs) < 2 ^ w
      first =
          subst (λ (k : ℕ). spelled 0 (take w bs) < 2 ^ k) (length-take-le w bs (omega (arith, suc-mul n w)))
          (spelled_lt (take w bs) (every_take (λ b. b < 2) w bs p))

  -- the bits of the first n groups are the first n * w bits
  pub bits_groups : (n : ℕ) (bs : List ℕ) → Binary bs → n * w ≤ length bs → bits w (groups w n bs) ≡ take (n * w) bs
  unfolding groups bits
  bits_groups zero bs p h = rw (zero-mul w)
  bits_groups (suc n) bs p h =
      ap₂ ◌++◌ first (bits_groups n (drop w bs) (every_drop (λ b. b < 2) w bs p) (omega (arith, suc-mul n w, length-drop w bs)))
      ∙ sym (take-add w (n * w) bs)
      ∙ ap (λ (k : ℕ). take k bs) (add_comm w (n * w) ∙ sym (suc-mul n w))
    where
      full : length (take w bs) ≡ w
      full = length-take-le w bs (omega (arith, suc-mul n w))

      first : bits_of w (spelled 0 (take w bs)) ≡ take w bs
      first = ap (λ (k : ℕ). bits_of k (spelled 0 (take w bs))) (sym full) ∙ spelled_back 0 (take w bs) (every_take (λ b. b < 2) w bs p)

  -- the groups of the bits of numbers are the numbers, whatever comes after
  pub groups_bits : (vs rest : List ℕ) → Every (λ v. v < 2 ^ w) vs → groups w (length vs) (bits w vs ++ rest) ≡ vs
  unfolding groups bits
  groups_bits [] rest p = refl
  groups_bits (v ∷ vs) rest p = ap₂ ◌∷◌ first (ap (groups w (length vs)) after ∙ groups_bits vs rest p.1)
    where
      split : (bits_of w v ++ bits w vs) ++ rest ≡ bits_of w v ++ (bits w vs ++ rest)
      split = append_assoc (bits_of w v) (bits w vs) rest

      first : spelled 0 (take w ((bits_of w v ++ bits w vs) ++ rest)) ≡ v
      first =
          ap (λ (l : List ℕ). spelled 0 (take w l)) split
          ∙ ap (spelled 0) (take_at (bits_of w v) (bits w vs ++ rest) w (bits_of_length w v))
          ∙ spelled_bits_of 0 w v
          ∙ omega (arith, mod-eq_of_lt p.0)

      after : drop w ((bits_of w v ++ bits w vs) ++ rest) ≡ bits w vs ++ rest
      after = ap (drop w) split ∙ drop_at (bits_of w v) (bits w vs ++ rest) w (bits_of_length w v)

  -- ---- whole groups and what is left over

  pub whole_lt : (bs : List ℕ) → Binary bs → Every (λ v. v < 2 ^ w) (whole w bs)
  unfolding whole
  whole_lt bs p = groups_lt (length bs / w) bs p (div-mul-le_self (length bs) w)

  pub bits_whole : (bs : List ℕ) → Binary bs → bits w (whole w bs) ++ leftover w bs ≡ bs
  unfolding whole leftover
  bits_whole bs p =
      ap (λ (l : List ℕ). l ++ drop (length bs / w * w) bs) (bits_groups (length bs / w) bs p (div-mul-le_self (length bs) w))
      ∙ take-append-drop (length bs / w * w) bs

  count_whole : (vs rest : List ℕ) → length rest < w → length (bits w vs ++ rest) / w ≡ length vs
  count_whole vs rest h =
      ap (λ (n : ℕ). n / w) (length-append (bits w vs) rest ∙ ap (λ (n : ℕ). n + length rest) (bits_length w vs))
      ∙ digits_div (length vs) h

  -- the whole groups of the bits of numbers, and fewer bits than one group after them, are the numbers; those bits are left over
  pub whole_bits : (vs rest : List ℕ) → Every (λ v. v < 2 ^ w) vs → length rest < w → whole w (bits w vs ++ rest) ≡ vs
  unfolding whole
  whole_bits vs rest p h = ap (λ (n : ℕ). groups w n (bits w vs ++ rest)) (count_whole vs rest h) ∙ groups_bits vs rest p

  pub leftover_bits : (vs rest : List ℕ) → length rest < w → leftover w (bits w vs ++ rest) ≡ rest
  unfolding leftover
  leftover_bits vs rest h =
      drop_at (bits w vs) rest (length (bits w vs ++ rest) / w * w)
      (bits_length w vs ∙ ap (λ (n : ℕ). n * w) (sym (count_whole vs rest h)))
