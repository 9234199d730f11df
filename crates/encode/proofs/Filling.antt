-- What the functions that fill a buffer come to, as lists: a part of the buffer put back, the data part, the whole string.
use mathlib.Core.Path.{◌≡◌, refl, ap, ap₂, ◌∙◌}
use mathlib.Core.List.{List, [], ◌∷◌, ◌++◌, map, append-nil}
use Prim.Native.Nat.{ℕ, ◌+◌, ◌-◌, ◌≤◌, ◌<◌}
use native.Mathlib.Nat.{mod-eq_of_lt}
use native.Mathlib.Numerals.{add-one}
use native.Mathlib.Omega.{arith}
use borrow.Author.Tests.{le-ltb}
use borrow.Rule.Slice.PartMut.{put_mid}
use lib.ListN.{length, take, drop, set, get_or, drop_of_length-le, length-append, length-drop, length-map}
use lib.Seq.{drop_at, take-suc, append_snoc, length-take-le, set_at}
use Rattle.laws.specs.Lists.{Every}
use Rattle.laws.proofs.Parts.{rest}
use Rattle.paper.specs.Charset.{lower, letter}
use Rattle.paper.specs.Checksum.{six_symbols, checksum}
use Rattle.answers.specs.Reading.{room_small, written_into}
use Rattle.answers.specs.Writing.{written_string}
use Rattle.gf32.specs.Bytes.{character}
use Rattle.iter.proofs.Groups.{every_append}
use Rattle.hrp.specs.Promises.{Folded}
use Rattle.encode.proofs.Lengths.{written_length, check_small}
use Rattle.numbers.specs.declared.Refusal.{Refusal}
use Rattle.std.specs.Prelude.{Result, Ok, is_ok, true}

-- a part that reaches to the end, put back
pub tail_put : (a : ℕ) (d tail : List ℕ) → put_mid a (length d - a) d tail ≡ take a d ++ tail
tail_put a d tail =
    ap (λ (l : List ℕ). take a d ++ (tail ++ l)) (drop_of_length-le (drop a d) {i = length d - a} (omega (arith, length-drop a d)))
    ∙ ap (λ (l : List ℕ). take a d ++ l) (append-nil tail)

-- ---- the data part: the checksum after its symbols, then all of them as letters

pub data_written : (residue count : ℕ) (d place letters : List ℕ) → place ≡ six_symbols residue
    → letters ≡ map character (put_mid count (length d - count) d place) → letters ≡ map character (take count d ++ six_symbols residue)
data_written residue count d place letters put e =
    e ∙ ap (map character) (tail_put count d place ∙ ap (λ (six : List ℕ). take count d ++ six) put)

-- ---- the whole string

-- a symbol's character is its letter
pub characters_letters : (s : List ℕ) → Every (λ v. v < 32) s → map character s ≡ map letter s
unfolding character
characters_letters [] p = refl
characters_letters (v ∷ s) p = ap₂ ◌∷◌ (ap letter (mod-eq_of_lt p.0)) (characters_letters s p.1)

-- the prefix in lower case where there is room for it
pub folded_front : (prefix before : List ℕ) (r : Result ℕ Refusal) (after : List ℕ) → length prefix ≤ length before → Folded prefix before r after
    → after ≡ map lower prefix ++ drop (length prefix) before
unfolding written_into room_small
folded_front prefix before r after h f =
    f.buffer ∙ rw (length-map prefix lower, le-ltb (length before) (length prefix) h)

pub folded_ok : (prefix before : List ℕ) (r : Result ℕ Refusal) (after : List ℕ) → length prefix ≤ length before → Folded prefix before r after
    → r ≡ Ok (length prefix)
unfolding written_into room_small
folded_ok prefix before r after h f = f.answer ∙ rw (length-map prefix lower, le-ltb (length before) (length prefix) h)

module _ (constant : ℕ) (prefix : List ℕ) (count : ℕ) (d : List ℕ) (exact : length d ≡ length prefix + 7 + count)
    (small : Every (λ v. v < 32) (take count (drop (length prefix + 1) d))) (residue n : ℕ) (all : n ≡ count)
    (check : six_symbols residue ≡ checksum constant prefix (take n (drop (length prefix + 1) d))) (part : List ℕ)
    (put : part
    ≡ map character (take count (take (length d - (length prefix + 1)) (drop (length prefix + 1) d)) ++ six_symbols residue))
  where
    abbrev symbols : List ℕ
    symbols = take count (drop (length prefix + 1) d)

    as_letters : part ≡ map letter (symbols ++ checksum constant prefix symbols)
    as_letters =
        put
        ∙ ap₂ (λ (l six : List ℕ). map character (take count l ++ six)) (rest d (length prefix + 1))
        (check ∙ ap (λ (k : ℕ). checksum constant prefix (take k (drop (length prefix + 1) d))) all)
        ∙ characters_letters (symbols ++ checksum constant prefix symbols)
        (every_append (λ v. v < 32) symbols (checksum constant prefix symbols) small (check_small constant prefix symbols))

    separated : set (put_mid (length prefix + 1) (length d - (length prefix + 1)) d part) (length prefix) 49 ≡ take (length prefix) d ++ 49 ∷ part
    separated =
        ap (λ (l : List ℕ). set l (length prefix) 49)
        (tail_put (length prefix + 1) d part
        ∙ ap (λ (k : ℕ). take k d ++ part) (add-one (length prefix))
        ∙ ap (λ (l : List ℕ). l ++ part) (take-suc d (length prefix) 0 (omega arith))
        ∙ append_snoc (take (length prefix) d) (get_or d (length prefix) 0) part)
        ∙ set_at (take (length prefix) d) (get_or d (length prefix) 0) part 49 (length prefix) (length-take-le (length prefix) d (omega arith))

    enough : length prefix ≤ length (set (put_mid (length prefix + 1) (length d - (length prefix + 1)) d part) (length prefix) 49)
    enough = omega (arith, ap length separated, length-append (take (length prefix) d) (49 ∷ part), length-take-le (length prefix) d (omega arith))

    module _ (r : Result ℕ Refusal) (out : List ℕ)
        (f : Folded prefix (set (put_mid (length prefix + 1) (length d - (length prefix + 1)) d part) (length prefix) 49) r out) where
      pub prefix_put : is_ok r ≡ true
      prefix_put = ap is_ok (folded_ok prefix _ r out enough f)

      pub string_written : out ≡ written_string constant prefix symbols
      unfolding written_string
      string_written =
          folded_front prefix _ r out enough f
          ∙ ap (λ (l : List ℕ). map lower prefix ++ l)
          (ap (drop (length prefix)) separated
          ∙ drop_at (take (length prefix) d) (49 ∷ part) (length prefix) (length-take-le (length prefix) d (omega arith))
          ∙ ap (λ (l : List ℕ). 49 ∷ l) as_letters)

-- nothing is lost or added
pub length_kept : (constant : ℕ) (prefix symbols d out : List ℕ) (count : ℕ) → length symbols ≡ count → length d ≡ length prefix + 7 + count
    → out ≡ written_string constant prefix symbols → length out ≡ length d
length_kept constant prefix symbols d out count all exact e = omega (arith, ap length e, written_length constant prefix symbols)
