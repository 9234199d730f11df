-- A list laid into a buffer after the place of the separator, and what `finish` then makes of it.
use mathlib.Core.Path.{◌≡◌, sym, ap, ap₂, ◌∙◌, subst}
use mathlib.Core.List.{List, ◌∷◌, ◌++◌}
use Prim.Native.Nat.{ℕ, suc, ◌+◌, ◌-◌, ◌≤◌, ◌<◌}
use native.Mathlib.Numerals.{add-one}
use native.Mathlib.Omega.{arith}
use borrow.Author.Tests.{le-ltb}
use borrow.Rule.Slice.PartMut.{put_mid}
use lib.ListN.{length, take, drop, set, length-append, length-drop, length-set}
use lib.Seq.{take_at, drop_at, drop-drop, length-take-le, take-suc-set, drop-set-lt, append_snoc}
use Rattle.laws.specs.Lists.{Every}
use Rattle.laws.proofs.Parts.{rest}
use Rattle.paper.specs.Bits.{to_symbols}
use Rattle.answers.specs.Reading.{room_small, written_into}
use Rattle.answers.specs.Writing.{written_string, written_address}
use Rattle.checksum.specs.Parameters.{constant_for, checksum_for}
use Rattle.checksum.specs.declared.Checksum.{Checksum}
use Rattle.checksum.proofs.Constants.{constant_of_version}
use Rattle.iter.specs.Writing.{Wrote}
use Rattle.iter.proofs.Lengths.{symbols_below}
use Rattle.encode.proofs.Filling.{tail_put}
use Rattle.numbers.specs.declared.Refusal.{Refusal}
use Rattle.std.specs.Prelude.{Result, Ok}
use Rattle.numbers.proofs.Numbers.{ok_injective}

-- a list written into a buffer at a place
abbrev pub laid_at : ℕ → List ℕ → List ℕ → List ℕ
laid_at start content d = take start d ++ (content ++ drop (start + length content) d)

-- as a copy leaves it
pub laid_copied : (start : ℕ) (content d part : List ℕ) → part ≡ content
    → put_mid start (start + length content - start) d part ≡ laid_at start content d
laid_copied start content d part e =
    ap₂ (λ (a b : List ℕ). take start d ++ (a ++ b)) e (drop-drop (start + length content - start) start d ∙ ap (λ (k : ℕ). drop k d) end)
  where
    end : start + (start + length content - start) ≡ start + length content
    end = omega arith

-- by regrouping, which has room enough there
pub laid_regrouped : (start : ℕ) (content d : List ℕ) (r : Result ℕ Refusal) (tail : List ℕ) → start + length content ≤ length d
    → Wrote content (take (length d - start) (drop start d)) r tail → put_mid start (length d - start) d tail ≡ laid_at start content d
unfolding written_into room_small
laid_regrouped start content d r tail h w =
    tail_put start d tail
    ∙ ap (λ (l : List ℕ). take start d ++ l)
    (w.buffer ∙ rw (le-ltb (length (take (length d - start) (drop start d))) (length content) enough)
    (ap (λ (l : List ℕ). content ++ l) (ap (drop (length content)) (rest d start) ∙ drop-drop (length content) start d)))
  where
    enough : length content ≤ length (take (length d - start) (drop start d))
    enough = omega (arith, ap length (rest d start), length-drop start d)

-- and it answers how many it wrote
pub regrouped_ok : (start : ℕ) (content d : List ℕ) (r : Result ℕ Refusal) (tail : List ℕ) → start + length content ≤ length d
    → Wrote content (take (length d - start) (drop start d)) r tail → r ≡ Ok (length content)
unfolding written_into room_small
regrouped_ok start content d r tail h w =
    w.answer ∙ rw (le-ltb (length (take (length d - start) (drop start d))) (length content) (omega (arith, ap length (rest d start), length-drop start d)))

pub regrouped_count : (start : ℕ) (content d : List ℕ) (r : Result ℕ Refusal) (tail : List ℕ) → start + length content ≤ length d
    → Wrote content (take (length d - start) (drop start d)) r tail → (n : ℕ) → r ≡ Ok n → n ≡ length content
regrouped_count start content d r tail h w n e = ok_injective n (length content) (sym e ∙ regrouped_ok start content d r tail h w)

-- a value in front of it, stored before
pub laid_after_store : (start v : ℕ) (content d : List ℕ) → start < length d
    → laid_at (start + 1) content (set d start v) ≡ laid_at start (v ∷ content) d
laid_after_store start v content d h =
    ap₂ (λ (a b : List ℕ). a ++ (content ++ b))
    (ap (λ (k : ℕ). take k (set d start v)) (add-one start) ∙ take-suc-set d start v h)
    (drop-set-lt (start + 1 + length content) d start v (omega arith) ∙ ap (λ (k : ℕ). drop k d) places)
    ∙ append_snoc (take start d) v (content ++ drop (start + suc (length content)) d)
  where
    places : start + 1 + length content ≡ start + suc (length content)
    places = omega arith

-- ---- the string that `finish` makes of symbols that were laid

module _ (prefix content d : List ℕ) (count : ℕ) (all : count ≡ length content) (exact : length d ≡ length prefix + 7 + length content)
    (out : List ℕ) (laid : out ≡ laid_at (length prefix + 1) content d) where
  before_length : length (take (length prefix + 1) d) ≡ length prefix + 1
  before_length = length-take-le (length prefix + 1) d (omega arith)

  laid_length : length out ≡ length d
  laid_length =
      omega (
        arith,
        ap length laid,
        before_length,
        length-append (take (length prefix + 1) d) (content ++ drop (length prefix + 1 + length content) d),
        length-append content (drop (length prefix + 1 + length content) d),
        length-drop (length prefix + 1 + length content) d,
      )

  laid_content : take count (drop (length prefix + 1) out) ≡ content
  laid_content =
      ap (λ (l : List ℕ). take count (drop (length prefix + 1) l)) laid
      ∙ ap (take count) (drop_at (take (length prefix + 1) d) (content ++ drop (length prefix + 1 + length content) d) (length prefix + 1) before_length)
      ∙ take_at content (drop (length prefix + 1 + length content) d) count (sym all)

  pub laid_ready : Every (λ v. v < 32) content
      → (length out ≡ length prefix + 7 + count) × Every (λ v. v < 32) (take count (drop (length prefix + 1) out))
  laid_ready small = (omega (arith, all, laid_length), subst (Every (λ v. v < 32)) (sym laid_content) small)

  pub laid_finished : (constant : ℕ) (after : List ℕ)
      → after ≡ written_string constant prefix (take count (drop (length prefix + 1) out)) → after ≡ written_string constant prefix content
  laid_finished constant after e = e ∙ ap (written_string constant prefix) laid_content

-- ---- an address: the version is stored, and the program's symbols are laid behind it

module _ (prefix : List ℕ) (version : ℕ) (program d : List ℕ)
    (exact : length d ≡ length prefix + 7 + (1 + length (to_symbols program))) (r : Result ℕ Refusal) (tail : List ℕ)
    (w : Wrote (to_symbols program)
    (take (length (set d (length prefix + 1) version) - (length prefix + 1 + 1)) (drop (length prefix + 1 + 1) (set d (length prefix + 1) version))) r tail)
  where
    abbrev stored : List ℕ
    stored = set d (length prefix + 1) version

    abbrev out : List ℕ
    out = put_mid (length prefix + 1 + 1) (length stored - (length prefix + 1 + 1)) stored tail

    abbrev content : List ℕ
    content = version ∷ to_symbols program

    fits : length prefix + 1 + 1 + length (to_symbols program) ≤ length stored
    fits = omega (arith, length-set d (length prefix + 1) version)

    address_laid : out ≡ laid_at (length prefix + 1) content d
    address_laid =
        laid_regrouped (length prefix + 1 + 1) (to_symbols program) stored r tail fits w
        ∙ laid_after_store (length prefix + 1) version (to_symbols program) d (omega arith)

    pub address_counted : r ≡ Ok (length (to_symbols program))
    address_counted = regrouped_ok (length prefix + 1 + 1) (to_symbols program) stored r tail fits w

    module _ (n : ℕ) (given : r ≡ Ok n) where
      counted : 1 + n ≡ length content
      counted = let e : n ≡ length (to_symbols program) = ok_injective n _ (sym given ∙ address_counted) in omega (arith, e)

      pub address_ready : version < 32 → (length out ≡ length prefix + 7 + (1 + n)) × Every (λ v. v < 32) (take (1 + n) (drop (length prefix + 1) out))
      address_ready small = laid_ready prefix content d (1 + n) counted (omega arith) out address_laid (small, symbols_below program)

      pub address_finished : (code : Checksum) → code ≡ checksum_for version → (after : List ℕ)
          → after ≡ written_string (constant_for code) prefix (take (1 + n) (drop (length prefix + 1) out)) → after ≡ written_address prefix version program
      unfolding written_address
      address_finished code c after e =
          laid_finished prefix content d (1 + n) counted (omega arith) out address_laid (constant_for code) after e
          ∙ ap (λ (k : ℕ). written_string k prefix content) (ap constant_for c ∙ constant_of_version version)
