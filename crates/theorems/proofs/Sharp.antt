-- The theorems say no more than is true. Four changes go unseen at 90 symbols of the data part, and so in strings of up to 1023 characters; two go
-- unseen at 1024 symbols. Four lead from a valid address of version 0 to one of version 1, and one leads to another split where it becomes the
-- separator. Each claim that leaves out a condition is false, by two accepted strings.
use mathlib.Core.Path.{◌≡◌, refl, sym, ◌∙◌}
use mathlib.Core.List.{List, ◌∷◌, ◌++◌}
use Prim.Native.Nat.{ℕ, ◌≤◌, ◌<◌}
use native.Mathlib.Omega.{arith}
use lib.Dec.{lit<, lit≤}
use lib.ListN.{length, get_or, set}
use Rattle.std.specs.Prelude.{Err}
use Rattle.laws.specs.Text.{bytes}
use Rattle.numbers.specs.declared.Refusal.{Refusal}
use Rattle.numbers.proofs.Numbers.{err_apart}
use Rattle.paper.specs.Checksum.{bech32}
use Rattle.answers.specs.Reading.{data_part, read_verdict, address_verdict, as_parts, as_address, accepts_parts, accepts_address}
use Rattle.answers.proofs.Computing.{computing}
use Rattle.answers.proofs.Wrong.{another_split}
use Rattle.detection.specs.Patterns.{dist, Clean}
use Rattle.detection.proofs.Sharp.{not_clean_1024}
use Rattle.theorems.specs.Changes.{Changed, refusal_for, address_refusal_for}

-- ---- four changes at 90 data symbols

abbrev pub first_string : List ℕ
first_string = bytes "a1qqqqqqqqqqqqqqqqqqqqqqqqqqqqqqqqqqqqqqqqqqqqqqqqqqqqqqqqqqqqqqqqqqqqqqqqqqqqqqqqqqqq95rf02"

abbrev pub second_string : List ℕ
second_string = bytes "a18qqqqqqqqqzqqqqqqqqqqqqqqqqqqqqqqqqqqqqqqqqqqqqqqqqqqqqqqqqqqqqqqqqqqqqqqqqyqqqqqqqq95rf0t"

-- both are accepted, and the second is the first with four symbols changed
pub four_unseen_at_90 : (read_verdict bech32 first_string ≡ accepts_parts 1 84) × (read_verdict bech32 second_string ≡ accepts_parts 1 84)
    × (length (data_part first_string) ≡ 90)
unfolding computing
four_unseen_at_90 = (refl, refl, refl)

pub four_changed : Changed 4 first_string second_string
unfolding computing dist
four_changed =
    record {
      prefix = bytes "a";
      copied = bytes "a";
      part = bytes "qqqqqqqqqqqqqqqqqqqqqqqqqqqqqqqqqqqqqqqqqqqqqqqqqqqqqqqqqqqqqqqqqqqqqqqqqqqqqqqqqqqq95rf02";
      other = bytes "8qqqqqqqqqzqqqqqqqqqqqqqqqqqqqqqqqqqqqqqqqqqqqqqqqqqqqqqqqqqqqqqqqqqqqqqqqqyqqqqqqqq95rf0t";
      before = refl;
      after = refl;
      same_prefix = refl;
      symbols = refl;
      still_symbols = refl;
      one_length = refl;
      some = lit≤ tt;
      few = lit≤ tt;
    }

accepted_not_refused : (k : Refusal) → read_verdict bech32 second_string ≡ Err k → ⊥
accepted_not_refused k e = err_apart (as_parts 1 84) k (sym e ∙ four_unseen_at_90.1)

-- the theorem of 89 symbols, said of 90, is false
pub four_not_refused_at_90 :
    ((constant : ℕ) (s t : List ℕ) (m n : ℕ) → read_verdict constant s ≡ accepts_parts m n → length (data_part s) ≤ 90 → Changed 4 s t
    → read_verdict constant t ≡ Err (refusal_for t)) → ⊥
four_not_refused_at_90 claim =
    accepted_not_refused (refusal_for second_string)
    (claim bech32 first_string second_string 1 84 four_unseen_at_90.0 (omega (arith, four_unseen_at_90.2)) four_changed)

-- the theorem of three changes in up to 1023 characters, said of four, is false
pub four_not_refused_in_1023 :
    ((constant : ℕ) (s t : List ℕ) (m n : ℕ) → read_verdict constant s ≡ accepts_parts m n → Changed 4 s t
    → read_verdict constant t ≡ Err (refusal_for t)) → ⊥
four_not_refused_in_1023 claim =
    accepted_not_refused (refusal_for second_string) (claim bech32 first_string second_string 1 84 four_unseen_at_90.0 four_changed)

-- the bound of 1023 for three changes is that of two: at 1024 not even two are always found
pub two_unseen_at_1024 : ¬ (Clean 1024 2)
two_unseen_at_1024 = not_clean_1024

-- ---- from version 0 to another: BIP-173's first address, and four changes of it

abbrev pub version_0_address : List ℕ
version_0_address = bytes "bc1qw508d6qejxtdg4y5r3zarvary0c5xw7kv8f3t4"

abbrev pub version_1_address : List ℕ
version_1_address = bytes "bc1pw508s6qejrtdg4y5r3zarvary0c5xwykv8f3t4"

pub both_valid : (address_verdict version_0_address ≡ accepts_address 0 20) × (address_verdict version_1_address ≡ accepts_address 1 20)
unfolding computing
both_valid = (refl, refl)

pub version_changed : Changed 4 version_0_address version_1_address
unfolding computing dist
version_changed =
    record {
      prefix = bytes "bc";
      copied = bytes "bc";
      part = bytes "qw508d6qejxtdg4y5r3zarvary0c5xw7kv8f3t4";
      other = bytes "pw508s6qejrtdg4y5r3zarvary0c5xwykv8f3t4";
      before = refl;
      after = refl;
      same_prefix = refl;
      symbols = refl;
      still_symbols = refl;
      one_length = refl;
      some = lit≤ tt;
      few = lit≤ tt;
    }

-- the theorem of addresses without SameChecksum is false
pub four_not_refused_across_versions :
    ((s t : List ℕ) (v n : ℕ) → address_verdict s ≡ accepts_address v n → Changed 4 s t → address_verdict t ≡ Err (address_refusal_for t)) → ⊥
four_not_refused_across_versions claim =
    err_apart (as_address 1 20) (address_refusal_for version_1_address)
    (sym (claim version_0_address version_1_address 0 20 both_valid.0 version_changed) ∙ both_valid.1)

-- ---- a character that becomes the separator

-- one character of the data part of an accepted string replaced by any other: that the string is then refused is false
pub one_not_refused_at_the_separator :
    ((constant : ℕ) (prefix part : List ℕ) (i character m n : ℕ) → read_verdict constant (prefix ++ 49 ∷ part) ≡ accepts_parts m n → i < length part
    → (character ≡ get_or part i 0 → ⊥) → (m' n' : ℕ) → read_verdict constant (prefix ++ 49 ∷ set part i character) ≡ accepts_parts m' n' → ⊥) → ⊥
one_not_refused_at_the_separator claim =
    claim bech32 (bytes "a") (bytes "gfjmjpqlnz78ag") 7 49 1 8 another_split.0 (lit< tt) (λ e. omega (arith, e)) 9 0 another_split.1
