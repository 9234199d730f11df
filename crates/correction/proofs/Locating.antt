-- The locator's verdict by what reading says: its refusals but that of the checksum, and the place where it gives that one.
use mathlib.Core.Path.{◌≡◌, sym, ap, ap₂, ◌∙◌}
use mathlib.Core.Logic.{◌≢◌}
use mathlib.Core.List.{List, map}
use Prim.Native.Nat.{ℕ, ◌+◌, ◌^◌, ◌<◌}
use native.Mathlib.Omega.{arith}
use lib.ListN.{length, take, drop}
use borrow.Author.Tests.{ne_eqb, not-false}
use Rattle.std.specs.Prelude.{Result, Ok, Err}
use Rattle.numbers.specs.Numbers.{number_of}
use Rattle.numbers.specs.declared.Refusal.{Refusal}
use Rattle.numbers.specs.declared.Refusal.TheVariants.{OutsideCharset, ChecksumWrong, NoSinglePlace}
use Rattle.numbers.proofs.Numbers.{number_injective}
use Rattle.laws.specs.Lists.{all}
use Rattle.paper.specs.Charset.{is_symbol, symbol}
use Rattle.paper.specs.Checksum.{residue}
use Rattle.paper.proofs.Symbols.{symbols_of_lem}
use Rattle.paper.proofs.Polymod.{residue_lt}
use Rattle.answers.specs.declared.Parts.{Parts}
use Rattle.answers.specs.Reading.{string_rules, character_outside, data_part, prefix_part, read_verdict}
use Rattle.answers.proofs.Orders.{passed, nowhere}
use Rattle.decode.specs.Splitting.{parts_of, split_verdict}
use Rattle.decode.proofs.Own.{OwnParts, split_own, parts_length, parts_prefix, parts_rest}
use Rattle.decode.proofs.Generic.{read_split_refused}
use Rattle.correction.specs.Locator.{place_verdict, after_reading, locate_verdict}

module _ (constant : ℕ) (s : List ℕ) where
  place : Result ℕ Refusal
  place = place_verdict constant (residue (prefix_part s) (map symbol (data_part s)))

  after : {r : Result Parts Refusal} → r ≡ read_verdict constant s → after_reading r place ≡ locate_verdict constant s
  unfolding locate_verdict place
  after e = ap (λ (r : Result Parts Refusal). after_reading r place) e

  -- taking apart never refuses for the checksum
  not_for_checksum : (n : Refusal) → Err n ≡ split_verdict s → n ≢ ChecksumWrong
  unfolding split_verdict
  not_for_checksum n e same = nowhere (parts_of s) ChecksumWrong (string_rules s) tt (sym e ∙ ap Err same)

  pub accepted_unplaced : (parts : Parts) → Ok parts ≡ read_verdict constant s → Err NoSinglePlace ≡ locate_verdict constant s
  accepted_unplaced parts e = after e

  pub keeps : (n : Refusal) → n ≢ ChecksumWrong → Err n ≡ read_verdict constant s → Err n ≡ locate_verdict constant s
  keeps n other e = rw (ne_eqb (number_of n) 9 (λ same. other (number_injective n ChecksumWrong same))) at (after e)

  pub split_keeps : (n : Refusal) → Err n ≡ split_verdict s → Err n ≡ locate_verdict constant s
  split_keeps n e = keeps n (not_for_checksum n e) (read_split_refused constant s n e)

  pub nine_placed : (r : ℕ) → Err ChecksumWrong ≡ read_verdict constant s → r ≡ residue (prefix_part s) (map symbol (data_part s))
      → place_verdict constant r ≡ locate_verdict constant s
  unfolding place
  nine_placed r e came = ap (place_verdict constant) came ∙ after e

-- ---- a string that was taken apart

module _ (s : List ℕ) (p : Parts) (split : Ok p ≡ split_verdict s) where
  own : OwnParts s p
  own = split_own s p split

  pub prefix_inside : p.prefix < length s
  prefix_inside = omega (arith, parts_length s p own)

  pub residue_is : residue (take p.prefix s) (map symbol (drop (p.prefix + 1) s)) ≡ residue (prefix_part s) (map symbol (data_part s))
  residue_is = ap₂ (λ (a b : List ℕ). residue a (map symbol b)) (parts_prefix s p own) (parts_rest s p own)

  pub residue_small : residue (prefix_part s) (map symbol (data_part s)) < 2 ^ 30
  unfolding character_outside
  residue_small =
      residue_lt (prefix_part s) (map symbol (data_part s))
      (symbols_of_lem (data_part s) (not-false (all is_symbol (data_part s)) (passed OutsideCharset (string_rules s) own.rules)))
