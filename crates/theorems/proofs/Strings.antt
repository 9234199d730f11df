-- A changed string is read in the same parts, case aside, and every rule but those of case and checksum says of it what it said of the string.
use mathlib.Core.Path.{◌≡◌, refl, sym, ap, ap₂, ◌∙◌}
use mathlib.Core.Bool.{true, false}
use mathlib.Core.List.{List, [], ◌∷◌, ◌++◌, map}
use Prim.Native.Nat.{ℕ, suc, ◌+◌, ◌≤◌}
use native.Mathlib.Omega.{arith}
use lib.Dec.{eqb}
use lib.ListN.{length, length-append, length-map}
use borrow.Author.Tests.{eqb-true, not-false, ne_eqb}
use Rattle.laws.specs.Lists.{any, all}
use Rattle.laws.proofs.Bools.{both_ways}
use Rattle.laws.proofs.Lists.{all_every, none_any}
use Rattle.numbers.specs.declared.Refusal.TheVariants.{OutsideCharset, MixedCase, NoSeparator, PrefixEmpty, PrefixLong, PrefixByte}
use Rattle.paper.specs.Charset.{is_separator, is_symbol, is_printable, symbol, lower, charset}
use Rattle.paper.specs.Checksum.{polymod, expand, residue}
use Rattle.paper.proofs.Symbols.{symbols_of_lem}
use Rattle.answers.specs.Order.{NoneApplies}
use Rattle.answers.specs.Reading.{data_part, prefix_part, character_outside, mixed_case, separator_missing, prefix_empty, prefix_long, prefix_byte_outside, longer_than, data_short, checksum_wrong, string_rules}
use Rattle.answers.proofs.Orders.{passed, ◌passes◌, none_applies}
use Rattle.answers.proofs.Split.{separator_seen, data_part_of, prefix_part_of}
use Rattle.detection.specs.Patterns.{dist, Near, Clean}
use Rattle.detection.proofs.Detection.{detects_after}
use Rattle.detection.proofs.Distance.{dist_self}
use Rattle.hrp.proofs.Case.{folded_printable}
use Rattle.theorems.specs.Changes.{Changed}

-- the separator is no symbol
separator_outside : is_symbol 49 ≡ false
unfolding is_symbol symbol charset
separator_outside = refl

symbol_no_separator : (c : ℕ) → is_symbol c ≡ true → is_separator c ≡ false
symbol_no_separator c e = ne_eqb c 49 (λ same. both_ways (ap is_symbol (sym same) ∙ e) separator_outside)

no_separator : (l : List ℕ) → all is_symbol l ≡ true → any is_separator l ≡ false
no_separator l e =
    none_any is_separator (λ c. is_symbol c ≡ true) symbol_no_separator l (all_every is_symbol (λ c. is_symbol c ≡ true) (λ c h. h) l e)

module _ {w : ℕ} {s t : List ℕ} (c : Changed w s t) where
  pub part_before : data_part s ≡ c.part
  part_before = ap data_part c.before ∙ data_part_of c.prefix c.part (no_separator c.part c.symbols)

  pub part_after : data_part t ≡ c.other
  part_after = ap data_part c.after ∙ data_part_of c.copied c.other (no_separator c.other c.still_symbols)

  pub prefix_before : prefix_part s ≡ c.prefix
  prefix_before = ap prefix_part c.before ∙ prefix_part_of c.prefix c.part (no_separator c.part c.symbols)

  pub prefix_after : prefix_part t ≡ c.copied
  prefix_after = ap prefix_part c.after ∙ prefix_part_of c.copied c.other (no_separator c.other c.still_symbols)

  folded_prefix : map lower (prefix_part t) ≡ map lower (prefix_part s)
  folded_prefix = ap (map lower) prefix_after ∙ c.same_prefix ∙ ap (map lower) (sym prefix_before)

  same_prefix_length : length (prefix_part t) ≡ length (prefix_part s)
  same_prefix_length = sym (length-map (prefix_part t) lower) ∙ ap length folded_prefix ∙ length-map (prefix_part s) lower

  same_printable : all is_printable (prefix_part t) ≡ all is_printable (prefix_part s)
  same_printable = sym (folded_printable (prefix_part t)) ∙ ap (all is_printable) folded_prefix ∙ folded_printable (prefix_part s)

  pub same_part_length : length (data_part t) ≡ length (data_part s)
  same_part_length = ap length part_after ∙ sym c.one_length ∙ ap length (sym part_before)

  copied_length : length c.copied ≡ length c.prefix
  copied_length = ap length (sym prefix_after) ∙ same_prefix_length ∙ ap length prefix_before

  pub same_length : length t ≡ length s
  same_length =
      ap length c.after ∙ length-append c.copied (49 ∷ c.other)
      ∙ ap₂ (λ (k n : ℕ). k + suc n) copied_length (sym c.one_length)
      ∙ sym (length-append c.prefix (49 ∷ c.part)) ∙ sym (ap length c.before)

  pub characters_after : character_outside t ≡ false
  unfolding character_outside
  characters_after = rw (part_after, c.still_symbols) refl

  -- the rules that both orders ask first
  pub string_rules_after : NoneApplies (string_rules s) → mixed_case t ≡ false → NoneApplies (string_rules t)
  unfolding separator_missing prefix_empty prefix_long prefix_byte_outside
  string_rules_after none one_case =
      none_applies (string_rules t)
      (OutsideCharset passes characters_after
      ∷ MixedCase passes one_case
      ∷ NoSeparator passes (rw (c.after, separator_seen c.copied c.other) refl)
      ∷ PrefixEmpty passes (rw same_prefix_length (passed PrefixEmpty (string_rules s) none))
      ∷ PrefixLong passes (rw same_prefix_length (passed PrefixLong (string_rules s) none))
      ∷ PrefixByte passes (rw same_printable (passed PrefixByte (string_rules s) none))
      ∷ [])
      tt

  pub length_after : (limit : ℕ) → longer_than limit s ≡ false → longer_than limit t ≡ false
  unfolding longer_than
  length_after limit e = rw same_length e

  pub short_after : data_short s ≡ false → data_short t ≡ false
  unfolding data_short
  short_after e = rw same_part_length e

  near : (n : ℕ) → length (data_part s) ≤ n → Near n w (map symbol c.part) (map symbol c.other)
  near n within =
      record {
        symbols = symbols_of_lem c.part c.symbols;
        others = symbols_of_lem c.other c.still_symbols;
        one_length = length-map c.part symbol ∙ c.one_length ∙ sym (length-map c.other symbol);
        within = rw (length-map c.part symbol, ← part_before) within;
        few = c.few;
      }

  -- where no pattern goes unseen, the changed string does not come to the same residue
  pub checksum_after : (constant n : ℕ) → Clean n w → length (data_part s) ≤ n → checksum_wrong constant s ≡ false → checksum_wrong constant t ≡ true
  unfolding checksum_wrong residue
  checksum_after constant n clean within right =
      rw (ne_eqb (residue (prefix_part t) (map symbol (data_part t))) constant other_residue) refl
    where
      came : polymod 1 (expand (map lower c.prefix) ++ map symbol c.part) ≡ constant
      came =
          rw (← prefix_before, ← part_before)
          (eqb-true (residue (prefix_part s) (map symbol (data_part s))) constant
          (not-false (eqb (residue (prefix_part s) (map symbol (data_part s))) constant) right))

      folded_comes : residue (prefix_part t) (map symbol (data_part t)) ≡ constant
          → polymod 1 (expand (map lower c.prefix) ++ map symbol c.other) ≡ constant
      folded_comes comes =
          ap (λ (p : List ℕ). polymod 1 (expand p ++ map symbol c.other)) (sym c.same_prefix) ∙ (rw (prefix_after, part_after) at comes)

      other_residue : residue (prefix_part t) (map symbol (data_part t)) ≡ constant → ⊥
      other_residue comes =
          let same : map symbol c.part ≡ map symbol c.other =
          detects_after 1 (expand (map lower c.prefix)) (map symbol c.part) (map symbol c.other) (near n within) clean
          (came ∙ sym (folded_comes comes)) in
          let none : dist (map symbol c.part) (map symbol c.other) ≡ 0 =
          ap (dist (map symbol c.part)) (sym same) ∙ dist_self (map symbol c.part) in
          let some : 1 ≤ dist (map symbol c.part) (map symbol c.other) = c.some in
          omega arith
