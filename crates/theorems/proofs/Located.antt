-- The locator: which place it names exactly, that there is at most one, and that after one change it is the changed place, cases unmixed.
use mathlib.Core.Path.{◌≡◌, refl, sym, ap, ◌∙◌}
use mathlib.Core.Logic.{◌≢◌, inl, inr, ◌↔◌}
use mathlib.Core.Bool.{Bool, true, false}
use mathlib.Core.List.{List, [], ◌∷◌, ◌++◌, map}
use Prim.Native.Nat.{ℕ, zero, suc, ◌-◌, ◌≤◌, ◌<◌}
use native.Mathlib.Omega.{arith}
use lib.ListN.{length, get_or, set, length-append, length-map, length-set}
use lib.Seq.{get_or-set_same}
use borrow.Author.Tests.{ltb-true}
use Rattle.std.specs.Prelude.{Result, Ok, Err}
use Rattle.std.proofs.lemmas.List.{map-set}
use Rattle.laws.specs.Pick.{pick}
use Rattle.laws.specs.Lists.{all}
use Rattle.laws.proofs.Bools.{and_first, and_second}
use Rattle.laws.proofs.Front.{get_d_map}
use Rattle.numbers.specs.declared.Refusal.{Refusal}
use Rattle.numbers.specs.declared.Refusal.TheVariants.{MixedCase, ChecksumWrong, NoSinglePlace}
use Rattle.numbers.proofs.Numbers.{err_apart, err_injective}
use Rattle.paper.specs.Charset.{is_symbol, symbol, lower}
use Rattle.paper.specs.Checksum.{polymod, expand, residue}
use Rattle.paper.proofs.Symbols.{symbols_of_lem}
use Rattle.paper.proofs.Polymod.{polymod_append}
use Rattle.answers.specs.Reading.{data_part, prefix_part, payload, mixed_case, reading_rules, read_verdict, as_parts, accepts_parts}
use Rattle.answers.specs.Order.{is_same}
use Rattle.answers.proofs.Orders.{same_refusal, accepted_only}
use Rattle.answers.proofs.Refusals.{reading_never}
use Rattle.answers.specs.declared.Parts.{Parts}
use Rattle.detection.specs.Patterns.{dist}
use Rattle.detection.specs.Places.{Explains}
use Rattle.detection.proofs.Distance.{dist_set, dist_zero}
use Rattle.detection.proofs.Locate.{one_place, explains_change}
use Rattle.checksum.specs.Parameters.{constant_for}
use Rattle.checksum.specs.declared.Checksum.{Checksum}
use Rattle.decode.specs.Promises.{WasRead}
use Rattle.correction.specs.Locator.{explains, place_verdict, after_reading, locate_verdict}
use Rattle.correction.specs.Promises.{WasLocated}
use Rattle.correction.proofs.Verdicts.{statement_explains, place_found, place_given, place_missing}
use Rattle.theorems.specs.Changes.{Changed, ChangedAt}
use Rattle.theorems.specs.Named.{Named, Unplaced}
use Rattle.theorems.proofs.Strings.{part_before, part_after, prefix_after, prefix_before}
use Rattle.theorems.proofs.Detection.{three_changes_refused, residue_right, length_right}

module _ (constant : ℕ) (s : List ℕ) (p : ℕ) where
  place : Result ℕ Refusal
  place = place_verdict constant (residue (prefix_part s) (map symbol (data_part s)))

  -- how the three are found from the verdict, by what reading says
  by_refusal : (r : Refusal) (b : Bool) → is_same r ChecksumWrong ≡ b → read_verdict constant s ≡ Err r → pick b place (Err r) ≡ Ok p
      → Named constant s p
  unfolding place
  by_refusal r true wrong e named =
      let found = place_given constant (residue (prefix_part s) (map symbol (data_part s))) p named in
      (e ∙ ap Err (same_refusal r ChecksumWrong wrong), found.0, found.1)
  by_refusal r false other e named = absurd cc

  by_reading : (r : Result Parts Refusal) → read_verdict constant s ≡ r → after_reading r place ≡ Ok p → Named constant s p
  by_reading (Ok parts) e named = absurd cc
  by_reading (Err r) e named = by_refusal r (is_same r ChecksumWrong) refl e named

  is_named : locate_verdict constant s ≡ Ok p → Named constant s p
  unfolding locate_verdict place
  is_named e = by_reading (read_verdict constant s) refl e

  named_is : Named constant s p → locate_verdict constant s ≡ Ok p
  unfolding locate_verdict
  named_is x =
      rw x.0
      (place_found constant (residue (prefix_part s) (map symbol (data_part s))) p x.1
      (statement_explains constant (residue (prefix_part s) (map symbol (data_part s))) p x.2))

  -- Document 01's locator names exactly such a place.
  pub locates_exactly : (locate_verdict constant s ≡ Ok p) ↔ Named constant s p
  locates_exactly = (is_named, named_is)

-- There is at most one.
pub named_once : (constant : ℕ) (s : List ℕ) (p q : ℕ) → Named constant s p → Named constant s q → p ≡ q
named_once constant s p q x y = one_place (residue (prefix_part s) (map symbol (data_part s))) constant p q x.1 y.1 x.2 y.2

-- ---- 21

module _ (constant : ℕ) (s : List ℕ) where
  -- a residue for which no place is named
  none_explains : (r : ℕ) → place_verdict constant r ≡ Err NoSinglePlace → (p : ℕ) → p < 1023 → Explains r constant p → ⊥
  none_explains r e p h x =
      err_apart p NoSinglePlace (sym e ∙ place_found constant r p h (statement_explains constant r p x))

  from_refusal : (r : Refusal) (b : Bool) → is_same r ChecksumWrong ≡ b → read_verdict constant s ≡ Err r
      → pick b (place_verdict constant (residue (prefix_part s) (map symbol (data_part s)))) (Err r) ≡ Err NoSinglePlace → Unplaced constant s
  from_refusal r true wrong e none =
      inr (e ∙ ap Err (same_refusal r ChecksumWrong wrong), none_explains (residue (prefix_part s) (map symbol (data_part s))) none)
  from_refusal r false other e none =
      absurd (reading_never constant s NoSinglePlace tt (e ∙ ap Err (err_injective r NoSinglePlace none)))

  -- what is accepted is the string's parts
  from_parts : (parts : Parts) → read_verdict constant s ≡ Ok parts → read_verdict constant s ≡ accepts_parts (length (prefix_part s)) (length (payload s))
  unfolding read_verdict
  from_parts parts e =
      e ∙ ap Ok (sym (accepted_only (as_parts (length (prefix_part s)) (length (payload s))) parts (reading_rules constant s) e).1)

  from_reading : (r : Result Parts Refusal) → read_verdict constant s ≡ r
      → after_reading r (place_verdict constant (residue (prefix_part s) (map symbol (data_part s)))) ≡ Err NoSinglePlace → Unplaced constant s
  from_reading (Ok parts) e none = inl (from_parts parts e)
  from_reading (Err r) e none = from_refusal r (is_same r ChecksumWrong) refl e none

  is_unplaced : locate_verdict constant s ≡ Err NoSinglePlace → Unplaced constant s
  unfolding locate_verdict
  is_unplaced e = from_reading (read_verdict constant s) refl e

  unplaced_is : Unplaced constant s → locate_verdict constant s ≡ Err NoSinglePlace
  unfolding locate_verdict
  unplaced_is (inl e) = rw e refl
  unplaced_is (inr x) = rw x.0 (place_missing constant (residue (prefix_part s) (map symbol (data_part s))) x.1)

  -- Document 01's locator gives NoSinglePlace exactly for such a string.
  pub locates_21 : (locate_verdict constant s ≡ Err NoSinglePlace) ↔ Unplaced constant s
  locates_21 = (is_unplaced, unplaced_is)

-- ---- one change

all_set : (q : ℕ → Bool) (l : List ℕ) (i y : ℕ) → all q l ≡ true → q y ≡ true → all q (set l i y) ≡ true
all_set q [] i y e h = refl
all_set q (x ∷ l) zero y e h = rw h (and_second (q x) (all q l) e)
all_set q (x ∷ l) (suc i) y e h = rw (and_first (q x) (all q l) e) (all_set q l i y (and_second (q x) (all q l) e) h)

module _ {p : ℕ} {s t : List ℕ} (c : ChangedAt p s t) where
  others : List ℕ
  others = set (map symbol c.part) c.index (symbol c.character)

  inside : c.index < length (map symbol c.part)
  inside = rw (length-map c.part symbol) c.inside

  symbol_below : symbol c.character < 32
  unfolding is_symbol
  symbol_below = ltb-true (symbol c.character) 32 c.still_symbol

  other_symbol : symbol c.character ≢ get_or (map symbol c.part) c.index 0
  other_symbol e = c.other (e ∙ get_d_map 0 symbol c.part c.index c.inside)

  differs : (n : ℕ) → dist (map symbol c.part) others ≡ n → 1 ≤ n
  unfolding others
  differs zero e =
      absurd (other_symbol (sym (get_or-set_same (map symbol c.part) c.index (symbol c.character) 0 inside)
      ∙ ap (λ (l : List ℕ). get_or l c.index 0) (sym (dist_zero (map symbol c.part) others e))))
  differs (suc n) e = omega arith

  -- as one of up to three changes
  pub changed : Changed 3 s t
  unfolding others
  changed =
      record {
        prefix = c.prefix;
        copied = c.prefix;
        part = c.part;
        other = set c.part c.index c.character;
        before = c.before;
        after = c.after;
        same_prefix = refl;
        symbols = c.symbols;
        still_symbols = all_set is_symbol c.part c.index c.character c.symbols c.still_symbol;
        one_length = sym (length-set c.part c.index c.character);
        some = rw (map-set symbol c.part c.index c.character) (differs (dist (map symbol c.part) others) refl);
        few = rw (map-set symbol c.part c.index c.character)
            (let one : dist (map symbol c.part) (set (map symbol c.part) c.index (symbol c.character)) ≤ 1 =
            dist_set (map symbol c.part) c.index (symbol c.character) in omega arith);
      }

  residue_after : residue (prefix_part t) (map symbol (data_part t)) ≡ polymod (polymod 1 (expand (map lower c.prefix))) others
  unfolding residue others changed
  residue_after =
      rw (prefix_after changed, part_after changed, map-set symbol c.part c.index c.character)
      (polymod_append 1 (expand (map lower c.prefix)) (set (map symbol c.part) c.index (symbol c.character)))

  residue_before : residue (prefix_part s) (map symbol (data_part s)) ≡ polymod (polymod 1 (expand (map lower c.prefix))) (map symbol c.part)
  unfolding residue changed
  residue_before =
      rw (prefix_before changed, part_before changed) (polymod_append 1 (expand (map lower c.prefix)) (map symbol c.part))

  explained : (constant : ℕ) → residue (prefix_part s) (map symbol (data_part s)) ≡ constant
      → explains constant (residue (prefix_part t) (map symbol (data_part t))) p ≡ true
  unfolding others
  explained constant came =
      statement_explains constant (residue (prefix_part t) (map symbol (data_part t))) p
      (rw (residue_after, ← came, residue_before, c.place, ← length-map c.part symbol)
      (explains_change (polymod 1 (expand (map lower c.prefix))) (map symbol c.part) c.index (symbol c.character)
      (symbols_of_lem c.part c.symbols) inside symbol_below other_symbol))

  -- After one change of an accepted string the locator names the changed place; where the change mixed the cases it says 2, as reading does.
  pub locates_the_change : (constant m n : ℕ) → read_verdict constant s ≡ accepts_parts m n
      → locate_verdict constant t ≡ pick (mixed_case t) (Err MixedCase) (Ok p)
  unfolding locate_verdict
  locates_the_change constant m n e = rw (three_changes_refused constant s t m n e changed) (by_case (mixed_case t))
    where
      came : residue (prefix_part s) (map symbol (data_part s)) ≡ constant
      came = residue_right constant s m n e

      low : p < 1023
      low =
          let long : length s ≤ 1023 = length_right constant s m n e in
          let whole : length s ≡ length (c.prefix ++ 49 ∷ c.part) = ap length c.before in
          let place : p ≡ length c.part - suc c.index = c.place in
          omega (arith, length-append c.prefix (49 ∷ c.part))

      by_case : (mixed : Bool)
          → after_reading (Err (pick mixed MixedCase ChecksumWrong)) (place_verdict constant (residue (prefix_part t) (map symbol (data_part t))))
          ≡ pick mixed (Err MixedCase) (Ok p)
      by_case true = refl
      by_case false = place_found constant (residue (prefix_part t) (map symbol (data_part t))) p low (explained constant came)

  -- So does correction::locate.
  pub locate_names_the_change : (checksum : Checksum) (m n : ℕ) (r : Result Parts Refusal) (r' : Result ℕ Refusal)
      → WasRead checksum s r → r ≡ accepts_parts m n → WasLocated checksum t r' → r' ≡ pick (mixed_case t) (Err MixedCase) (Ok p)
  locate_names_the_change checksum m n r r' kept accepted kept' =
      kept' ∙ locates_the_change (constant_for checksum) m n (sym kept ∙ accepted)
