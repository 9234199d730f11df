-- From what the scans hand on to document 01's tests 1 to 6 of the string.
use Rattle.std.specs.Prelude.{Bool, true, false, not, ◌&&◌, ◌||◌, List, [], ◌∷◌, ◌++◌, ◌≡◌, ℕ, ◌-◌, length, take, drop, Option, Some, None, unwrap_or, Err}
use Rattle.std.proofs.Common.{◌+◌, ◌<◌, ◌≤◌, refl, sym, ap, ap₂, ◌∙◌, arith}
use lib.Bits.{bit_or}
use borrow.Author.Tests.{lt-ltb, le-ltb, eq-eqb, ne_eqb}
use Rattle.laws.specs.Pick.{pick}
use Rattle.laws.specs.Lists.{any, all}
use Rattle.paper.specs.Charset.{is_separator, is_upper, is_lower, is_printable}
use Rattle.numbers.specs.declared.Refusal.TheVariants.{OutsideCharset, MixedCase, NoSeparator, PrefixEmpty, PrefixLong, PrefixByte}
use Rattle.answers.specs.Order.{NoneApplies}
use Rattle.answers.specs.Reading.{data_part, prefix_part, character_outside, mixed_case, separator_missing, prefix_empty, prefix_long, prefix_byte_outside, string_rules}
use Rattle.answers.proofs.Split.{whole_string}
use Rattle.gf32.specs.Classes.{outside_in, both_cases_in, Joined}
use Rattle.gf32.proofs.ClassLaws.{joined_cases}
use Rattle.decode.specs.Splitting.{split_verdict}
use Rattle.decode.specs.Places.{Place, further}
use Rattle.decode.specs.Halves.{Halved}
use Rattle.decode.specs.Promises.{WasSplit}
use Rattle.decode.specs.Scan.{DataScanned, separator_of}
use Rattle.decode.specs.declared.scan.Tail.{Tail}
use Rattle.decode.specs.declared.Halves.{Halves}
use Rattle.decode.proofs.Own.{own_front, own_length, own_rest}
use Rattle.decode.proofs.Scanning.{no_separator}

-- without a separator there is no prefix
no_prefix : (s : List ℕ) → any is_separator s ≡ false → prefix_part s ≡ []
unfolding prefix_part
no_prefix s none = ap (λ (n : ℕ). take n s) (let e : length s - length (data_part s) - 1 ≡ 0 = omega (arith, ap length (no_separator s none)) in e)

unseen : (s : List ℕ) → separator_missing s ≡ true → any is_separator s ≡ false
unfolding separator_missing
unseen s = by_test (any is_separator s)
  where
    by_test : (seen : Bool) → not seen ≡ true → seen ≡ false
    by_test true e = cc
    by_test false e = refl

-- a test over two lists with the separator between them
any_parts : (q : ℕ → Bool) (separator : q 49 ≡ false) (p d : List ℕ) → any q p || any q d ≡ any q (p ++ 49 ∷ d)
any_parts q separator [] d = rw separator refl
any_parts q separator (c ∷ p) d = or_assoc (q c) (any q p) (any q d) ∙ ap (λ (b : Bool). q c || b) (any_parts q separator p d)
  where
    or_assoc : (x y z : Bool) → (x || y) || z ≡ x || (y || z)
    or_assoc true y z = refl
    or_assoc false y z = refl

-- a test that the separator fails passes somewhere in the string exactly if it does in one of the two parts
any_whole : (q : ℕ → Bool) → q 49 ≡ false → (s : List ℕ) → any q (prefix_part s) || any q (data_part s) ≡ any q s
any_whole q separator s = by_separator (any is_separator s) refl
  where
    by_separator : (seen : Bool) → any is_separator s ≡ seen → any q (prefix_part s) || any q (data_part s) ≡ any q s
    by_separator true seen = any_parts q separator (prefix_part s) (data_part s) ∙ ap (any q) (sym (whole_string s seen))
    by_separator false none = ap₂ (λ (p d : List ℕ). any q p || any q d) (no_prefix s none) (no_separator s none)

-- rules 1 to 3 do not apply: p is the prefix, and the separator stands at this place
pub record Separated (s p : List ℕ) (at : ℕ) : Type 0 where
  pub inside : character_outside s ≡ false
  pub one_case : mixed_case s ≡ false
  pub present : separator_missing s ≡ false
  pub prefix : p ≡ prefix_part s
  pub place : at ≡ length (prefix_part s)

-- what the separator's place says
module _ (s : List ℕ) (o : Option ℕ) (is : o ≡ separator_of s) where
  found_at : (at : ℕ) → o ≡ Some at → (separator_missing s ≡ false) × (at ≡ length (prefix_part s))
  found_at at found = by_separator (separator_missing s) refl (sym is ∙ found)
    where
      by_separator : (missing : Bool) → separator_missing s ≡ missing → pick missing None (Some (length (prefix_part s))) ≡ Some at
          → (separator_missing s ≡ false) × (at ≡ length (prefix_part s))
      by_separator true missing e = cc
      by_separator false present e = (present, cc)

  found_nowhere : o ≡ None → separator_missing s ≡ true
  found_nowhere lost = by_separator (separator_missing s) refl (sym is ∙ lost)
    where
      by_separator : (missing : Bool) → separator_missing s ≡ missing → pick missing None (Some (length (prefix_part s))) ≡ None → separator_missing s ≡ true
      by_separator true missing e = missing
      by_separator false present e = cc

  pub separator_inside : (at : ℕ) → o ≡ Some at → at + 1 ≤ length s
  separator_inside at found = let e = found_at at found in omega (arith, e.1, own_length s e.0)

  -- what stands before it
  before_it : take (unwrap_or o 0) s ≡ prefix_part s
  before_it = ap (λ (p : Option ℕ). take (unwrap_or p 0) s) is ∙ by_separator (separator_missing s) refl
    where
      by_separator : (missing : Bool) → separator_missing s ≡ missing → take (unwrap_or (pick missing None (Some (length (prefix_part s)))) 0) s ≡ prefix_part s
      by_separator true missing = sym (no_prefix s (unseen s missing))
      by_separator false present = own_front s present

pub prefix_inside : (s : List ℕ) (o : Option ℕ) → o ≡ separator_of s → unwrap_or o 0 ≤ length s
prefix_inside s None is = omega arith
prefix_inside s (Some at) is = omega (arith, separator_inside s (Some at) is at refl)

-- ---- the rules in their order, by what the code asks of the scans

module _ (s : List ℕ) (t : Tail) (scanned : DataScanned s t) where
  outside_asked : {b : Bool} → outside_in t.classes ≡ b → character_outside s ≡ b
  unfolding character_outside
  outside_asked e = sym scanned.joined.outside ∙ e

  pub outside_1 : outside_in t.classes ≡ true → WasSplit s (Err OutsideCharset)
  unfolding split_verdict
  outside_1 e = rw (outside_asked e)

  module _ (inside : outside_in t.classes ≡ false) (end : ℕ) (before : end ≡ unwrap_or t.separator 0) (classes : ℕ) (joined : Joined classes (take end s)) where
    prefix_is : take end s ≡ prefix_part s
    prefix_is = ap (λ (n : ℕ). take n s) before ∙ before_it s t.separator scanned.separator

    cases_asked : {b : Bool} → both_cases_in (bit_or classes t.classes) ≡ b → mixed_case s ≡ b
    unfolding mixed_case
    cases_asked e =
        sym
        (joined_cases classes t.classes (take end s) (data_part s) joined scanned.joined
        ∙ ap₂ (λ (x y : Bool). x && y) (one_case is_upper refl) (one_case is_lower refl))
        ∙ e
      where
        one_case : (q : ℕ → Bool) → q 49 ≡ false → any q (take end s) || any q (data_part s) ≡ any q s
        one_case q separator = ap (λ (p : List ℕ). any q p || any q (data_part s)) prefix_is ∙ any_whole q separator s

    pub mixed_2 : both_cases_in (bit_or classes t.classes) ≡ true → WasSplit s (Err MixedCase)
    unfolding split_verdict
    mixed_2 e = rw (outside_asked inside, cases_asked e)

    module _ (one : both_cases_in (bit_or classes t.classes) ≡ false) where
      pub no_separator_3 : t.separator ≡ None → WasSplit s (Err NoSeparator)
      unfolding split_verdict
      no_separator_3 e = rw (outside_asked inside, cases_asked one, found_nowhere s t.separator scanned.separator e)

      pub passed_3 : (at : ℕ) → t.separator ≡ Some at → Separated s (take end s) at
      passed_3 at found =
          let e = found_at s t.separator scanned.separator at found in
          record { inside = outside_asked inside; one_case = cases_asked one; present = e.0; prefix = prefix_is; place = e.1 }

module _ (s p : List ℕ) (at : ℕ) (past : Separated s p at) where
  pub empty_4 : length p ≡ 0 → WasSplit s (Err PrefixEmpty)
  unfolding split_verdict prefix_empty
  empty_4 e = rw (past.inside, past.one_case, past.present, ← past.prefix, eq-eqb (length p) 0 e)

  module _ (some : length p ≡ 0 → ⊥) where
    pub long_5 : 83 < length p → WasSplit s (Err PrefixLong)
    unfolding split_verdict prefix_empty prefix_long
    long_5 h = rw (past.inside, past.one_case, past.present, ← past.prefix, ne_eqb (length p) 0 some, lt-ltb 83 (length p) h)

    module _ (short : length p ≤ 83) (printable : Bool) (told : printable ≡ all is_printable p) where
      pub byte_6 : printable ≡ false → WasSplit s (Err PrefixByte)
      unfolding split_verdict prefix_empty prefix_long prefix_byte_outside
      byte_6 e = rw (past.inside, past.one_case, past.present, ← past.prefix, ne_eqb (length p) 0 some, le-ltb 83 (length p) short, ← told, e)

      none_applies : printable ≡ true → NoneApplies (string_rules s)
      unfolding prefix_empty prefix_long prefix_byte_outside
      none_applies e =
          rw (← past.prefix, ← told, e)
          (past.inside, (past.one_case, (past.present, (ne_eqb (length p) 0 some, (le-ltb 83 (length p) short, (refl, tt))))))

      pub taken_apart : printable ≡ true → (lent : Place) (h : Halves) → h.prefix.now ≡ p → h.characters.now ≡ take (length s - (at + 1)) (drop (at + 1) s)
          → h.prefix.ref_ptr ≡ lent → h.characters.ref_ptr ≡ further lent (at + 1) → Halved (string_rules s) lent s (data_part s) h
      taken_apart e lent h front rest there further_on =
          record {
            accepted = none_applies e;
            prefix = front ∙ past.prefix;
            characters = rest ∙ rw past.place (own_rest s past.present);
            prefix_there = there;
            characters_there = further_on ∙ ap (λ (n : ℕ). further lent (n + 1)) past.place;
          }
