-- The record that `split` gives for a string names the string's own parts.
use Rattle.std.specs.Prelude.{true, false, List, ◌∷◌, ◌++◌, ◌≡◌, ℕ, ◌+◌, ◌-◌, length, take, drop, Ok}
use Rattle.std.proofs.Common.{sym, ap, ◌∙◌, arith}
use lib.ListN.{length-append}
use lib.Seq.{take-append_seam, drop-append-add, take_all}
use borrow.Author.Tests.{not-false}
use Rattle.laws.specs.Lists.{any}
use Rattle.paper.specs.Charset.{is_separator}
use Rattle.numbers.specs.declared.Refusal.TheVariants.{NoSeparator}
use Rattle.answers.specs.Order.{NoneApplies}
use Rattle.answers.specs.Reading.{string_rules, data_part, prefix_part, separator_missing}
use Rattle.answers.specs.declared.Parts.{Parts}
use Rattle.answers.proofs.Orders.{accepted_only, passed}
use Rattle.answers.proofs.Split.{whole_string}
use Rattle.decode.specs.Splitting.{parts_of, split_verdict}

-- ---- a string with a separator

module _ (s : List ℕ) (present : separator_missing s ≡ false) where
  seen : any is_separator s ≡ true
  unfolding separator_missing
  seen = not-false (any is_separator s) present

  whole : s ≡ prefix_part s ++ 49 ∷ data_part s
  whole = whole_string s seen

  pub own_length : length (prefix_part s) + 1 + length (data_part s) ≡ length s
  own_length = omega (arith, ap length whole, length-append (prefix_part s) (49 ∷ data_part s))

  pub own_front : take (length (prefix_part s)) s ≡ prefix_part s
  own_front = ap (take (length (prefix_part s))) whole ∙ take-append_seam (prefix_part s) (49 ∷ data_part s)

  pub own_back : drop (length (prefix_part s) + 1) s ≡ data_part s
  own_back = ap (drop (length (prefix_part s) + 1)) whole ∙ drop-append-add (prefix_part s) (49 ∷ data_part s) 1

  pub own_rest : take (length s - (length (prefix_part s) + 1)) (drop (length (prefix_part s) + 1) s) ≡ data_part s
  own_rest = rw own_back (take_all (length s - (length (prefix_part s) + 1)) (data_part s) (omega (arith, own_length)))

-- ---- what it means that a record is given for a string

pub record OwnParts (s : List ℕ) (p : Parts) : Type 0 where
  pub rules : NoneApplies (string_rules s)
  pub parts : p ≡ parts_of s

pub split_own : (s : List ℕ) (p : Parts) → Ok p ≡ split_verdict s → OwnParts s p
unfolding split_verdict
split_own s p given =
    let known = accepted_only (parts_of s) p (string_rules s) (sym given) in
    record { rules = known.0; parts = sym known.1 }

module _ (s : List ℕ) (p : Parts) (own : OwnParts s p) where
  present : separator_missing s ≡ false
  present = passed NoSeparator (string_rules s) own.rules

  pub parts_length : p.prefix + 1 + p.symbols ≡ length s
  unfolding parts_of
  parts_length = rw own.parts (own_length s present)

  pub parts_prefix : take p.prefix s ≡ prefix_part s
  unfolding parts_of
  parts_prefix = rw own.parts (own_front s present)

  pub parts_rest : drop (p.prefix + 1) s ≡ data_part s
  unfolding parts_of
  parts_rest = rw own.parts (own_back s present)
