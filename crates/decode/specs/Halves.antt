-- A string taken apart, for the functions of this crate: two parts of the caller's slice.
use Rattle.std.specs.Prelude.{◌≡◌, List, ℕ, ◌+◌, length}
use Rattle.answers.specs.Order.{Rule, NoneApplies}
use Rattle.answers.specs.Reading.{prefix_part, as_parts}
use Rattle.answers.specs.declared.Parts.{Parts}
use Rattle.decode.specs.Places.{Place, further}
use Rattle.decode.specs.declared.Halves.{Halves}

abbrev pub lengths_of : Halves → Parts
lengths_of h = as_parts (length h.prefix.now) (length h.characters.now)

-- none of the rules applies; the prefix is the string's own, and the characters are this part of it, where they lie after the separator
pub record Halved (rules : List Rule) (lent : Place) (s part : List ℕ) (h : Halves) : Type 0 where
  pub accepted : NoneApplies rules
  pub prefix : h.prefix.now ≡ prefix_part s
  pub characters : h.characters.now ≡ part
  pub prefix_there : h.prefix.ref_ptr ≡ lent
  pub characters_there : h.characters.ref_ptr ≡ further lent (length (prefix_part s) + 1)
