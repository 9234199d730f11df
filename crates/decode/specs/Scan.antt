-- What the loop over a string's characters hands on.
use Rattle.std.specs.Prelude.{◌≡◌, List, ℕ, Option, Some, None, length}
use Rattle.laws.specs.Pick.{pick}
use Rattle.answers.specs.Reading.{data_part, prefix_part, separator_missing}
use Rattle.gf32.specs.Classes.{Joined}
use Rattle.decode.specs.declared.scan.Tail.{Tail}

-- where the last separator stands
abbrev pub separator_of : List ℕ → Option ℕ
separator_of s = pick (separator_missing s) None (Some (length (prefix_part s)))

-- the separator, and gf32's class of each character of the data part, joined into one byte
pub record DataScanned (s : List ℕ) (r : Tail) : Type 0 where
  pub separator : r.separator ≡ separator_of s
  pub joined : Joined r.classes (data_part s)
