-- The class of a byte: all that a loop over characters asks of it, in one number. Which bit says what is known to this crate alone: others
-- take the table, join classes by `|`, and ask by the functions of src/lib.rt.
use Rattle.std.specs.Prelude.{◌≡◌, Bool, not, ◌&&◌, List, ℕ, ◌+◌, ◌*◌, ◌/◌, ◌%◌, eqb}
use Rattle.laws.specs.Pick.{pick}
use Rattle.laws.specs.Lists.{any, all}
use Rattle.paper.specs.Charset.{symbol, is_symbol, is_upper, is_lower}

-- a byte's symbol, or 128 where it has none; and 32 more for an upper-case, 64 more for a lower-case letter
unfoldable pub class_of : ℕ → ℕ
class_of c = pick (is_symbol c) (symbol c) 128 + pick (is_upper c) 32 0 + pick (is_lower c) 64 0

-- ---- what a class tells

-- the symbol: its low five bits, and 32, which is no symbol, for a byte outside the charset
unfoldable pub symbol_in : ℕ → ℕ
symbol_in class = class % 32 + class / 128 * 32

-- ---- what classes tell that are joined bit by bit

unfoldable pub outside_in : ℕ → Bool
outside_in classes = eqb (classes / 128 % 2) 1

unfoldable pub upper_in : ℕ → Bool
upper_in classes = eqb (classes / 32 % 2) 1

unfoldable pub lower_in : ℕ → Bool
lower_in classes = eqb (classes / 64 % 2) 1

unfoldable pub both_cases_in : ℕ → Bool
both_cases_in classes = upper_in classes && lower_in classes

-- these are the classes of the characters, joined: each question has the answer that the paper's tests of the characters have
pub record Joined (classes : ℕ) (characters : List ℕ) : Type 0 where
  pub outside : outside_in classes ≡ not (all is_symbol characters)
  pub upper : upper_in classes ≡ any is_upper characters
  pub lower : lower_in classes ≡ any is_lower characters
