-- What a string that was written is read back as.
use Rattle.std.specs.Prelude.{◌≡◌, List, map, ℕ, length}
use Rattle.paper.specs.Charset.{lower}
use Rattle.answers.specs.Reading.{prefix_part, payload_symbols, read_verdict, accepts_parts}

-- a string read back: the same prefix in lower case, and the same symbols
pub record ReadBack (constant : ℕ) (prefix symbols t : List ℕ) : Type 0 where
  pub accepted : read_verdict constant t ≡ accepts_parts (length prefix) (length symbols)
  pub same_prefix : prefix_part t ≡ map lower prefix
  pub same_symbols : payload_symbols t ≡ symbols
