-- Document 01, "Answers": a list written to the front of a lent buffer.
use Rattle.std.specs.Prelude.{◌≡◌, List, ℕ, ◌<◌, length, get_or, Result}
use Rattle.answers.specs.Reading.{written_into, buffer_after}
use Rattle.numbers.specs.declared.Refusal.{Refusal}

-- the answer, and the buffer before and after
pub record Wrote (content before : List ℕ) (r : Result ℕ Refusal) (after : List ℕ) : Type 0 where
  pub answer : r ≡ written_into (length before) content
  pub buffer : after ≡ buffer_after (written_into (length before) content) content before

-- what a function may return for a place of a list is what stands there
abbrev pub Gives : (ℕ → ℕ → Type 0) → List ℕ → Type 0
Gives returns list = (at r : ℕ) → at < length list → returns at r → r ≡ get_or list at 0
