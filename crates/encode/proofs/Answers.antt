-- What a writer accepts, as the promises have it: the content stands in front of the buffer.
use mathlib.Core.Path.{◌≡◌, ap, ◌∙◌}
use mathlib.Core.List.{List, ◌++◌}
use Prim.Native.Nat.{ℕ}
use lib.ListN.{drop}
use Rattle.answers.specs.Reading.{buffer_after}
use Rattle.encode.specs.Promises.{Wrote}
use Rattle.numbers.specs.declared.Refusal.{Refusal}
use Rattle.std.specs.Prelude.{Result, Ok}

module _ (verdict : Result ℕ Refusal) (content before : List ℕ) where
  pub accepted : (n : ℕ) → Ok n ≡ verdict → (front : List ℕ) → front ≡ content → Wrote verdict content before (Ok n) (front ++ drop n before)
  accepted n answer front put =
      record {
        answer = answer;
        buffer =
            ap (λ (l : List ℕ). l ++ drop n before) put
            ∙ ap (λ (v : Result ℕ Refusal). buffer_after v content before) answer;
      }
