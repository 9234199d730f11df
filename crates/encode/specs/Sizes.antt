-- Document 01, "Generic writing" and "Segwit writing": the last two rules of each order. A string of n bytes is over its limit, which has
-- its own refusal, or the room is less than what would be written.
use Rattle.std.specs.Prelude.{[], ◌∷◌, ℕ, ltb}
use Rattle.answers.specs.Order.{◌gives◌, first_of}
use Rattle.numbers.specs.declared.Refusal.{Refusal}
use Rattle.numbers.specs.declared.Refusal.TheVariants.{RoomSmall}
use Rattle.std.specs.Prelude.{Result}

unfoldable pub size_verdict : ℕ → Refusal → ℕ → ℕ → Result ℕ Refusal
size_verdict limit too_long room n = first_of (ltb limit n gives too_long ∷ ltb room n gives RoomSmall ∷ []) n
