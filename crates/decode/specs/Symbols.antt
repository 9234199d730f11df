-- Document 01, "Order, generic reading", into a lent buffer of symbols: as into bytes, with the room that the symbols need.
use Rattle.std.specs.Prelude.{List, [], ◌∷◌, ◌++◌, ℕ, length, Result}
use Rattle.answers.specs.Order.{Rule, ◌gives◌, first_of}
use Rattle.answers.specs.Reading.{payload_symbols, reading_rules, room_small}
use Rattle.numbers.specs.declared.Refusal.{Refusal}
use Rattle.numbers.specs.declared.Refusal.TheVariants.{RoomSmall}

abbrev pub reading_symbols_rules : ℕ → List ℕ → ℕ → List Rule
reading_symbols_rules constant s room = reading_rules constant s ++ room_small room (payload_symbols s) gives RoomSmall ∷ []

unfoldable pub read_symbols_verdict : ℕ → List ℕ → ℕ → Result ℕ Refusal
read_symbols_verdict constant s room = first_of (reading_symbols_rules constant s room) (length (payload_symbols s))
