-- What the parts that a string is taken into are, where none of the rules applies: their lengths are what is accepted.
use Rattle.std.specs.Prelude.{List, ◌≡◌, ℕ, length, Ok}
use Rattle.std.proofs.Common.{ap, ap₂, sym, ◌∙◌}
use Rattle.answers.specs.Order.{Rule, first_of}
use Rattle.answers.specs.Reading.{string_rules, reading_rules, prefix_part, data_part, payload, read_verdict, as_parts}
use Rattle.answers.proofs.Orders.{accepts}
use Rattle.decode.specs.Splitting.{parts_of, split_verdict}
use Rattle.decode.specs.Places.{Place}
use Rattle.decode.specs.Halves.{lengths_of, Halved}
use Rattle.decode.specs.declared.Halves.{Halves}

lengths_own : (rules : List Rule) (lent : Place) (s part : List ℕ) (h : Halves) → Halved rules lent s part h
    → lengths_of h ≡ as_parts (length (prefix_part s)) (length part)
lengths_own rules lent s part h own = ap₂ as_parts (ap length own.prefix) (ap length own.characters)

halves_accepted : (rules : List Rule) (lent : Place) (s part : List ℕ) (h : Halves) → Halved rules lent s part h
    → Ok (lengths_of h) ≡ first_of rules (as_parts (length (prefix_part s)) (length part))
halves_accepted rules lent s part h own =
    ap Ok (lengths_own rules lent s part h own) ∙ sym (accepts (as_parts (length (prefix_part s)) (length part)) rules own.accepted)

pub split_accepted : (lent : Place) (s : List ℕ) (h : Halves) → Halved (string_rules s) lent s (data_part s) h → Ok (lengths_of h) ≡ split_verdict s
unfolding split_verdict parts_of
split_accepted lent s h own = halves_accepted (string_rules s) lent s (data_part s) h own

pub read_accepted : (constant : ℕ) (lent : Place) (s : List ℕ) (h : Halves) → Halved (reading_rules constant s) lent s (payload s) h
    → Ok (lengths_of h) ≡ read_verdict constant s
unfolding read_verdict
read_accepted constant lent s h own = halves_accepted (reading_rules constant s) lent s (payload s) h own
