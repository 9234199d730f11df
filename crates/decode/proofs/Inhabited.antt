-- A string that is taken into its halves, wherever it lies: what `Halved` asks can be met, of the rules before the checksum and of all.
use mathlib.Core.Path.{refl}
use Rattle.laws.specs.Text.{bytes}
use Rattle.paper.specs.Checksum.{bech32}
use Rattle.answers.specs.Reading.{string_rules, reading_rules}
use Rattle.answers.proofs.Computing.{computing}
use Rattle.decode.specs.Places.{Place, further}
use Rattle.decode.specs.Halves.{Halved}

pub taken_apart_here : (place : Place)
    → Halved (string_rules (bytes "a12uel5l")) place (bytes "a12uel5l") (bytes "2uel5l")
    (record { prefix = record { ref_ptr = place; now = bytes "a" }; characters = record { ref_ptr = further place 2; now = bytes "2uel5l" } })
unfolding computing
taken_apart_here place =
    record {
      accepted = (refl, (refl, (refl, (refl, (refl, (refl, tt))))));
      prefix = refl;
      characters = refl;
      prefix_there = refl;
      characters_there = refl;
    }

pub read_here : (place : Place)
    → Halved (reading_rules bech32 (bytes "bc1qar0srrr7xfkvy5l643lydnw9re59gtzzwf5mdq")) place (bytes "bc1qar0srrr7xfkvy5l643lydnw9re59gtzzwf5mdq")
    (bytes "qar0srrr7xfkvy5l643lydnw9re59gtzz")
    (record {
      prefix = record { ref_ptr = place; now = bytes "bc" };
      characters = record { ref_ptr = further place 3; now = bytes "qar0srrr7xfkvy5l643lydnw9re59gtzz" };
    })
unfolding computing
read_here place =
    record {
      accepted = (refl, (refl, (refl, (refl, (refl, (refl, (refl, (refl, (refl, tt)))))))));
      prefix = refl;
      characters = refl;
      prefix_there = refl;
      characters_there = refl;
    }
