-- The writers' orders as the code asks them: the prefix's rules, then each rule that another crate answers, then the two on the length. A
-- list of rules followed by another refuses as the first does, or else decides as the second.
use mathlib.Core.Path.{◌≡◌, refl, ap, ◌∙◌}
use mathlib.Core.Bool.{Bool, true, false}
use mathlib.Core.List.{List, [], ◌∷◌, ◌++◌}
use Prim.Native.Nat.{ℕ, ◌+◌, ◌≤◌}
use lib.Dec.{ltb}
use lib.ListN.{length}
use Rattle.laws.specs.Pick.{pick}
use Rattle.paper.specs.Bits.{to_symbols}
use Rattle.answers.specs.Order.{Rule, ◌gives◌, first_of}
use Rattle.answers.specs.Rules.{prefix_rules, prefix_verdict, version_unknown, version_verdict, length_wrong, length_wrong_for0, length_verdict}
use Rattle.answers.specs.Reading.{longer_than, room_small}
use Rattle.answers.specs.Writing.{symbol_large, write_verdict, write_bytes_verdict, write_address_verdict}
use Rattle.hrp.proofs.Prefix.{prefix_accepted}
use Rattle.iter.proofs.Lengths.{symbols_below}
use Rattle.encode.specs.Sizes.{size_verdict}
use Rattle.encode.proofs.Large.{none_large}
use Rattle.encode.proofs.Lengths.{written_length, address_length}
use Rattle.numbers.specs.declared.Refusal.{Refusal}
use Rattle.numbers.specs.declared.Refusal.TheVariants.{StringLong, AddressLong, VersionUnknown, ProgramLength, ProgramLengthVersion0, RoomSmall, SymbolLarge}
use Rattle.std.specs.Prelude.{Result, Ok, Err, ⊤}

-- the rules of `size_verdict`
abbrev size_rules : ℕ → Refusal → ℕ → ℕ → List Rule
size_rules limit too_long room n = ltb limit n gives too_long ∷ ltb room n gives RoomSmall ∷ []

-- a refusal, or what comes after it
abbrev pub followed : Result ⊤ Refusal → Result ℕ Refusal → Result ℕ Refusal
followed (Ok x) later = later
followed (Err n) later = Err n

pub rules_then : (first rest : List Rule) (a : ℕ) → first_of (first ++ rest) a ≡ followed (first_of first tt) (first_of rest a)
rules_then [] rest a = refl
rules_then ((test gives n) ∷ first) rest a = by_test test (rules_then first rest a)
  where
    by_test : (t : Bool) → first_of (first ++ rest) a ≡ followed (first_of first tt) (first_of rest a)
        → pick t (Err n) (first_of (first ++ rest) a) ≡ followed (pick t (Err n) (first_of first tt)) (first_of rest a)
    by_test true e = refl
    by_test false e = e

pub symbols_order : (constant : ℕ) (prefix symbols : List ℕ) (room : ℕ)
    → write_verdict constant prefix symbols room
    ≡ followed (prefix_verdict prefix) (pick (symbol_large symbols) (Err SymbolLarge) (size_verdict 1023 StringLong room (length prefix + 7 + length symbols)))
unfolding write_verdict prefix_verdict longer_than room_small size_verdict
symbols_order constant prefix symbols room =
    rw (written_length constant prefix symbols)
    (rules_then (prefix_rules prefix) (symbol_large symbols gives SymbolLarge ∷ size_rules 1023 StringLong room (length prefix + 7 + length symbols))
    (length prefix + 7 + length symbols))

pub bytes_order : (constant : ℕ) (prefix bytes : List ℕ) (room : ℕ)
    → write_bytes_verdict constant prefix bytes room
    ≡ followed (prefix_verdict prefix) (size_verdict 1023 StringLong room (length prefix + 7 + length (to_symbols bytes)))
unfolding write_bytes_verdict
bytes_order constant prefix bytes room = symbols_order constant prefix (to_symbols bytes) room ∙ rw (none_large (to_symbols bytes) (symbols_below bytes))

pub address_order : (prefix : List ℕ) (version : ℕ) (program : List ℕ) (room : ℕ)
    → write_address_verdict prefix version program room
    ≡ followed (prefix_verdict prefix)
    (followed (version_verdict version)
    (followed (length_verdict version (length program)) (size_verdict 90 AddressLong room (length prefix + 7 + (1 + length (to_symbols program))))))
unfolding write_address_verdict prefix_verdict version_verdict length_verdict longer_than room_small size_verdict
address_order prefix version program room =
    rw (address_length prefix version program)
    (rules_then (prefix_rules prefix) (version_rule ++ (length_rules_lem ++ size_rules_lem)) n
    ∙ ap (followed (prefix_verdict prefix))
    (rules_then version_rule (length_rules_lem ++ size_rules_lem) n
    ∙ ap (followed (version_verdict version)) (rules_then length_rules_lem size_rules_lem n)))
  where
    n : ℕ
    n = length prefix + 7 + (1 + length (to_symbols program))

    version_rule : List Rule
    version_rule = version_unknown version gives VersionUnknown ∷ []

    length_rules_lem : List Rule
    length_rules_lem = length_wrong (length program) gives ProgramLength ∷ length_wrong_for0 version (length program) gives ProgramLengthVersion0 ∷ []

    size_rules_lem : List Rule
    size_rules_lem = size_rules 90 AddressLong room n

pub prefix_short : (prefix : List ℕ) → prefix_verdict prefix ≡ Ok tt → length prefix ≤ 83
prefix_short prefix e = ((prefix_accepted prefix).0 e).not_long
