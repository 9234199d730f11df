-- What the private functions of reading ask, each of the part that it is given: the rules that answers' Reading asks of the whole string.
use Rattle.std.specs.Prelude.{not, List, [], ◌∷◌, ◌++◌, map, ℕ, ◌-◌, eqb, ltb, length, take, drop, get_or, Result, ⊤}
use Rattle.paper.specs.Charset.{symbol}
use Rattle.paper.specs.Checksum.{residue, constant_of}
use Rattle.paper.specs.Bits.{to_bytes}
use Rattle.answers.specs.Order.{Rule, ◌gives◌, first_of}
use Rattle.answers.specs.Rules.{version_unknown, padding_long, padding_not_zero, length_wrong, length_wrong_for0}
use Rattle.answers.specs.Reading.{string_rules, longer_than, as_address}
use Rattle.decode.specs.Splitting.{parts_of}
use Rattle.numbers.specs.declared.Refusal.{Refusal}
use Rattle.numbers.specs.declared.Refusal.TheVariants.{DataShort, ChecksumWrong, AddressLong, NoData, VersionUnknown, PaddingLong, PaddingNotZero, ProgramLength, ProgramLengthVersion0}
use Rattle.answers.specs.declared.Parts.{Parts}
use Rattle.answers.specs.declared.Address.{Address}

-- 10, and then 1 to 6
abbrev pub address_split_rules : List ℕ → List Rule
address_split_rules s = longer_than 90 s gives AddressLong ∷ string_rules s

unfoldable pub split_address : List ℕ → Result Parts Refusal
split_address s = first_of (address_split_rules s) (parts_of s)

-- ---- of a prefix and of the characters after the separator

-- 8 and 9: room for a checksum, and the checksum with this constant
abbrev pub sum_rules : ℕ → List ℕ → List ℕ → List Rule
sum_rules constant prefix characters =
    ltb (length characters) 6 gives DataShort
    ∷ not (eqb (residue prefix (map symbol characters)) constant) gives ChecksumWrong
    ∷ []

unfoldable pub sum_verdict : ℕ → List ℕ → List ℕ → Result ⊤ Refusal
sum_verdict constant prefix characters = first_of (sum_rules constant prefix characters) tt

-- 11 and 12: the first symbol
abbrev pub version_in : List ℕ → ℕ
version_in characters = symbol (get_or characters 0 0)

abbrev pub version_rules : List ℕ → List Rule
version_rules characters =
    eqb (length characters) 0 gives NoData
    ∷ version_unknown (version_in characters) gives VersionUnknown
    ∷ []

unfoldable pub version_given : List ℕ → Result ℕ Refusal
version_given characters = first_of (version_rules characters) (version_in characters)

-- the checksum taken off, and then the version
unfoldable pub payload_in : List ℕ → List ℕ
payload_in characters = take (length characters - 6) characters

unfoldable pub program_in : List ℕ → List ℕ
program_in characters = drop 1 (payload_in characters)

-- 13 and 14, 15 and 16
abbrev pub padding_rules : List ℕ → List Rule
padding_rules symbols = padding_long symbols gives PaddingLong ∷ padding_not_zero symbols gives PaddingNotZero ∷ []

abbrev pub length_rules : ℕ → List ℕ → List Rule
length_rules version symbols =
    length_wrong (length (to_bytes symbols)) gives ProgramLength
    ∷ length_wrong_for0 version (length (to_bytes symbols)) gives ProgramLengthVersion0
    ∷ []

-- segwit reading after 10 and 1 to 6
unfoldable pub judgement : List ℕ → List ℕ → Result Address Refusal
judgement prefix characters =
    first_of
    (version_rules characters
    ++ sum_rules (constant_of (version_in characters)) prefix characters
    ++ eqb (length (payload_in characters)) 0 gives NoData
    ∷ padding_rules (map symbol (program_in characters))
    ++ length_rules (version_in characters) (map symbol (program_in characters)))
    (as_address (version_in characters) (length (to_bytes (map symbol (program_in characters)))))
