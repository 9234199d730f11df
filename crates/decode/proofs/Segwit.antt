-- Segwit reading in document 01's stages: 10 and 1 to 6 of the string, and then what is asked of its parts.
use Rattle.std.specs.Prelude.{List, [], ◌∷◌, ◌++◌, map, ◌≡◌, ℕ, ◌≤◌, ◌<◌, length, Result, Ok, Err, MatchResult}
use Rattle.std.proofs.Common.{refl, ap, ap₂, ◌∙◌}
use borrow.Author.Tests.{le-ltb, lt-ltb}
use Rattle.laws.proofs.Lists.{map_drop}
use Rattle.paper.specs.Charset.{symbol}
use Rattle.paper.specs.Checksum.{constant_of}
use Rattle.paper.specs.Bits.{to_bytes}
use Rattle.numbers.specs.declared.Refusal.{Refusal}
use Rattle.numbers.specs.declared.Refusal.TheVariants.{DataShort, ChecksumWrong, AddressLong, NoData, VersionUnknown, PaddingLong, PaddingNotZero, ProgramLength, ProgramLengthVersion0}
use Rattle.answers.specs.Order.{Rule, ◌gives◌, first_of}
use Rattle.answers.specs.Rules.{version_unknown, length_wrong, length_wrong_for0, padding_long, padding_not_zero}
use Rattle.answers.specs.Reading.{string_rules, prefix_part, data_part, payload, payload_symbols, version_of, program_symbols, program_of, longer_than, data_missing, data_short, checksum_wrong, payload_missing, address_verdict, as_address}
use Rattle.answers.specs.declared.Address.{Address}
use Rattle.decode.specs.Splitting.{parts_of, split_verdict}
use Rattle.decode.specs.Places.{Place}
use Rattle.decode.specs.Halves.{Halved}
use Rattle.decode.specs.declared.Halves.{Halves}
use Rattle.decode.specs.Asked.{address_split_rules, split_address, payload_in, program_in, judgement}
use Rattle.decode.proofs.Stages.{stage_refuses, rest_decides}

module _ (s : List ℕ) where
  abbrev accepted : Address
  accepted = as_address (version_of s) (length (program_of s))

  -- the rules after 10 and 1 to 6, of the whole string
  abbrev rest : List Rule
  rest =
      data_missing s gives NoData
      ∷ version_unknown (version_of s) gives VersionUnknown
      ∷ data_short s gives DataShort
      ∷ checksum_wrong (constant_of (version_of s)) s gives ChecksumWrong
      ∷ payload_missing s gives NoData
      ∷ padding_long (program_symbols s) gives PaddingLong
      ∷ padding_not_zero (program_symbols s) gives PaddingNotZero
      ∷ length_wrong (length (program_of s)) gives ProgramLength
      ∷ length_wrong_for0 (version_of s) (length (program_of s)) gives ProgramLengthVersion0
      ∷ []

  in_two : first_of (address_split_rules s ++ rest) accepted ≡ address_verdict s
  unfolding address_verdict
  in_two = refl

  symbols_are : map symbol (program_in (data_part s)) ≡ program_symbols s
  unfolding program_in payload_in program_symbols payload_symbols payload
  symbols_are = map_drop symbol 1 (payload s)

  program_own : to_bytes (map symbol (program_in (data_part s))) ≡ program_of s
  unfolding program_of
  program_own = ap to_bytes symbols_are

  of_parts : judgement (prefix_part s) (data_part s) ≡ first_of rest accepted
  unfolding judgement data_missing version_of data_short checksum_wrong payload_missing payload payload_in program_of
  of_parts = rw symbols_are refl

  -- ---- of the string

  pub halves_long : 90 < length s → Err AddressLong ≡ split_address s
  unfolding split_address longer_than
  halves_long h = rw (lt-ltb 90 (length s) h)

  pub halves_short : length s ≤ 90 → (lent : Place) (r : Result Halves Refusal)
      → MatchResult r (λ h. Halved (string_rules s) lent s (data_part s) h) (λ refusal. Err refusal ≡ split_verdict s)
      → MatchResult r (λ h. Halved (address_split_rules s) lent s (data_part s) h) (λ refusal. Err refusal ≡ split_address s)
  unfolding split_address split_verdict longer_than
  halves_short short lent (Ok h) own =
      record {
        accepted = (le-ltb 90 (length s) short, own.accepted);
        prefix = own.prefix;
        characters = own.characters;
        prefix_there = own.prefix_there;
        characters_there = own.characters_there;
      }
  halves_short short lent (Err refusal) e = rw (le-ltb 90 (length s) short) e

  pub address_split_refused : (r : Refusal) → Err r ≡ split_address s → Err r ≡ address_verdict s
  unfolding split_address
  address_split_refused r e = stage_refuses (parts_of s) accepted (address_split_rules s) rest r e ∙ in_two

  module _ (lent : Place) (h : Halves) (own : Halved (address_split_rules s) lent s (data_part s) h) where
    pub address_judged : judgement h.prefix.now h.characters.now ≡ address_verdict s
    address_judged =
        ap₂ judgement own.prefix own.characters
        ∙ of_parts
        ∙ rest_decides (address_split_rules s) rest accepted own.accepted
        ∙ in_two

    pub program_whole : (program : List ℕ) → program ≡ program_in h.characters.now → to_bytes (map symbol program) ≡ program_of s
    program_whole program part = ap (λ (l : List ℕ). to_bytes (map symbol l)) (part ∙ ap program_in own.characters) ∙ program_own
