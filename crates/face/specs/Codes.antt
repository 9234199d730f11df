-- Document 01, answer 28: where a checksum is a number, 1 is Bech32 and 2 is Bech32m; any other is refused before all else.
use Rattle.std.specs.Prelude.{◌≡◌, List, [], ℕ, eqb, length, Result, Ok, Err}
use Rattle.laws.specs.Pick.{pick}
use Rattle.numbers.specs.declared.Refusal.{Refusal}
use Rattle.numbers.specs.declared.Refusal.TheVariants.{ChecksumUnknown}
use Rattle.paper.specs.Checksum.{bech32, bech32m}
use Rattle.paper.specs.Bits.{to_bytes}
use Rattle.answers.specs.declared.Parts.{Parts}
use Rattle.answers.specs.Reading.{payload_symbols, read_verdict, read_bytes_verdict, buffer_after}
use Rattle.answers.specs.Writing.{written_string, write_verdict}
use Rattle.checksum.specs.declared.Checksum.{Checksum}
use Rattle.checksum.specs.declared.Checksum.TheVariants.{Bech32, Bech32m}
use Rattle.correction.specs.Locator.{locate_verdict}

-- the checksum of a code
abbrev pub checksum_coded : ℕ → Result Checksum Refusal
checksum_coded code = pick (eqb code 1) (Ok Bech32) (pick (eqb code 2) (Ok Bech32m) (Err ChecksumUnknown))

-- what is answered for a code, given what is answered for a checksum's constant and what is answered for an unknown code
unfoldable pub by_code : {A : Type 0} → ℕ → (ℕ → A) → A → A
by_code code answer unknown = pick (eqb code 1) (answer bech32) (pick (eqb code 2) (answer bech32m) unknown)

abbrev pub coded_read : ℕ → List ℕ → Result Parts Refusal
coded_read code s = by_code code (λ constant. read_verdict constant s) (Err ChecksumUnknown)

abbrev pub coded_locate : ℕ → List ℕ → Result ℕ Refusal
coded_locate code s = by_code code (λ constant. locate_verdict constant s) (Err ChecksumUnknown)

abbrev pub coded_bytes : ℕ → List ℕ → ℕ → Result ℕ Refusal
coded_bytes code s room = by_code code (λ constant. read_bytes_verdict constant s room) (Err ChecksumUnknown)

pub record CodedBytes (code : ℕ) (s before : List ℕ) (r : Result ℕ Refusal) (after : List ℕ) : Type 0 where
  pub answer : r ≡ coded_bytes code s (length before)
  pub buffer : after ≡ buffer_after (coded_bytes code s (length before)) (to_bytes (payload_symbols s)) before

abbrev pub coded_write : ℕ → List ℕ → List ℕ → ℕ → Result ℕ Refusal
coded_write code prefix symbols room = by_code code (λ constant. write_verdict constant prefix symbols room) (Err ChecksumUnknown)

-- the string of a code's checksum; none is written under an unknown code
abbrev pub coded_string : ℕ → List ℕ → List ℕ → List ℕ
coded_string code prefix symbols = by_code code (λ constant. written_string constant prefix symbols) []

pub record CodedWritten (code : ℕ) (prefix symbols before : List ℕ) (r : Result ℕ Refusal) (after : List ℕ) : Type 0 where
  pub answer : r ≡ coded_write code prefix symbols (length before)
  pub buffer : after ≡ buffer_after (coded_write code prefix symbols (length before)) (coded_string code prefix symbols) before
