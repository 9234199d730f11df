-- What each public function promises, and that two answers which keep the promise are equal.
use Rattle.std.specs.Prelude.{◌≡◌, List, ℕ, ◌+◌, length, Result}
use Rattle.laws.proofs.Bools.{same}
use Rattle.paper.specs.Bits.{to_bytes}
use Rattle.answers.specs.Reading.{prefix_part, payload, payload_symbols, program_of, read_verdict, part_of, read_bytes_verdict, buffer_after, address_verdict, read_address_verdict, program_after}
use Rattle.checksum.specs.Parameters.{constant_for}
use Rattle.checksum.specs.declared.Checksum.{Checksum}
use Rattle.decode.specs.Places.{Place, further, start_of}
use Rattle.decode.specs.Symbols.{read_symbols_verdict}
use Rattle.decode.specs.Splitting.{split_verdict}
use Rattle.numbers.specs.declared.Refusal.{Refusal}
use Rattle.answers.specs.declared.Parts.{Parts}
use Rattle.answers.specs.declared.Address.{Address}

-- decode::read
abbrev pub WasRead : Checksum → List ℕ → Result Parts Refusal → Type 0
WasRead checksum s r = r ≡ read_verdict (constant_for checksum) s

pub was_read_once : (checksum : Checksum) (s : List ℕ) (r r' : Result Parts Refusal) → WasRead checksum s r → WasRead checksum s r' → r ≡ r'
was_read_once checksum s r r' p q = same p q

-- decode::data_part: what the part holds, and that it lies in the caller's slice, after the prefix and the separator
pub record DataPartGiven (checksum : Checksum) (lent : Place) (s : List ℕ) (at : Place) (r : List ℕ) : Type 0 where
  pub content : r ≡ part_of (read_verdict (constant_for checksum) s) (payload s)
  pub place : at ≡ further lent (start_of (read_verdict (constant_for checksum) s) (length (prefix_part s) + 1))

pub data_part_given_once : (checksum : Checksum) (lent : Place) (s : List ℕ) (at at' : Place) (r r' : List ℕ)
    → DataPartGiven checksum lent s at r → DataPartGiven checksum lent s at' r' → (at ≡ at') × (r ≡ r')
data_part_given_once checksum lent s at at' r r' p q = (same p.place q.place, same p.content q.content)

-- decode::prefix_part: the same of the prefix, which starts where the caller's slice does
pub record PrefixPartGiven (checksum : Checksum) (lent : Place) (s : List ℕ) (at : Place) (r : List ℕ) : Type 0 where
  pub content : r ≡ part_of (read_verdict (constant_for checksum) s) (prefix_part s)
  pub place : at ≡ lent

pub prefix_part_given_once : (checksum : Checksum) (lent : Place) (s : List ℕ) (at at' : Place) (r r' : List ℕ)
    → PrefixPartGiven checksum lent s at r → PrefixPartGiven checksum lent s at' r' → (at ≡ at') × (r ≡ r')
prefix_part_given_once checksum lent s at at' r r' p q = (same p.place q.place, same p.content q.content)

-- decode::read_symbols
pub record SymbolsRead (checksum : Checksum) (s before : List ℕ) (r : Result ℕ Refusal) (after : List ℕ) : Type 0 where
  pub answer : r ≡ read_symbols_verdict (constant_for checksum) s (length before)
  pub buffer : after ≡ buffer_after (read_symbols_verdict (constant_for checksum) s (length before)) (payload_symbols s) before

pub symbols_read_once : (checksum : Checksum) (s before : List ℕ) (r r' : Result ℕ Refusal) (after after' : List ℕ)
    → SymbolsRead checksum s before r after → SymbolsRead checksum s before r' after' → (r ≡ r') × (after ≡ after')
symbols_read_once checksum s before r r' after after' p q = (same p.answer q.answer, same p.buffer q.buffer)

-- decode::read_bytes
pub record BytesRead (checksum : Checksum) (s before : List ℕ) (r : Result ℕ Refusal) (after : List ℕ) : Type 0 where
  pub answer : r ≡ read_bytes_verdict (constant_for checksum) s (length before)
  pub buffer : after ≡ buffer_after (read_bytes_verdict (constant_for checksum) s (length before)) (to_bytes (payload_symbols s)) before

pub bytes_read_once : (checksum : Checksum) (s before : List ℕ) (r r' : Result ℕ Refusal) (after after' : List ℕ)
    → BytesRead checksum s before r after → BytesRead checksum s before r' after' → (r ≡ r') × (after ≡ after')
bytes_read_once checksum s before r r' after after' p q = (same p.answer q.answer, same p.buffer q.buffer)

-- decode::check_address
abbrev pub AddressChecked : List ℕ → Result Address Refusal → Type 0
AddressChecked s r = r ≡ address_verdict s

pub address_checked_once : (s : List ℕ) (r r' : Result Address Refusal) → AddressChecked s r → AddressChecked s r' → r ≡ r'
address_checked_once s r r' p q = same p q

-- decode::read_address
pub record AddressRead (s before : List ℕ) (r : Result Address Refusal) (after : List ℕ) : Type 0 where
  pub answer : r ≡ read_address_verdict s (length before)
  pub buffer : after ≡ program_after (read_address_verdict s (length before)) (program_of s) before

pub address_read_once : (s before : List ℕ) (r r' : Result Address Refusal) (after after' : List ℕ)
    → AddressRead s before r after → AddressRead s before r' after' → (r ≡ r') × (after ≡ after')
address_read_once s before r r' after after' p q = (same p.answer q.answer, same p.buffer q.buffer)

-- decode::split
abbrev pub WasSplit : List ℕ → Result Parts Refusal → Type 0
WasSplit s r = r ≡ split_verdict s

pub was_split_once : (s : List ℕ) (r r' : Result Parts Refusal) → WasSplit s r → WasSplit s r' → r ≡ r'
was_split_once s r r' p q = same p q
