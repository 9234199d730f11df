-- What each function promises, and that two outcomes which keep the promise are equal.
use Rattle.std.specs.Prelude.{◌≡◌, List, ℕ, length}
use Rattle.laws.proofs.Bools.{same}
use Rattle.numbers.specs.Numbers.{number_in}
use Rattle.paper.specs.Bits.{to_bytes, to_symbols}
use Rattle.answers.specs.Reading.{payload_symbols, program_of, address_verdict, read_address_verdict, program_after, buffer_after}
use Rattle.answers.specs.Writing.{written_address, write_address_verdict}
use Rattle.answers.specs.Numbers.{prefix_in, symbols_in, count_in, version_in, length_in}
use Rattle.face.specs.Overlap.{overlap_number}
use Rattle.face.specs.Codes.{coded_read, coded_locate, coded_bytes, coded_write, coded_string}

-- face::pennywax_apart_check_address
pub record AddressChecked (s : List ℕ) (r version n : ℕ) : Type 0 where
  pub number : r ≡ number_in (address_verdict s)
  pub version_given : version ≡ version_in (address_verdict s)
  pub length_given : n ≡ length_in (address_verdict s)

pub address_checked_once : (s : List ℕ) (r r' v v' n n' : ℕ) → AddressChecked s r v n → AddressChecked s r' v' n' → (r ≡ r') × (v ≡ v') × (n ≡ n')
address_checked_once s r r' v v' n n' p q =
    (same p.number q.number, same p.version_given q.version_given, same p.length_given q.length_given)

-- face::pennywax_apart_read_address
pub record AddressRead (s before : List ℕ) (r : ℕ) (after : List ℕ) (version n : ℕ) : Type 0 where
  pub number : r ≡ number_in (read_address_verdict s (length before))
  pub version_given : version ≡ version_in (read_address_verdict s (length before))
  pub length_given : n ≡ length_in (read_address_verdict s (length before))
  pub buffer : after ≡ program_after (read_address_verdict s (length before)) (program_of s) before

pub address_read_once : (s before : List ℕ) (r r' : ℕ) (after after' : List ℕ) (v v' n n' : ℕ)
    → AddressRead s before r after v n → AddressRead s before r' after' v' n' → (r ≡ r') × (after ≡ after') × (v ≡ v') × (n ≡ n')
address_read_once s before r r' after after' v v' n n' p q = (
  same p.number q.number,
  same p.buffer q.buffer,
  same p.version_given q.version_given,
  same p.length_given q.length_given,
)

-- face::pennywax_apart_read
pub record StringRead (code : ℕ) (s : List ℕ) (r prefix symbols : ℕ) : Type 0 where
  pub number : r ≡ number_in (coded_read code s)
  pub prefix_given : prefix ≡ prefix_in (coded_read code s)
  pub symbols_given : symbols ≡ symbols_in (coded_read code s)

pub string_read_once : (code : ℕ) (s : List ℕ) (r r' m m' n n' : ℕ) → StringRead code s r m n → StringRead code s r' m' n' → (r ≡ r') × (m ≡ m') × (n ≡ n')
string_read_once code s r r' m m' n n' p q =
    (same p.number q.number, same p.prefix_given q.prefix_given, same p.symbols_given q.symbols_given)

-- face::pennywax_apart_locate
pub record PlaceLocated (code : ℕ) (s : List ℕ) (r place : ℕ) : Type 0 where
  pub number : r ≡ number_in (coded_locate code s)
  pub place_given : place ≡ count_in (coded_locate code s)

pub place_located_once : (code : ℕ) (s : List ℕ) (r r' p p' : ℕ) → PlaceLocated code s r p → PlaceLocated code s r' p' → (r ≡ r') × (p ≡ p')
place_located_once code s r r' p p' x y = (same x.number y.number, same x.place_given y.place_given)

-- face::pennywax_apart_read_bytes
pub record BytesRead (code : ℕ) (s before : List ℕ) (r : ℕ) (after : List ℕ) (written : ℕ) : Type 0 where
  pub number : r ≡ number_in (coded_bytes code s (length before))
  pub written_given : written ≡ count_in (coded_bytes code s (length before))
  pub buffer : after ≡ buffer_after (coded_bytes code s (length before)) (to_bytes (payload_symbols s)) before

pub bytes_read_once : (code : ℕ) (s before : List ℕ) (r r' : ℕ) (after after' : List ℕ) (n n' : ℕ)
    → BytesRead code s before r after n → BytesRead code s before r' after' n' → (r ≡ r') × (after ≡ after') × (n ≡ n')
bytes_read_once code s before r r' after after' n n' p q =
    (same p.number q.number, same p.buffer q.buffer, same p.written_given q.written_given)

-- face::pennywax_apart_write_symbols
pub record SymbolsWritten (code : ℕ) (prefix symbols before : List ℕ) (r : ℕ) (after : List ℕ) (written : ℕ) : Type 0 where
  pub number : r ≡ number_in (coded_write code prefix symbols (length before))
  pub written_given : written ≡ count_in (coded_write code prefix symbols (length before))
  pub buffer : after ≡ buffer_after (coded_write code prefix symbols (length before)) (coded_string code prefix symbols) before

pub symbols_written_once : (code : ℕ) (prefix symbols before : List ℕ) (r r' : ℕ) (after after' : List ℕ) (n n' : ℕ)
    → SymbolsWritten code prefix symbols before r after n → SymbolsWritten code prefix symbols before r' after' n' → (r ≡ r') × (after ≡ after') × (n ≡ n')
symbols_written_once code prefix symbols before r r' after after' n n' p q =
    (same p.number q.number, same p.buffer q.buffer, same p.written_given q.written_given)

-- face::pennywax_apart_write_bytes: the symbols of the bytes
abbrev pub BytesWritten : ℕ → List ℕ → List ℕ → List ℕ → ℕ → List ℕ → ℕ → Type 0
BytesWritten code prefix bytes before r after n = SymbolsWritten code prefix (to_symbols bytes) before r after n

pub bytes_written_once : (code : ℕ) (prefix bytes before : List ℕ) (r r' : ℕ) (after after' : List ℕ) (n n' : ℕ)
    → BytesWritten code prefix bytes before r after n → BytesWritten code prefix bytes before r' after' n' → (r ≡ r') × (after ≡ after') × (n ≡ n')
bytes_written_once code prefix bytes before = symbols_written_once code prefix (to_symbols bytes) before

-- face::pennywax_apart_write_address
pub record AddressWritten (prefix : List ℕ) (version : ℕ) (program before : List ℕ) (r : ℕ) (after : List ℕ) (written : ℕ) : Type 0 where
  pub number : r ≡ number_in (write_address_verdict prefix version program (length before))
  pub written_given : written ≡ count_in (write_address_verdict prefix version program (length before))
  pub buffer : after ≡ buffer_after (write_address_verdict prefix version program (length before)) (written_address prefix version program) before

pub address_written_once : (prefix : List ℕ) (version : ℕ) (program before : List ℕ) (r r' : ℕ) (after after' : List ℕ) (n n' : ℕ)
    → AddressWritten prefix version program before r after n → AddressWritten prefix version program before r' after' n'
    → (r ≡ r') × (after ≡ after') × (n ≡ n')
address_written_once prefix version program before r r' after after' n n' p q =
    (same p.number q.number, same p.buffer q.buffer, same p.written_given q.written_given)

-- face::pennywax_ranges_overlap
pub record OverlapTold (a m b n r : ℕ) : Type 0 where
  pub number : r ≡ overlap_number a m b n

pub overlap_told_once : (a m b n r r' : ℕ) → OverlapTold a m b n r → OverlapTold a m b n r' → r ≡ r'
overlap_told_once a m b n r r' p q = same p.number q.number
