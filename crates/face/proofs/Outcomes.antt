-- From an answer to the numbers that a caller of C gets: what an accepted and what a refused answer leave. Of the function below only its promise is used.
use mathlib.Core.Path.{◌≡◌, sym, ap, ◌∙◌}
use mathlib.Core.List.{List}
use Prim.Native.Nat.{ℕ}
use Rattle.std.specs.Prelude.{Result, Ok, Err}
use Rattle.numbers.specs.declared.Refusal.{Refusal}
use Rattle.numbers.specs.Numbers.{number_of, number_in}
use Rattle.answers.specs.declared.Parts.{Parts}
use Rattle.answers.specs.declared.Address.{Address}
use Rattle.answers.specs.Reading.{accepts_parts, accepts_address, address_verdict}
use Rattle.answers.specs.Numbers.{prefix_in, symbols_in, count_in, version_in, length_in}
use Rattle.decode.specs.Promises.{AddressRead as WasAddressRead}
use Rattle.encode.specs.Promises.{AddressWritten as WasAddressWritten}
use Rattle.face.specs.Codes.{coded_read, coded_locate, CodedBytes, CodedWritten}
use Rattle.face.specs.Promises.{AddressChecked, AddressRead, StringRead, PlaceLocated, BytesRead, SymbolsWritten, AddressWritten}

-- what is made of the answer that was promised is made of the answer that was given
of_answer : {A : Type 0} {a verdict : Result A Refusal} → a ≡ verdict → (b : Result A Refusal) → a ≡ b → (f : Result A Refusal → ℕ) → f b ≡ f verdict
of_answer kept b e f = ap f (sym e ∙ kept)

module _ (s : List ℕ) (a : Result Address Refusal) (kept : a ≡ address_verdict s) where
  checked : (b : Result Address Refusal) → a ≡ b → AddressChecked s (number_in b) (version_in b) (length_in b)
  checked b e =
      record { number = of_answer kept b e number_in; version_given = of_answer kept b e version_in; length_given = of_answer kept b e length_in }

  pub checked_accepted : (v n : ℕ) → a ≡ accepts_address v n → AddressChecked s 0 v n
  checked_accepted v n e = checked (accepts_address v n) e

  pub checked_refused : (k : Refusal) → a ≡ Err k → AddressChecked s (number_of k) 0 0
  checked_refused k e = checked (Err k) e

module _ (s before : List ℕ) (a : Result Address Refusal) (after : List ℕ) (kept : WasAddressRead s before a after) where
  read : (b : Result Address Refusal) → a ≡ b → AddressRead s before (number_in b) after (version_in b) (length_in b)
  read b e =
      record {
        number = of_answer kept.answer b e number_in;
        version_given = of_answer kept.answer b e version_in;
        length_given = of_answer kept.answer b e length_in;
        buffer = kept.buffer;
      }

  pub read_accepted : (v n : ℕ) → a ≡ accepts_address v n → AddressRead s before 0 after v n
  read_accepted v n e = read (accepts_address v n) e

  pub read_refused : (k : Refusal) → a ≡ Err k → AddressRead s before (number_of k) after 0 0
  read_refused k e = read (Err k) e

module _ (code : ℕ) (s : List ℕ) (a : Result Parts Refusal) (kept : a ≡ coded_read code s) where
  string : (b : Result Parts Refusal) → a ≡ b → StringRead code s (number_in b) (prefix_in b) (symbols_in b)
  string b e =
      record { number = of_answer kept b e number_in; prefix_given = of_answer kept b e prefix_in; symbols_given = of_answer kept b e symbols_in }

  pub string_accepted : (m n : ℕ) → a ≡ accepts_parts m n → StringRead code s 0 m n
  string_accepted m n e = string (accepts_parts m n) e

  pub string_refused : (k : Refusal) → a ≡ Err k → StringRead code s (number_of k) 0 0
  string_refused k e = string (Err k) e

module _ (code : ℕ) (s : List ℕ) (a : Result ℕ Refusal) (kept : a ≡ coded_locate code s) where
  located : (b : Result ℕ Refusal) → a ≡ b → PlaceLocated code s (number_in b) (count_in b)
  located b e = record { number = of_answer kept b e number_in; place_given = of_answer kept b e count_in }

  pub located_at : (p : ℕ) → a ≡ Ok p → PlaceLocated code s 0 p
  located_at p e = located (Ok p) e

  pub located_refused : (k : Refusal) → a ≡ Err k → PlaceLocated code s (number_of k) 0
  located_refused k e = located (Err k) e

module _ (code : ℕ) (s before : List ℕ) (a : Result ℕ Refusal) (after : List ℕ) (kept : CodedBytes code s before a after) where
  bytes : (b : Result ℕ Refusal) → a ≡ b → BytesRead code s before (number_in b) after (count_in b)
  bytes b e =
      record { number = of_answer kept.answer b e number_in; written_given = of_answer kept.answer b e count_in; buffer = kept.buffer }

  pub bytes_accepted : (n : ℕ) → a ≡ Ok n → BytesRead code s before 0 after n
  bytes_accepted n e = bytes (Ok n) e

  pub bytes_refused : (k : Refusal) → a ≡ Err k → BytesRead code s before (number_of k) after 0
  bytes_refused k e = bytes (Err k) e

-- ---- writing

module _ (code : ℕ) (prefix symbols before : List ℕ) (a : Result ℕ Refusal) (after : List ℕ) (kept : CodedWritten code prefix symbols before a after) where
  written : (b : Result ℕ Refusal) → a ≡ b → SymbolsWritten code prefix symbols before (number_in b) after (count_in b)
  written b e =
      record { number = of_answer kept.answer b e number_in; written_given = of_answer kept.answer b e count_in; buffer = kept.buffer }

  pub written_accepted : (n : ℕ) → a ≡ Ok n → SymbolsWritten code prefix symbols before 0 after n
  written_accepted n e = written (Ok n) e

  pub written_refused : (k : Refusal) → a ≡ Err k → SymbolsWritten code prefix symbols before (number_of k) after 0
  written_refused k e = written (Err k) e

module _ (prefix : List ℕ) (version : ℕ) (program before : List ℕ) (a : Result ℕ Refusal) (after : List ℕ)
    (kept : WasAddressWritten prefix version program before a after) where
  address_written : (b : Result ℕ Refusal) → a ≡ b → AddressWritten prefix version program before (number_in b) after (count_in b)
  address_written b e =
      record { number = of_answer kept.answer b e number_in; written_given = of_answer kept.answer b e count_in; buffer = kept.buffer }

  pub address_written_accepted : (n : ℕ) → a ≡ Ok n → AddressWritten prefix version program before 0 after n
  address_written_accepted n e = address_written (Ok n) e

  pub address_written_refused : (k : Refusal) → a ≡ Err k → AddressWritten prefix version program before (number_of k) after 0
  address_written_refused k e = address_written (Err k) e
