-- What is written is read: a written string is valid in the papers' sense, with the prefix in lower case and the symbols it was written with;
-- and so for addresses, with the version and the program.
use mathlib.Core.Path.{◌≡◌, refl, sym, ap, ◌∙◌}
use mathlib.Core.Bool.{false}
use mathlib.Core.List.{List, [], ◌∷◌, ◌++◌, map}
use Prim.Native.Nat.{ℕ, ◌+◌, ◌-◌, ◌^◌, ◌≤◌, ◌<◌}
use native.Mathlib.Omega.{arith}
use lib.ListN.{length, take, length-append, length-map}
use lib.Seq.{take_at}
use Rattle.laws.specs.Lists.{any, Every}
use Rattle.laws.proofs.Bools.{or_first, or_second}
use Rattle.laws.proofs.Lists.{map_take}
use Rattle.paper.specs.Charset.{lower, letter, symbol, is_upper}
use Rattle.paper.specs.Checksum.{residue, checksum, constant_of}
use Rattle.paper.specs.Bits.{to_bytes, to_symbols}
use Rattle.paper.specs.Valid.{ValidString, ValidAddress}
use Rattle.answers.specs.Reading.{data_part, prefix_part, payload, payload_symbols, version_of, program_of, checksum_wrong, read_verdict, address_verdict}
use Rattle.answers.specs.Writing.{written_string, written_address, write_verdict, write_address_verdict}
use Rattle.answers.proofs.Exact.{valid_data, valid_prefix, valid_checked, valid_version, valid_program, reads_exactly, address_exactly}
use Rattle.checksum.proofs.Constants.{constant_of_version, constant_lt}
use Rattle.checksum.specs.Parameters.{checksum_for}
use Rattle.checksum.proofs.Written.{checksum_only}
use Rattle.hrp.proofs.Case.{folded_twice, folded_not_upper}
use Rattle.hrp.specs.Prefix.{Legal}
use Rattle.hrp.proofs.Prefix.{folded_legal}
use Rattle.segwit.specs.Lengths.{LegalLength}
use Rattle.iter.proofs.Groups.{every_append}
use Rattle.iter.proofs.Lengths.{symbols_below}
use Rattle.iter.proofs.Round.{bytes_round, written_padding_short, written_padding_zero}
use Rattle.encode.proofs.Accepted.{symbols_accepted, address_accepted}
use Rattle.encode.proofs.Lengths.{check_length, check_small, written_length}
use Rattle.encode.proofs.Letters.{symbols_letters, letters_are_symbols, letters_not_upper, letters_no_separator}
use Rattle.answers.specs.Reading.{accepts_parts, accepts_address}
use Rattle.std.specs.Prelude.{Ok}

-- the checksum's prefix may be written in either case
folded_residue : (prefix symbols : List ℕ) → residue (map lower prefix) symbols ≡ residue prefix symbols
unfolding residue
folded_residue prefix symbols = rw (folded_twice prefix)

-- no capital before the separator and none after it
no_upper : (p d : List ℕ) → any is_upper p ≡ false → any is_upper d ≡ false → any is_upper (p ++ 49 ∷ d) ≡ false
no_upper [] d none later = later
no_upper (c ∷ p) d none later =
    rw (or_first (is_upper c) (any is_upper p) none) (no_upper p d (or_second (is_upper c) (any is_upper p) none) later)

-- ---- strings

module _ (constant : ℕ) (prefix symbols : List ℕ) (legal : Legal prefix) (small : Every (λ v. v < 32) symbols) (k : constant < 2 ^ 30) where
  abbrev written : List ℕ
  written = written_string constant prefix symbols

  abbrev check : List ℕ
  check = checksum constant prefix symbols

  all_small : Every (λ v. v < 32) (symbols ++ check)
  all_small = every_append (λ v. v < 32) symbols check small (check_small constant prefix symbols)

  data_length : length (map letter (symbols ++ check)) ≡ length symbols + 6
  data_length =
      length-map (symbols ++ check) letter ∙ length-append symbols check
      ∙ ap (λ (n : ℕ). length symbols + n) (check_length constant prefix symbols)

  pub written_valid : (limit : ℕ) → length prefix + 7 + length symbols ≤ limit
      → ValidString constant limit written (map lower prefix) (map letter (symbols ++ check))
  unfolding written_string
  written_valid limit h =
      record {
        parts = refl;
        no_later_separator = letters_no_separator (symbols ++ check) all_small;
        prefix_not_empty = (folded_legal prefix legal).not_empty;
        prefix_not_long = (folded_legal prefix legal).not_long;
        prefix_printable = (folded_legal prefix legal).printable;
        one_case =
            rw (no_upper (map lower prefix) (map letter (symbols ++ check)) (folded_not_upper prefix) (letters_not_upper (symbols ++ check) all_small));
        data_symbols = letters_are_symbols (symbols ++ check) all_small;
        data_not_short = omega (arith, data_length);
        checked =
            ap (residue (map lower prefix)) (symbols_letters (symbols ++ check) all_small)
            ∙ folded_residue prefix (symbols ++ check)
            ∙ (checksum_only constant prefix symbols check k (check_length constant prefix symbols) (check_small constant prefix symbols)).1 refl;
        not_long = omega (arith, written_length constant prefix symbols);
      }

  -- any limit that holds it serves for what follows
  valid : ValidString constant (length prefix + 7 + length symbols) written (map lower prefix) (map letter (symbols ++ check))
  valid = written_valid (length prefix + 7 + length symbols) (omega arith)

  pub written_data : data_part written ≡ map letter (symbols ++ check)
  written_data = valid_data constant (length prefix + 7 + length symbols) written (map lower prefix) (map letter (symbols ++ check)) valid

  pub written_prefix : prefix_part written ≡ map lower prefix
  written_prefix = valid_prefix constant (length prefix + 7 + length symbols) written (map lower prefix) (map letter (symbols ++ check)) valid

  pub written_checked : checksum_wrong constant written ≡ false
  written_checked = valid_checked constant (length prefix + 7 + length symbols) written (map lower prefix) (map letter (symbols ++ check)) valid

  pub written_payload : payload written ≡ map letter symbols
  unfolding payload
  written_payload =
      ap (λ (d : List ℕ). take (length d - 6) d) written_data
      ∙ ap (λ (n : ℕ). take n (map letter (symbols ++ check))) six_off
      ∙ sym (map_take letter (length symbols) (symbols ++ check))
      ∙ ap (map letter) (take_at symbols check (length symbols) refl)
    where
      six_off : length (map letter (symbols ++ check)) - 6 ≡ length symbols
      six_off = omega (arith, data_length)

  pub written_symbols : payload_symbols written ≡ symbols
  unfolding payload_symbols
  written_symbols = ap (map symbol) written_payload ∙ symbols_letters symbols small

  -- What is written is read, under the same checksum: the prefix's length and the symbols' number.
  pub written_is_read : length prefix + 7 + length symbols ≤ 1023 → read_verdict constant written ≡ accepts_parts (length prefix) (length symbols)
  written_is_read h =
      (reads_exactly constant written (length prefix) (length symbols)).1
      (record {
        prefix = map lower prefix;
        part = map letter (symbols ++ check);
        valid = written_valid 1023 h;
        prefix_length = length-map prefix lower;
        part_length = data_length;
      })

-- bytes that were written are the bytes of what is read
pub written_bytes : (constant : ℕ) (prefix bytes : List ℕ) → Legal prefix → constant < 2 ^ 30 → Every (λ v. v < 256) bytes
    → to_bytes (payload_symbols (written_string constant prefix (to_symbols bytes))) ≡ bytes
written_bytes constant prefix bytes legal k p =
    ap to_bytes (written_symbols constant prefix (to_symbols bytes) legal (symbols_below bytes) k) ∙ bytes_round bytes p

-- ---- addresses

pub version_constant_lt : (version : ℕ) → constant_of version < 2 ^ 30
version_constant_lt version = rw (constant_of_version version) at (constant_lt (checksum_for version))

module _ (prefix : List ℕ) (version : ℕ) (program : List ℕ) (legal : Legal prefix) (known : version ≤ 16)
    (size : LegalLength version (length program)) (fits : length prefix + 7 + (1 + length (to_symbols program)) ≤ 90)
    (bytes : Every (λ v. v < 256) program) where
  symbols : List ℕ
  symbols = version ∷ to_symbols program

  pub address_valid : ValidAddress (written_address prefix version program) version program
  unfolding written_address symbols
  address_valid =
      record {
        prefix = map lower prefix;
        data_part = map letter (symbols ++ checksum (constant_of version) prefix symbols);
        symbols = to_symbols program;
        check = checksum (constant_of version) prefix symbols;
        string = written_valid (constant_of version) prefix symbols legal small (version_constant_lt version) 90 (omega arith);
        parts =
            symbols_letters (symbols ++ checksum (constant_of version) prefix symbols)
            (every_append (λ v. v < 32) symbols (checksum (constant_of version) prefix symbols) small (check_small (constant_of version) prefix symbols));
        six = check_length (constant_of version) prefix symbols;
        version_known = known;
        padding_short = written_padding_short program;
        padding_zero = written_padding_zero program;
        means = sym (bytes_round program bytes);
        size = size.size;
        size_of_version_0 = size.size_of_version_0;
      }
    where
      small : Every (λ v. v < 32) symbols
      small = (omega arith, symbols_below program)

  pub address_version : version_of (written_address prefix version program) ≡ version
  address_version = valid_version (written_address prefix version program) version program address_valid

  pub address_program : program_of (written_address prefix version program) ≡ program
  address_program = valid_program (written_address prefix version program) version program address_valid

  -- An address that is written is read: its version and its program's length.
  pub address_is_read : address_verdict (written_address prefix version program) ≡ accepts_address version (length program)
  address_is_read =
      (address_exactly (written_address prefix version program) version (length program)).1
      (record { program = program; valid = address_valid; program_length = refl })

-- ---- the same from what the writers answered

pub accepted_is_read : (constant : ℕ) (prefix symbols : List ℕ) (room n : ℕ) → constant < 2 ^ 30
    → write_verdict constant prefix symbols room ≡ Ok n
    → read_verdict constant (written_string constant prefix symbols) ≡ accepts_parts (length prefix) (length symbols)
accepted_is_read constant prefix symbols room n k e =
    let fit = (symbols_accepted constant prefix symbols room n).0 e in
    written_is_read constant prefix symbols fit.legal fit.small k fit.not_long

pub accepted_address_is_read : (prefix : List ℕ) (version : ℕ) (program : List ℕ) (room n : ℕ) → Every (λ v. v < 256) program
    → write_address_verdict prefix version program room ≡ Ok n
    → (address_verdict (written_address prefix version program) ≡ accepts_address version (length program))
    × (program_of (written_address prefix version program) ≡ program)
accepted_address_is_read prefix version program room n bytes e =
    let fit = (address_accepted prefix version program room n).0 e in (
      address_is_read prefix version program fit.legal fit.known fit.size fit.not_long bytes,
      address_program prefix version program fit.legal fit.known fit.size fit.not_long bytes,
    )
