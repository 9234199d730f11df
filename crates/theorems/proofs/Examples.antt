-- Each condition that a theorem asks is met by real strings, so that no theorem speaks of nothing. (Those of `paper` are met in its Examples, Changed also
-- in Sharp, a pattern that goes unseen in `detection` Sharp.)
use mathlib.Core.Path.{◌≡◌, refl}
use mathlib.Core.List.{[], ◌∷◌, ◌++◌, map}
use Prim.Native.Nat.{ℕ}
use native.Mathlib.Omega.{arith}
use lib.Dec.{lit<, lit≤}
use lib.ListN.{replicate}
use Rattle.std.specs.Prelude.{Ok, Err}
use Rattle.laws.specs.Text.{bytes}
use Rattle.numbers.specs.declared.Refusal.TheVariants.{MixedCase, ChecksumWrong, VersionUnknown}
use Rattle.paper.specs.Charset.{symbol}
use Rattle.paper.specs.Checksum.{residue, change_at, bech32, bech32m}
use Rattle.answers.specs.Accepted.{ReadAs, AddressAs}
use Rattle.answers.specs.Reading.{read_verdict, address_verdict, accepts_parts, accepts_address}
use Rattle.answers.proofs.Computing.{computing}
use Rattle.answers.proofs.Exact.{reads_exactly, address_exactly}
use Rattle.answers.proofs.Cases.{taproot, abcd_bech32}
use Rattle.detection.specs.Patterns.{dist, Near}
use Rattle.detection.specs.Places.{Explains}
use Rattle.detection.proofs.Distance.{symbols_by}
use Rattle.detection.proofs.Pieces.{pad, put}
use Rattle.detection.proofs.Sharp.{unseen, unseen_90}
use Rattle.hrp.specs.Prefix.{Fine, FirstNotPrintable, FirstMixed, Legal}
use Rattle.segwit.specs.Lengths.{LegalLength}
use Rattle.checksum.specs.declared.Checksum.TheVariants.{Bech32, Bech32m}
use Rattle.decode.specs.Symbols.{read_symbols_verdict}
use Rattle.decode.specs.Promises.{SymbolsRead, BytesRead, AddressRead}
use Rattle.encode.specs.Promises.{SymbolsWritten, BytesWritten, AddressWritten}
use Rattle.encode.proofs.Accepted.{SymbolsFit, AddressFits, symbols_accepted, address_accepted}
use Rattle.search.specs.Search.{Passes}
use Rattle.search.proofs.Windows.{pattern_passes}
use Rattle.correction.proofs.Examples.{last_changed, accepted_none, not_in_the_field}
use Rattle.theorems.specs.Changes.{Changed, ChangedAt, SameChecksum}
use Rattle.theorems.specs.Holds.{Holds}
use Rattle.theorems.specs.Named.{Named, Unplaced}
use Rattle.theorems.proofs.Located.{locates_exactly, locates_21}
use Rattle.theorems.proofs.Contents.{read_held}

-- ---- changed strings: a copy in the other case, and one in both

pub upper_copy : Changed 3 (bytes "a12uel5l") (bytes "A12UEL5Q")
unfolding computing dist
upper_copy =
    record {
      prefix = bytes "a";
      copied = bytes "A";
      part = bytes "2uel5l";
      other = bytes "2UEL5Q";
      before = refl;
      after = refl;
      same_prefix = refl;
      symbols = refl;
      still_symbols = refl;
      one_length = refl;
      some = lit≤ tt;
      few = lit≤ tt;
    }

pub mixed_copy : Changed 3 (bytes "a12uel5l") (bytes "a12uel5Q")
unfolding computing dist
mixed_copy =
    record {
      prefix = bytes "a";
      copied = bytes "a";
      part = bytes "2uel5l";
      other = bytes "2uel5Q";
      before = refl;
      after = refl;
      same_prefix = refl;
      symbols = refl;
      still_symbols = refl;
      one_length = refl;
      some = lit≤ tt;
      few = lit≤ tt;
    }

-- as computed: 9 and 2
pub copies_refused : (read_verdict bech32 (bytes "a12uel5l") ≡ accepts_parts 1 0)
    × (read_verdict bech32 (bytes "A12UEL5Q") ≡ Err ChecksumWrong) × (read_verdict bech32 (bytes "a12uel5Q") ≡ Err MixedCase)
unfolding computing
copies_refused = (refl, refl, refl)

-- an address of version 16, which becomes 17
pub version_17_copy : Changed 4 (bytes "BC1SW50QGDZ25J") (bytes "BC13W50QGDZ25J")
unfolding computing dist
version_17_copy =
    record {
      prefix = bytes "BC";
      copied = bytes "BC";
      part = bytes "SW50QGDZ25J";
      other = bytes "3W50QGDZ25J";
      before = refl;
      after = refl;
      same_prefix = refl;
      symbols = refl;
      still_symbols = refl;
      one_length = refl;
      some = lit≤ tt;
      few = lit≤ tt;
    }

pub version_17_same_checksum : SameChecksum (bytes "BC1SW50QGDZ25J") (bytes "BC13W50QGDZ25J")
unfolding computing
version_17_same_checksum = (λ e. let z : ◌≡◌ {A = ℕ} 16 0 = e in absurd (omega arith), λ e. let z : ◌≡◌ {A = ℕ} 17 0 = e in absurd (omega arith))

-- as computed: 12; and with another symbol of the program 9, or 2
pub address_copies_refused : (address_verdict (bytes "BC1SW50QGDZ25J") ≡ accepts_address 16 2)
    × (address_verdict (bytes "BC13W50QGDZ25J") ≡ Err VersionUnknown) × (address_verdict (bytes "BC1SQ50QGDZ25J") ≡ Err ChecksumWrong)
    × (address_verdict (bytes "BC1Sq50QGDZ25J") ≡ Err MixedCase)
unfolding computing
address_copies_refused = (refl, refl, refl, refl)

-- ---- one changed place, and what explains it

pub one_changed : ChangedAt 0 (bytes "a12uel5l") (bytes "a12uel5q")
unfolding computing
one_changed =
    record {
      prefix = bytes "a";
      part = bytes "2uel5l";
      index = 5;
      character = 113;
      before = refl;
      after = refl;
      symbols = refl;
      still_symbol = refl;
      inside = lit< tt;
      place = refl;
      other = λ e. omega (arith, e);
    }

pub one_explained : Explains (residue (bytes "a") (map symbol (bytes "2uel5q"))) bech32 0
unfolding computing change_at
one_explained = record { change = 31; proper = (lit< tt, lit< tt); gives = refl }

pub one_named : Named bech32 (bytes "a12uel5q") 0
one_named = (locates_exactly bech32 (bytes "a12uel5q") 0).0 last_changed

-- none is named for a string that is accepted, and for one whose residue no change of one symbol explains
pub none_named : Unplaced bech32 (bytes "a12uel5l") × Unplaced bech32 (bytes "a10f58vz")
none_named = ((locates_21 bech32 (bytes "a12uel5l")).0 accepted_none, (locates_21 bech32 (bytes "a10f58vz")).0 not_in_the_field)

-- ---- symbols that are near, and a pattern that passes

pub near_three : Near 1023 3 (map symbol (bytes "2uel5l")) (map symbol (bytes "2uel5q"))
unfolding computing dist
near_three =
    record {
      symbols = symbols_by (map symbol (bytes "2uel5l")) tt;
      others = symbols_by (map symbol (bytes "2uel5q")) tt;
      one_length = refl;
      within = lit≤ tt;
      few = lit≤ tt;
    }

pub near_four : Near 89 4 (map symbol (bytes "2uel5l")) (map symbol (bytes "2qqqql"))
unfolding computing dist
near_four =
    record {
      symbols = symbols_by (map symbol (bytes "2uel5l")) tt;
      others = symbols_by (map symbol (bytes "2qqqql")) tt;
      one_length = refl;
      within = lit≤ tt;
      few = lit≤ tt;
    }

pub passes_90 : Passes 90 unseen
unfolding put pad
passes_90 = pattern_passes 90 unseen refl unseen_90

-- ---- what is read, and what it holds

pub read_as : ReadAs bech32 (bytes "abcd14g08d6qejxtdg4y5r3zarvary0c5xw7kxugcx9") 4 32
read_as = (reads_exactly bech32 (bytes "abcd14g08d6qejxtdg4y5r3zarvary0c5xw7kxugcx9") 4 32).0 abcd_bech32

pub address_as : AddressAs (bytes "bc1pdp43hj65vxw49rts6kcw35u6r6tgzguyr03vvveeewjqpn05efzq7un9w0") 1 32
address_as = (address_exactly (bytes "bc1pdp43hj65vxw49rts6kcw35u6r6tgzguyr03vvveeewjqpn05efzq7un9w0") 1 32).0 taproot

-- BIP-350's string that holds every symbol
pub holds_all : Holds bech32m (bytes "abcdef1l7aum6echk45nj3s0wdvt2fg8x9yrzpqzd3ryx") (bytes "abcdef") (bytes "l7aum6echk45nj3s0wdvt2fg8x9yrzpq")
unfolding computing
holds_all = read_held bech32m (bytes "abcdef1l7aum6echk45nj3s0wdvt2fg8x9yrzpqzd3ryx") 6 32 refl

-- ---- what a writer takes

pub symbols_fit : SymbolsFit (bytes "A") [] 8 8
unfolding computing
symbols_fit = (symbols_accepted bech32 (bytes "A") [] 8 8).0 refl

pub address_fits : AddressFits (bytes "BC") 16 (0x75 ∷ 0x1e ∷ []) 14 14
unfolding computing
address_fits = (address_accepted (bytes "BC") 16 (0x75 ∷ 0x1e ∷ []) 14 14).0 refl

pub legal_prefix : Legal (bytes "A")
legal_prefix = symbols_fit.legal

pub legal_length : LegalLength 16 2
legal_length = address_fits.size

-- document 01, "Generic writing": a byte that is not printable, and a letter of the other case
pub fine_prefix : Fine (bytes "a")
fine_prefix = record { printable = refl; one_case = refl }

pub first_not_printable : FirstNotPrintable (bytes "a B")
first_not_printable = record { before = bytes "a"; byte = 32; after = bytes "B"; parts = refl; fine = fine_prefix; not_printable = refl }

pub first_mixed : FirstMixed (bytes "aB ")
first_mixed = record { before = bytes "a"; byte = 66; after = bytes " "; parts = refl; fine = fine_prefix; printable = refl; other_case = refl }

-- ---- what the functions with a lent buffer promise, met at short strings with room for one byte more

pub symbols_written : SymbolsWritten Bech32 (bytes "A") [] (replicate 9 255) (Ok 8) (bytes "a12uel5l" ++ 255 ∷ [])
unfolding computing
symbols_written = record { answer = refl; buffer = refl }

pub bytes_written : BytesWritten Bech32m (bytes "A") [] (replicate 9 255) (Ok 8) (bytes "a1lqfn3a" ++ 255 ∷ [])
unfolding computing
bytes_written = record { answer = refl; buffer = refl }

pub address_written : AddressWritten (bytes "BC") 16 (0x75 ∷ 0x1e ∷ []) (replicate 15 255) (Ok 14) (bytes "bc1sw50qgdz25j" ++ 255 ∷ [])
unfolding computing
address_written = record { answer = refl; buffer = refl }

pub symbols_read : SymbolsRead Bech32m (bytes "BC1SW50QGDZ25J") (replicate 6 255) (Ok 5) (16 ∷ 14 ∷ 20 ∷ 15 ∷ 0 ∷ 255 ∷ [])
unfolding computing read_symbols_verdict
symbols_read = record { answer = refl; buffer = refl }

pub bytes_read : BytesRead Bech32m (bytes "BC1SW50QGDZ25J") (replicate 4 255) (Ok 3) (131 ∷ 168 ∷ 240 ∷ 255 ∷ [])
unfolding computing
bytes_read = record { answer = refl; buffer = refl }

pub address_read : AddressRead (bytes "BC1SW50QGDZ25J") (replicate 3 255) (accepts_address 16 2) (0x75 ∷ 0x1e ∷ 255 ∷ [])
unfolding computing
address_read = record { answer = refl; buffer = refl }
