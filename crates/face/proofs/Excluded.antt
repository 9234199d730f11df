-- Wrong answers that the promises exclude, each on a concrete input: a function that always refuses, one that leaves its results or the buffer alone,
-- one that takes any code.
use mathlib.Core.Path.{◌≡◌, refl, ap, ◌∙◌}
use mathlib.Core.List.{List, [], ◌++◌}
use Prim.Native.Nat.{ℕ, suc}
use native.Mathlib.Omega.{arith}
use lib.ListN.{get_or, replicate}
use Rattle.std.specs.Prelude.{Result, Ok}
use Rattle.laws.specs.Text.{bytes}
use Rattle.numbers.specs.declared.Refusal.{Refusal}
use Rattle.numbers.specs.Numbers.{number_in}
use Rattle.paper.specs.Checksum.{bech32}
use Rattle.answers.specs.Reading.{read_address_verdict, read_bytes_verdict, program_of, program_after, buffer_after}
use Rattle.answers.proofs.Computing.{computing}
use Rattle.answers.proofs.Cases.{taproot, room_32, abcd_bech32, write_90, write_version_17}
use Rattle.answers.specs.Numbers.{count_in, version_in}
use Rattle.correction.proofs.Examples.{last_changed, fourth_changed}
use Rattle.face.specs.Overlap.{overlap_number}
use Rattle.face.specs.Codes.{by_code, coded_write, coded_string}
use Rattle.face.specs.Promises.{AddressChecked, AddressRead, StringRead, PlaceLocated, BytesRead, SymbolsWritten, BytesWritten, AddressWritten, OverlapTold}

abbrev address : List ℕ
address = bytes "bc1pdp43hj65vxw49rts6kcw35u6r6tgzguyr03vvveeewjqpn05efzq7un9w0"

abbrev other_address : List ℕ
other_address = bytes "bc1p0xlxvlhemja6c4dqv22uapctqupfhlxm9h8z3k2e72q4k9hcz7vqzk5jj0"

abbrev string : List ℕ
string = bytes "abcd14g08d6qejxtdg4y5r3zarvary0c5xw7kxugcx9"

-- ---- pennywax_apart_check_address

pub check_not_refused : (k v n : ℕ) → AddressChecked address (suc k) v n → ⊥
check_not_refused k v n p = let e : suc k ≡ 0 = p.number ∙ ap number_in taproot in omega arith

pub check_gives_version : (r n : ℕ) → AddressChecked address r 0 n → ⊥
check_gives_version r n p = let e : ◌≡◌ {A = ℕ} 0 1 = p.version_given ∙ ap version_in taproot in omega arith

-- ---- pennywax_apart_read_address

pub read_address_not_refused : (k : ℕ) (after : List ℕ) (v n : ℕ) → AddressRead other_address (replicate 32 0) (suc k) after v n → ⊥
read_address_not_refused k after v n p = let e : suc k ≡ 0 = p.number ∙ ap number_in room_32 in omega arith

program_first : get_or (program_after (read_address_verdict other_address 32) (program_of other_address) (replicate 32 0)) 0 0 ≡ 0x79
unfolding computing
program_first = refl

pub read_address_writes : (r v n : ℕ) → AddressRead other_address (replicate 32 0) r (replicate 32 0) v n → ⊥
read_address_writes r v n p = let e : ◌≡◌ {A = ℕ} 0 0x79 = ap (λ (l : List ℕ). get_or l 0 0) p.buffer ∙ program_first in omega arith

-- ---- pennywax_apart_read

pub read_not_refused : (k m n : ℕ) → StringRead 1 string (suc k) m n → ⊥
unfolding by_code
read_not_refused k m n p = let e : suc k ≡ 0 = p.number ∙ ap number_in abcd_bech32 in omega arith

pub read_knows_codes : (m n : ℕ) → StringRead 3 string 0 m n → ⊥
unfolding by_code
read_knows_codes m n p = let e : ◌≡◌ {A = ℕ} 0 28 = p.number in omega arith

-- ---- pennywax_apart_locate

pub locate_not_refused : (k p : ℕ) → PlaceLocated 1 (bytes "a12uel5q") (suc k) p → ⊥
unfolding by_code
locate_not_refused k p x = let e : suc k ≡ 0 = x.number ∙ ap number_in last_changed in omega arith

pub locate_gives_the_place : (r : ℕ) → PlaceLocated 1 (bytes "a12uql5l") r 0 → ⊥
unfolding by_code
locate_gives_the_place r x = let e : ◌≡◌ {A = ℕ} 0 3 = x.place_given ∙ ap count_in fourth_changed in omega arith

pub locate_knows_codes : (p : ℕ) → PlaceLocated 3 (bytes "a12uel5q") 0 p → ⊥
unfolding by_code
locate_knows_codes p x = let e : ◌≡◌ {A = ℕ} 0 28 = x.number in omega arith

-- ---- pennywax_apart_read_bytes

bytes_of_string : read_bytes_verdict bech32 string 20 ≡ Ok 20
unfolding computing
bytes_of_string = refl

pub read_bytes_not_refused : (k : ℕ) (after : List ℕ) (n : ℕ) → BytesRead 1 string (replicate 20 0) (suc k) after n → ⊥
unfolding by_code
read_bytes_not_refused k after n p = let e : suc k ≡ 0 = p.number ∙ ap number_in bytes_of_string in omega arith

pub read_bytes_knows_codes : (after : List ℕ) (n : ℕ) → BytesRead 0 string (replicate 20 0) 0 after n → ⊥
unfolding by_code
read_bytes_knows_codes after n p = let e : ◌≡◌ {A = ℕ} 0 28 = p.number in omega arith

-- ---- the writers: BIP-173's and BIP-350's shortest strings, and document 01's limits

string_written : coded_string 1 (bytes "a") [] ≡ bytes "a12uel5l"
unfolding computing by_code
string_written = refl

string_accepted : coded_write 1 (bytes "a") [] 8 ≡ Ok 8
unfolding computing by_code
string_accepted = refl

pub write_symbols_not_refused : (k : ℕ) (after : List ℕ) (n : ℕ) → SymbolsWritten 1 (bytes "a") [] (replicate 8 0) (suc k) after n → ⊥
write_symbols_not_refused k after n p = let e : suc k ≡ 0 = p.number ∙ ap number_in string_accepted in omega arith

pub write_symbols_writes : (r n : ℕ) → SymbolsWritten 1 (bytes "a") [] (replicate 8 0) r (replicate 8 0) n → ⊥
write_symbols_writes r n p =
    let content : replicate 8 0 ≡ bytes "a12uel5l" =
    p.buffer ∙ ap (λ (v : Result ℕ Refusal). buffer_after v (coded_string 1 (bytes "a") []) (replicate 8 0)) string_accepted
    ∙ ap (λ (l : List ℕ). l ++ []) string_written in
    let e : ◌≡◌ {A = ℕ} 0 97 = ap (λ (l : List ℕ). get_or l 0 0) content in
    omega arith

pub write_bytes_not_refused : (k : ℕ) (after : List ℕ) (n : ℕ) → BytesWritten 1 (bytes "a") [] (replicate 8 0) (suc k) after n → ⊥
unfolding computing
write_bytes_not_refused k after n p = let e : suc k ≡ 0 = p.number ∙ ap number_in string_accepted in omega arith

pub write_bytes_knows_codes : (after : List ℕ) (n : ℕ) → BytesWritten 3 (bytes "a") [] (replicate 8 0) 0 after n → ⊥
unfolding by_code
write_bytes_knows_codes after n p = let e : ◌≡◌ {A = ℕ} 0 28 = p.number in omega arith

pub write_address_not_refused : (k : ℕ) (after : List ℕ) (n : ℕ)
    → AddressWritten (replicate 30 97) 1 (replicate 32 0) (replicate 90 0) (suc k) after n → ⊥
write_address_not_refused k after n p = let e : suc k ≡ 0 = p.number ∙ ap number_in write_90 in omega arith

pub write_address_version_17 : (after : List ℕ) (n : ℕ) → AddressWritten (bytes "bc") 17 (replicate 2 0) (replicate 90 0) 0 after n → ⊥
write_address_version_17 after n p = let e : ◌≡◌ {A = ℕ} 0 12 = p.number ∙ ap number_in write_version_17 in omega arith

-- ---- pennywax_ranges_overlap: 20 bytes at 4096, and 200 that start with them, with their last byte, and right after them

pub overlap_same_place : OverlapTold 4096 20 4096 200 0 → ⊥
unfolding overlap_number
overlap_same_place p = let e : ◌≡◌ {A = ℕ} 0 37 = p.number in omega arith

pub overlap_last_byte : OverlapTold 4096 20 4115 200 0 → ⊥
unfolding overlap_number
overlap_last_byte p = let e : ◌≡◌ {A = ℕ} 0 37 = p.number in omega arith

pub overlap_not_after : OverlapTold 4096 20 4116 200 37 → ⊥
unfolding overlap_number
overlap_not_after p = let e : ◌≡◌ {A = ℕ} 37 0 = p.number in omega arith

-- the last address of all is one, and the next is none
pub overlap_not_at_top : OverlapTold 4096 20 18446744073709551596 20 37 → ⊥
unfolding overlap_number
overlap_not_at_top p = let e : ◌≡◌ {A = ℕ} 37 0 = p.number in omega arith

pub overlap_past_top : OverlapTold 4096 20 18446744073709551596 21 0 → ⊥
unfolding overlap_number
overlap_past_top p = let e : ◌≡◌ {A = ℕ} 0 37 = p.number in omega arith
