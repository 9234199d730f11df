-- Wrong answers, each with a concrete string on which the promise excludes it.
use mathlib.Core.Path.{◌≡◌, refl, ap, ◌∙◌}
use mathlib.Core.List.{List, []}
use Prim.Native.Nat.{ℕ}
use lib.ListN.{length, take, get_or, replicate}
use borrow.Author.Tests.{eqb-false}
use Rattle.laws.specs.Text.{bytes}
use Rattle.paper.specs.Bits.{to_bytes}
use Rattle.numbers.specs.Numbers.{number_in}
use Rattle.numbers.proofs.Numbers.{err_apart}
use Rattle.answers.specs.Numbers.{prefix_in}
use Rattle.answers.specs.Reading.{prefix_part, data_part, payload, payload_symbols, accepts_parts, accepts_address}
use Rattle.answers.proofs.Computing.{computing}
use Rattle.answers.proofs.Cases.{taproot, payload_bech32}
use Rattle.checksum.specs.declared.Checksum.{Checksum}
use Rattle.checksum.specs.declared.Checksum.TheVariants.{Bech32}
use Rattle.decode.specs.Splitting.{parts_of, split_verdict}
use Rattle.decode.specs.Symbols.{read_symbols_verdict}
use Rattle.decode.specs.Places.{Place}
use Rattle.decode.specs.Promises.{WasRead, DataPartGiven, PrefixPartGiven, SymbolsRead, BytesRead, AddressChecked, AddressRead, WasSplit}
use Rattle.numbers.specs.declared.Refusal.{Refusal}
use Rattle.numbers.specs.declared.Refusal.TheVariants.{MixedCase, NoSeparator, PrefixByte}
use Rattle.answers.specs.declared.Parts.{Parts}
use Rattle.answers.specs.declared.Address.{Address}
use Rattle.std.specs.Prelude.{Result, Ok, Err}

-- document 01, "Cases"
abbrev taproot_text : List ℕ
taproot_text = bytes "bc1pdp43hj65vxw49rts6kcw35u6r6tgzguyr03vvveeewjqpn05efzq7un9w0"

abbrev key_text : List ℕ
key_text = bytes "bc1qar0srrr7xfkvy5l643lydnw9re59gtzzwf5mdq"

-- two strings that are accepted under Bech32 and differ in one place, where the second has its separator
abbrev one_text : List ℕ
one_text = bytes "a1gfjmjpqlnz78ag"

abbrev two_text : List ℕ
two_text = bytes "a1gfjmjpq1nz78ag"

-- BIP-350, invalid: version 2 with a Bech32 checksum
abbrev other_sum_text : List ℕ
other_sum_text = bytes "tb1z0xlxvlhemja6c4dqv22uapctqupfhlxm9h8z3k2e72q4k9hcz7vqh2y7hd"

-- ---- strings of the same length as BIP-173's `a12uel5l`, whose residue is right where its lengths are taken for theirs: no separator, mixed case, a
-- space as prefix

pub no_separator_refused : (checksum : Checksum) (r p : Result Parts Refusal) (a : Result Address Refusal)
    → WasRead checksum (bytes "az2uel5l") r → WasSplit (bytes "az2uel5l") p → AddressChecked (bytes "az2uel5l") a
    → (r ≡ Err NoSeparator) × (p ≡ Err NoSeparator) × (a ≡ Err NoSeparator)
unfolding computing split_verdict
no_separator_refused checksum r p a e f g = (e, f, g)

pub mixed_case_refused : (checksum : Checksum) (r p : Result Parts Refusal) (a : Result Address Refusal)
    → WasRead checksum (bytes "a12UEL5l") r → WasSplit (bytes "a12UEL5l") p → AddressChecked (bytes "a12UEL5l") a
    → (r ≡ Err MixedCase) × (p ≡ Err MixedCase) × (a ≡ Err MixedCase)
unfolding computing split_verdict
mixed_case_refused checksum r p a e f g = (e, f, g)

pub space_refused : (checksum : Checksum) (r p : Result Parts Refusal) (a : Result Address Refusal)
    → WasRead checksum (bytes " 1nwldj5") r → WasSplit (bytes " 1nwldj5") p → AddressChecked (bytes " 1nwldj5") a
    → (r ≡ Err PrefixByte) × (p ≡ Err PrefixByte) × (a ≡ Err PrefixByte)
unfolding computing split_verdict
space_refused checksum r p a e f g = (e, f, g)

-- ---- refusing everything

pub read_not_always_refused : (r : Refusal) → WasRead Bech32 key_text (Err r) → ⊥
read_not_always_refused r e = err_apart _ r (e ∙ payload_bech32)

pub address_not_always_refused : (r : Refusal) → AddressChecked taproot_text (Err r) → ⊥
address_not_always_refused r e = err_apart _ r (e ∙ taproot)

-- ---- accepting what is wrong

-- the lengths of `a12uel5l` for a string without separator
pub read_not_by_lengths : (checksum : Checksum) → WasRead checksum (bytes "az2uel5l") (accepts_parts 1 0) → ⊥
unfolding computing
read_not_by_lengths checksum e = eqb-false 0 3 refl (ap number_in e)

pub split_not_by_lengths : (p : Parts) → WasSplit (bytes "az2uel5l") (Ok p) → ⊥
unfolding computing split_verdict
split_not_by_lengths p e = eqb-false 0 3 refl (ap number_in e)

-- case asked of each part alone: the prefix is upper case, the data part lower
pub split_not_by_part : (p : Parts) → WasSplit (bytes "A12uel5l") (Ok p) → ⊥
unfolding computing split_verdict
split_not_by_part p e = eqb-false 0 2 refl (ap number_in e)

-- document 01, "Wrong answers that must be ruled out": either checksum for any version
pub address_not_by_either_checksum : AddressChecked other_sum_text (accepts_address 2 32) → ⊥
unfolding computing
address_not_by_either_checksum e = eqb-false 0 9 refl (ap number_in e)

-- the same: the first 1 as separator
pub first_one_is_no_separator : WasSplit two_text (accepts_parts 1 14) → ⊥
unfolding computing split_verdict parts_of
first_one_is_no_separator e = eqb-false 1 9 refl (ap prefix_in e)

-- ---- handing back nothing, another part of the string, or a part that lies elsewhere. The string lies 7 bytes into the block 3.

abbrev lent : Place
lent = (3, 7)

pub data_part_not_always_empty : (at : Place) → DataPartGiven Bech32 lent key_text at [] → ⊥
unfolding computing
data_part_not_always_empty at r = eqb-false 0 33 refl (ap length r.content)

-- the checksum left on
pub data_part_not_with_checksum : (at : Place) → DataPartGiven Bech32 lent key_text at (data_part key_text) → ⊥
unfolding computing
data_part_not_with_checksum at r = eqb-false 39 33 refl (ap length r.content)

-- a copy in another block, and the right characters found one byte too early
pub data_part_not_copied : (offset : ℕ) → DataPartGiven Bech32 lent key_text (4, offset) (payload key_text) → ⊥
data_part_not_copied offset r = eqb-false 4 3 refl (ap (λ (p : Place). p.0) r.place)

pub data_part_not_from_separator : DataPartGiven Bech32 lent key_text (3, 9) (payload key_text) → ⊥
unfolding computing
data_part_not_from_separator r = eqb-false 9 10 refl (ap (λ (p : Place). p.1) r.place)

-- the empty part of a refused string at the string's end
pub data_part_not_at_end : DataPartGiven Bech32 lent (bytes "az2uel5l") (3, 15) [] → ⊥
unfolding computing
data_part_not_at_end r = eqb-false 15 7 refl (ap (λ (p : Place). p.1) r.place)

pub prefix_part_not_always_empty : (at : Place) → PrefixPartGiven Bech32 lent key_text at [] → ⊥
unfolding computing
prefix_part_not_always_empty at r = eqb-false 0 2 refl (ap length r.content)

-- the separator with the prefix
pub prefix_part_not_with_separator : (at : Place) → PrefixPartGiven Bech32 lent key_text at (take 3 key_text) → ⊥
unfolding computing
prefix_part_not_with_separator at r = eqb-false 3 2 refl (ap length r.content)

pub prefix_part_not_copied : (offset : ℕ) → PrefixPartGiven Bech32 lent key_text (4, offset) (prefix_part key_text) → ⊥
prefix_part_not_copied offset r = eqb-false 4 3 refl (ap (λ (p : Place). p.0) r.place)

-- ---- accepting and leaving the buffer as it was, or writing something else

pub symbols_not_unwritten : SymbolsRead Bech32 one_text (replicate 8 0) (Ok 8) (replicate 8 0) → ⊥
unfolding computing read_symbols_verdict
symbols_not_unwritten r = eqb-false 0 8 refl (ap (λ (l : List ℕ). get_or l 0 0) r.buffer)

-- the characters for the symbols that they stand for
pub symbols_not_characters : SymbolsRead Bech32 one_text (replicate 8 0) (Ok 8) (payload one_text) → ⊥
unfolding computing read_symbols_verdict
symbols_not_characters r = eqb-false 103 8 refl (ap (λ (l : List ℕ). get_or l 0 0) r.buffer)

pub bytes_not_unwritten : BytesRead Bech32 one_text (replicate 5 0) (Ok 5) (replicate 5 0) → ⊥
unfolding computing
bytes_not_unwritten r = eqb-false 0 66 refl (ap (λ (l : List ℕ). get_or l 0 0) r.buffer)

-- a symbol to each byte
pub bytes_not_symbols : BytesRead Bech32 one_text (replicate 8 0) (Ok 8) (payload_symbols one_text) → ⊥
unfolding computing
bytes_not_symbols r = eqb-false 8 66 refl (ap (λ (l : List ℕ). get_or l 0 0) r.buffer)

pub address_not_unwritten : AddressRead taproot_text (replicate 32 0) (accepts_address 1 32) (replicate 32 0) → ⊥
unfolding computing
address_not_unwritten r = eqb-false 0 104 refl (ap (λ (l : List ℕ). get_or l 0 0) r.buffer)

-- a program that starts with the version
pub program_not_with_version : AddressRead taproot_text (replicate 33 0) (accepts_address 1 32) (to_bytes (payload_symbols taproot_text)) → ⊥
unfolding computing
program_not_with_version r = eqb-false 11 104 refl (ap (λ (l : List ℕ). get_or l 0 0) r.buffer)
