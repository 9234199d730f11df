-- The code accepts exactly what the papers accept: the readers' promises, put together with the theorems about document 01's verdicts. For any bytes of
-- any length.
use mathlib.Core.Path.{◌≡◌, sym, ap, ◌∙◌}
use mathlib.Core.Logic.{◌↔◌}
use mathlib.Core.List.{List, [], ◌++◌, map}
use Prim.Native.Nat.{ℕ, ◌≤◌}
use lib.ListN.{length, drop, length-map}
use Rattle.std.specs.Prelude.{Result, Ok, Err}
use Rattle.laws.specs.Text.{bytes}
use Rattle.numbers.specs.declared.Refusal.{Refusal}
use Rattle.numbers.proofs.Numbers.{err_apart}
use Rattle.paper.specs.Charset.{symbol}
use Rattle.paper.specs.Bits.{to_bytes}
use Rattle.paper.specs.Valid.{ValidAddress}
use Rattle.answers.specs.Accepted.{ReadAs, AddressAs}
use Rattle.answers.specs.Reading.{prefix_part, payload, payload_symbols, program_of, read_bytes_verdict, buffer_after, address_verdict, program_after, as_address, accepts_parts, accepts_address}
use Rattle.answers.proofs.Exact.{reads_exactly, address_exactly, valid_program}
use Rattle.answers.proofs.Rooms.{address_with_room}
use Rattle.answers.proofs.Cases.{taproot, valid_1}
use Rattle.answers.specs.declared.Parts.{Parts}
use Rattle.answers.specs.declared.Address.{Address}
use Rattle.checksum.specs.Parameters.{constant_for}
use Rattle.checksum.specs.declared.Checksum.{Checksum}
use Rattle.decode.specs.Symbols.{read_symbols_verdict}
use Rattle.decode.specs.Places.{Place}
use Rattle.decode.specs.Promises.{WasRead, DataPartGiven, PrefixPartGiven, SymbolsRead, BytesRead, AddressChecked, AddressRead}
use Rattle.theorems.specs.Holds.{Holds, HoldsSymbols, HoldsBytes}
use Rattle.theorems.proofs.Contents.{held_payload, no_part, held_into, into_exactly}

-- decode::check_address accepts exactly the papers' addresses, with their version and the length of their program
pub checks_exactly : (s : List ℕ) (r : Result Address Refusal) → AddressChecked s r → (v n : ℕ) → (r ≡ accepts_address v n) ↔ AddressAs s v n
checks_exactly s r kept v n = (
  (λ e. (address_exactly s v n).0 (sym kept ∙ e)),
  (λ a. kept ∙ (address_exactly s v n).1 a),
)

-- decode::read accepts exactly the papers' strings under this checksum
pub reads_strings_exactly : (checksum : Checksum) (s : List ℕ) (r : Result Parts Refusal) → WasRead checksum s r → (m n : ℕ)
    → (r ≡ accepts_parts m n) ↔ ReadAs (constant_for checksum) s m n
reads_strings_exactly checksum s r kept m n = (
  (λ e. (reads_exactly (constant_for checksum) s m n).0 (sym kept ∙ e)),
  (λ a. kept ∙ (reads_exactly (constant_for checksum) s m n).1 a),
)

-- decode::read_address accepts exactly the papers' addresses whose program fits the room
pub reads_addresses_exactly : (s before : List ℕ) (r : Result Address Refusal) (after : List ℕ) → AddressRead s before r after → (v n : ℕ)
    → (r ≡ accepts_address v n) ↔ (AddressAs s v n × (n ≤ length before))
reads_addresses_exactly s before r after kept v n = (
  (λ e.
      let both = (address_with_room s (length before) v n).0 (sym kept.answer ∙ e) in
      ((address_exactly s v n).0 both.0, both.1)),
  (λ a. kept.answer ∙ (address_with_room s (length before) v n).1 ((address_exactly s v n).1 a.0, a.1)),
)

-- and then the buffer holds the program of the valid address, with what lay past it
pub writes_the_program : (s before : List ℕ) (r : Result Address Refusal) (after : List ℕ) → AddressRead s before r after
    → (v : ℕ) (p : List ℕ) → ValidAddress s v p → r ≡ accepts_address v (length p) → after ≡ p ++ drop (length p) before
writes_the_program s before r after kept v p valid e =
    kept.buffer ∙ ap (λ (x : Result Address Refusal). program_after x (program_of s) before) (sym kept.answer ∙ e)
    ∙ ap (λ (l : List ℕ). l ++ drop (length p) before) (valid_program s v p valid)

-- on a refusal it holds what it held
pub program_refused : (s before : List ℕ) (r : Result Address Refusal) (after : List ℕ) → AddressRead s before r after
    → (k : Refusal) → r ≡ Err k → after ≡ before
program_refused s before r after kept k e = kept.buffer ∙ ap (λ (x : Result Address Refusal). program_after x (program_of s) before) (sym kept.answer ∙ e)

-- ---- the parts that are handed back

-- decode::data_part and decode::prefix_part give nothing of a string that is not valid; what they give of a valid one, and where it lies, is decode's Handed
pub gives_no_data : (checksum : Checksum) (lent : Place) (s : List ℕ) (at : Place) (r : List ℕ) → DataPartGiven checksum lent s at r
    → ((prefix part : List ℕ) → Holds (constant_for checksum) s prefix part → ⊥) → r ≡ []
gives_no_data checksum lent s at r kept none = kept.content ∙ no_part (constant_for checksum) s none (payload s)

pub gives_no_prefix : (checksum : Checksum) (lent : Place) (s : List ℕ) (at : Place) (r : List ℕ) → PrefixPartGiven checksum lent s at r
    → ((prefix part : List ℕ) → Holds (constant_for checksum) s prefix part → ⊥) → r ≡ []
gives_no_prefix checksum lent s at r kept none = kept.content ∙ no_part (constant_for checksum) s none (prefix_part s)

-- ---- symbols and bytes

module _ (checksum : Checksum) (s before : List ℕ) (r : Result ℕ Refusal) (after : List ℕ) where
  -- decode::read_symbols accepts exactly the papers' strings whose symbols fit the room
  pub reads_symbols_exactly : SymbolsRead checksum s before r after → (n : ℕ)
      → (r ≡ Ok n) ↔ (HoldsSymbols (constant_for checksum) s n × (n ≤ length before))
  unfolding read_symbols_verdict payload_symbols
  reads_symbols_exactly kept n =
      let exactly = into_exactly (constant_for checksum) s (map symbol) (length before) n in (
        (λ e.
            let x = exactly.0 (sym kept.answer ∙ e) in
            ((x.0.0, x.0.1, x.0.2, sym (length-map x.0.1 symbol) ∙ x.0.3), x.1)),
        (λ x. kept.answer ∙ exactly.1 ((x.0.0, x.0.1, x.0.2, length-map x.0.1 symbol ∙ x.0.3), x.1)),
      )

  -- and then the buffer holds the symbols of the data part, with what lay past them
  pub writes_the_symbols : SymbolsRead checksum s before r after → (prefix part : List ℕ) → Holds (constant_for checksum) s prefix part
      → length part ≤ length before → (r ≡ Ok (length part)) × (after ≡ map symbol part ++ drop (length part) before)
  unfolding read_symbols_verdict payload_symbols
  writes_the_symbols kept prefix part h fits =
      let verdict : read_symbols_verdict (constant_for checksum) s (length before) ≡ Ok (length part) =
      held_into (constant_for checksum) s (map symbol) (length before) h (rw (length-map part symbol) fits) ∙ ap Ok (length-map part symbol) in (
        kept.answer ∙ verdict,
        kept.buffer ∙ ap (λ (v : Result ℕ Refusal). buffer_after v (map symbol (payload s)) before) verdict
            ∙ ap (λ (l : List ℕ). map symbol l ++ drop (length part) before) (held_payload h),
      )

  pub symbols_refused : SymbolsRead checksum s before r after → (k : Refusal) → r ≡ Err k → after ≡ before
  symbols_refused kept k e = kept.buffer ∙ ap (λ (v : Result ℕ Refusal). buffer_after v (payload_symbols s) before) (sym kept.answer ∙ e)

  -- decode::read_bytes accepts exactly the papers' strings whose bytes fit the room
  pub reads_bytes_exactly : BytesRead checksum s before r after → (n : ℕ)
      → (r ≡ Ok n) ↔ (HoldsBytes (constant_for checksum) s n × (n ≤ length before))
  unfolding read_bytes_verdict payload_symbols
  reads_bytes_exactly kept n =
      let exactly = into_exactly (constant_for checksum) s (λ l. to_bytes (map symbol l)) (length before) n in
      (λ e. exactly.0 (sym kept.answer ∙ e), λ x. kept.answer ∙ exactly.1 x)

  -- and then the buffer holds the bytes of the data part, leftover bits dropped, with what lay past them
  pub writes_the_bytes : BytesRead checksum s before r after → (prefix part : List ℕ) → Holds (constant_for checksum) s prefix part
      → length (to_bytes (map symbol part)) ≤ length before
      → (r ≡ Ok (length (to_bytes (map symbol part)))) × (after ≡ to_bytes (map symbol part) ++ drop (length (to_bytes (map symbol part))) before)
  unfolding read_bytes_verdict payload_symbols
  writes_the_bytes kept prefix part h fits =
      let verdict : read_bytes_verdict (constant_for checksum) s (length before) ≡ Ok (length (to_bytes (map symbol part))) =
      held_into (constant_for checksum) s (λ l. to_bytes (map symbol l)) (length before) h fits in (
        kept.answer ∙ verdict,
        kept.buffer ∙ ap (λ (v : Result ℕ Refusal). buffer_after v (to_bytes (map symbol (payload s))) before) verdict
            ∙ ap (λ (l : List ℕ). to_bytes (map symbol l) ++ drop (length (to_bytes (map symbol part))) before) (held_payload h),
      )

  pub bytes_refused : BytesRead checksum s before r after → (k : Refusal) → r ≡ Err k → after ≡ before
  bytes_refused kept k e = kept.buffer ∙ ap (λ (v : Result ℕ Refusal). buffer_after v (to_bytes (payload_symbols s)) before) (sym kept.answer ∙ e)

-- ---- a reader that refuses a valid address keeps no promise: document 01's first case, and BIP-350's valid addresses

refusal_broken : (s : List ℕ) (v n : ℕ) (k : Refusal) → address_verdict s ≡ accepts_address v n → AddressChecked s (Err k) → ⊥
refusal_broken s v n k right kept = err_apart (as_address v n) k (kept ∙ right)

pub taproot_not_refused : (k : Refusal) → AddressChecked (bytes "bc1pdp43hj65vxw49rts6kcw35u6r6tgzguyr03vvveeewjqpn05efzq7un9w0") (Err k) → ⊥
taproot_not_refused k = refusal_broken (bytes "bc1pdp43hj65vxw49rts6kcw35u6r6tgzguyr03vvveeewjqpn05efzq7un9w0") 1 32 k taproot

pub valid_1_not_refused : (k : Refusal) → AddressChecked (bytes "BC1QW508D6QEJXTDG4Y5R3ZARVARY0C5XW7KV8F3T4") (Err k) → ⊥
valid_1_not_refused k = refusal_broken (bytes "BC1QW508D6QEJXTDG4Y5R3ZARVARY0C5XW7KV8F3T4") 0 20 k valid_1
