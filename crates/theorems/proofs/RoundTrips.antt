-- What we write we read back, and rewriting what we read gives the same string in lower case: the writers' promises put together with the readers'
-- verdicts. So a prefix, a checksum and data have one string, case aside.
use mathlib.Core.Path.{◌≡◌, sym, ap, ◌∙◌}
use mathlib.Core.Logic.{◌↔◌}
use mathlib.Core.Bool.{false}
use mathlib.Core.List.{List, ◌∷◌, ◌++◌, map}
use Prim.Native.Nat.{ℕ, ◌≤◌, ◌<◌}
use native.Mathlib.Nat.{le_refl}
use native.Mathlib.Omega.{arith}
use lib.ListN.{length, take, drop, replicate}
use lib.Seq.{take_at}
use Rattle.std.specs.Prelude.{Result, Ok}
use Rattle.laws.specs.Xor.{◌⊕◌}
use Rattle.laws.specs.Lists.{Every}
use Rattle.numbers.specs.declared.Refusal.{Refusal}
use Rattle.paper.specs.Charset.{letter, lower}
use Rattle.paper.specs.Checksum.{polymod, expand, residue, six_symbols, checksum, constant_of}
use Rattle.paper.specs.Bits.{to_bytes, to_symbols}
use Rattle.answers.specs.Rules.{padding_long, padding_not_zero}
use Rattle.answers.specs.Reading.{prefix_part, payload_symbols, version_of, program_of, read_verdict, address_verdict, buffer_after, accepts_parts, accepts_address}
use Rattle.answers.specs.Writing.{written_string, written_address, write_verdict, write_bytes_verdict, write_address_verdict}
use Rattle.checksum.specs.Parameters.{constant_for}
use Rattle.checksum.specs.declared.Checksum.{Checksum}
use Rattle.checksum.proofs.Constants.{constant_lt}
use Rattle.checksum.proofs.Written.{checksum_only}
use Rattle.iter.proofs.Round.{bytes_round, symbols_round}
use Rattle.iter.proofs.Lengths.{symbols_below}
use Rattle.encode.specs.Promises.{Wrote, SymbolsWritten, BytesWritten, AddressWritten}
use Rattle.encode.proofs.Accepted.{SymbolsFit, symbols_accepted, address_accepted}
use Rattle.encode.proofs.Lengths.{written_length, address_length}
use Rattle.encode.proofs.ReadBack.{version_constant_lt, written_prefix, written_symbols, accepted_is_read, accepted_address_is_read}
use Rattle.encode.proofs.Rewritten.{rewritten_is_lower, readdressed_is_lower, reread_is_written, readdressed_is_written}
use Rattle.theorems.specs.ReadBack.{ReadBack}

-- ---- 1. what we write we read back

-- the buffer holds the string, with what lay past it
written_buffer : (verdict : Result ℕ Refusal) (content before : List ℕ) (r : Result ℕ Refusal) (after : List ℕ) (n : ℕ) → Wrote verdict content before r after
    → r ≡ Ok n → after ≡ content ++ drop n before
written_buffer verdict content before r after n kept e =
    kept.buffer ∙ ap (λ (v : Result ℕ Refusal). buffer_after v content before) (sym kept.answer ∙ e)

written_part : (verdict : Result ℕ Refusal) (content before : List ℕ) (r : Result ℕ Refusal) (after : List ℕ) (n : ℕ) → Wrote verdict content before r after
    → r ≡ Ok n → length content ≡ n → take n after ≡ content
written_part verdict content before r after n kept e size =
    ap (take n) (written_buffer verdict content before r after n kept e) ∙ take_at content (drop n before) n size

module _ (kind : Checksum) (prefix symbols before : List ℕ) (r : Result ℕ Refusal) (after : List ℕ) (n : ℕ) where
  -- encode::write_symbols: what it wrote is read, under the same checksum, as what was written
  pub symbols_read_back : SymbolsWritten kind prefix symbols before r after → r ≡ Ok n
      → ReadBack (constant_for kind) prefix symbols (take n after)
  symbols_read_back kept e =
      let accepted : write_verdict (constant_for kind) prefix symbols (length before) ≡ Ok n = sym kept.answer ∙ e in
      let fit = (symbols_accepted (constant_for kind) prefix symbols (length before) n).0 accepted in
      let string : take n after ≡ written_string (constant_for kind) prefix symbols =
      written_part (write_verdict (constant_for kind) prefix symbols (length before)) (written_string (constant_for kind) prefix symbols) before r after n
      kept e (written_length (constant_for kind) prefix symbols ∙ fit.count) in
      record {
        accepted = rw string (accepted_is_read (constant_for kind) prefix symbols (length before) n (constant_lt kind) accepted);
        same_prefix = rw string (written_prefix (constant_for kind) prefix symbols fit.legal fit.small (constant_lt kind));
        same_symbols = rw string (written_symbols (constant_for kind) prefix symbols fit.legal fit.small (constant_lt kind));
      }

-- encode::write_bytes: the bytes of what is read are the bytes that were written
pub bytes_read_back : (kind : Checksum) (prefix bytes before : List ℕ) (r : Result ℕ Refusal) (after : List ℕ) (n : ℕ) → Every (λ v. v < 256) bytes
    → BytesWritten kind prefix bytes before r after → r ≡ Ok n
    → ReadBack (constant_for kind) prefix (to_symbols bytes) (take n after) × (to_bytes (payload_symbols (take n after)) ≡ bytes)
unfolding write_bytes_verdict
bytes_read_back kind prefix bytes before r after n small kept e =
    let as_symbols : SymbolsWritten kind prefix (to_symbols bytes) before r after = record { answer = kept.answer; buffer = kept.buffer } in
    let back = symbols_read_back kind prefix (to_symbols bytes) before r after n as_symbols e in
    (back, ap to_bytes back.same_symbols ∙ bytes_round bytes small)

known_symbol : (v : ℕ) → v ≤ 16 → v < 32
known_symbol v h = omega arith

-- encode::write_address: the address is read as the same version and program, with the same prefix in lower case
pub address_read_back : (prefix : List ℕ) (version : ℕ) (program before : List ℕ) (r : Result ℕ Refusal) (after : List ℕ) (n : ℕ) → Every (λ v. v < 256) program
    → AddressWritten prefix version program before r after → r ≡ Ok n
    → (address_verdict (take n after) ≡ accepts_address version (length program)) × (program_of (take n after) ≡ program)
    × (prefix_part (take n after) ≡ map lower prefix)
unfolding written_address
address_read_back prefix version program before r after n small kept e =
    let accepted : write_address_verdict prefix version program (length before) ≡ Ok n = sym kept.answer ∙ e in
    let fit = (address_accepted prefix version program (length before) n).0 accepted in
    let string : take n after ≡ written_address prefix version program =
    written_part (write_address_verdict prefix version program (length before)) (written_address prefix version program) before r after n kept e
    (address_length prefix version program ∙ fit.count) in
    let back = accepted_address_is_read prefix version program (length before) n small accepted in
    let symbols : Every (λ v. v < 32) (version ∷ to_symbols program) = (known_symbol version fit.known, symbols_below program) in (
      rw string back.0,
      rw string back.1,
      rw string (written_prefix (constant_of version) prefix (version ∷ to_symbols program) fit.legal symbols (version_constant_lt version)),
    )

-- ---- 2. rewriting what we read gives the same string in lower case

pub rewriting_a_string : (kind : Checksum) (s : List ℕ) (m n : ℕ) → read_verdict (constant_for kind) s ≡ accepts_parts m n
    → written_string (constant_for kind) (prefix_part s) (payload_symbols s) ≡ map lower s
rewriting_a_string kind s m n e = rewritten_is_lower (constant_for kind) s m n (constant_lt kind) e

pub rewriting_an_address : (s : List ℕ) (v n : ℕ) → address_verdict s ≡ accepts_address v n
    → written_address (prefix_part s) (version_of s) (program_of s) ≡ map lower s
rewriting_an_address = readdressed_is_lower

-- and the writers give it: encode::write_symbols and encode::write_address accept what was read wherever the room holds the string, and the buffer then
-- holds it in lower case, with what lay past it
pub rewrites_a_string : (kind : Checksum) (s : List ℕ) (m n : ℕ) → read_verdict (constant_for kind) s ≡ accepts_parts m n
    → (before : List ℕ) (r : Result ℕ Refusal) (after : List ℕ) → length s ≤ length before
    → SymbolsWritten kind (prefix_part s) (payload_symbols s) before r after
    → (r ≡ Ok (length s)) × (after ≡ map lower s ++ drop (length s) before)
rewrites_a_string kind s m n e before r after room kept =
    let answer : r ≡ Ok (length s) = kept.answer ∙ reread_is_written (constant_for kind) s m n (length before) e room in (
      answer,
      written_buffer _ (written_string (constant_for kind) (prefix_part s) (payload_symbols s)) before r after (length s) kept answer
          ∙ ap (λ (l : List ℕ). l ++ drop (length s) before) (rewriting_a_string kind s m n e),
    )

pub rewrites_an_address : (s : List ℕ) (v n : ℕ) → address_verdict s ≡ accepts_address v n
    → (before : List ℕ) (r : Result ℕ Refusal) (after : List ℕ) → length s ≤ length before
    → AddressWritten (prefix_part s) (version_of s) (program_of s) before r after
    → (r ≡ Ok (length s)) × (after ≡ map lower s ++ drop (length s) before)
rewrites_an_address s v n e before r after room kept =
    let answer : r ≡ Ok (length s) = kept.answer ∙ readdressed_is_written s v n (length before) e room in (
      answer,
      written_buffer _ (written_address (prefix_part s) (version_of s) (program_of s)) before r after (length s) kept answer
          ∙ ap (λ (l : List ℕ). l ++ drop (length s) before) (rewriting_an_address s v n e),
    )

-- what the writer of symbols asks, of a string that was read
read_fits : (kind : Checksum) (s : List ℕ) (m n : ℕ) → read_verdict (constant_for kind) s ≡ accepts_parts m n
    → SymbolsFit (prefix_part s) (payload_symbols s) (length s) (length s)
read_fits kind s m n e =
    (symbols_accepted (constant_for kind) (prefix_part s) (payload_symbols s) (length s) (length s)).0
    (reread_is_written (constant_for kind) s m n (length s) e (le_refl (length s)))

-- through bytes: exactly where no leftover bits were dropped but few and zero
pub rewriting_bytes : (kind : Checksum) (s : List ℕ) (m n : ℕ) → read_verdict (constant_for kind) s ≡ accepts_parts m n
    → (written_string (constant_for kind) (prefix_part s) (to_symbols (to_bytes (payload_symbols s))) ≡ map lower s)
    ↔ ((padding_long (payload_symbols s) ≡ false) × (padding_not_zero (payload_symbols s) ≡ false))
rewriting_bytes kind s m n e = (only, again)
  where
    fit : SymbolsFit (prefix_part s) (payload_symbols s) (length s) (length s)
    fit = read_fits kind s m n e

    again : (padding_long (payload_symbols s) ≡ false) × (padding_not_zero (payload_symbols s) ≡ false)
        → written_string (constant_for kind) (prefix_part s) (to_symbols (to_bytes (payload_symbols s))) ≡ map lower s
    again h =
        ap (written_string (constant_for kind) (prefix_part s)) ((symbols_round (payload_symbols s) fit.small).1 h)
        ∙ rewriting_a_string kind s m n e

    only : written_string (constant_for kind) (prefix_part s) (to_symbols (to_bytes (payload_symbols s))) ≡ map lower s
        → (padding_long (payload_symbols s) ≡ false) × (padding_not_zero (payload_symbols s) ≡ false)
    only same =
        (symbols_round (payload_symbols s) fit.small).0
        (sym (written_symbols (constant_for kind) (prefix_part s) (to_symbols (to_bytes (payload_symbols s))) fit.legal
        (symbols_below (to_bytes (payload_symbols s))) (constant_lt kind))
        ∙ ap payload_symbols (same ∙ sym (rewriting_a_string kind s m n e))
        ∙ written_symbols (constant_for kind) (prefix_part s) (payload_symbols s) fit.legal fit.small (constant_lt kind))

-- ---- 3. so a prefix, a checksum and data have one string, case aside

written_by_lower : (constant : ℕ) (p q symbols : List ℕ) → map lower p ≡ map lower q → written_string constant p symbols ≡ written_string constant q symbols
unfolding written_string checksum residue
written_by_lower constant p q symbols e =
    ap (λ (l : List ℕ). l ++ 49 ∷ map letter (symbols ++ six_symbols (polymod 1 (expand l ++ (symbols ++ replicate 6 0)) ⊕ constant))) e

pub one_string : (kind : Checksum) (s t : List ℕ) (m n m' n' : ℕ) → read_verdict (constant_for kind) s ≡ accepts_parts m n
    → read_verdict (constant_for kind) t ≡ accepts_parts m' n'
    → map lower (prefix_part s) ≡ map lower (prefix_part t) → payload_symbols s ≡ payload_symbols t → map lower s ≡ map lower t
one_string kind s t m n m' n' es et prefix symbols =
    sym (rewriting_a_string kind s m n es) ∙ written_by_lower (constant_for kind) (prefix_part s) (prefix_part t) (payload_symbols s) prefix
    ∙ ap (written_string (constant_for kind) (prefix_part t)) symbols ∙ rewriting_a_string kind t m' n' et

-- the written address is the only accepted lower-case string that means this prefix, version and program
pub only_address : (s prefix : List ℕ) (v n : ℕ) (program : List ℕ) → address_verdict s ≡ accepts_address v n → map lower s ≡ s
    → map lower (prefix_part s) ≡ map lower prefix → program_of s ≡ program → s ≡ written_address prefix (version_of s) program
unfolding written_address
only_address s prefix v n program e lower-case same_prefix same-program =
    sym lower-case ∙ sym (rewriting_an_address s v n e)
    ∙ written_by_lower (constant_of (version_of s)) (prefix_part s) prefix (version_of s ∷ to_symbols (program_of s)) same_prefix
    ∙ ap (λ (p : List ℕ). written_string (constant_of (version_of s)) prefix (version_of s ∷ to_symbols p)) same-program

-- ---- 4. the six symbols are the only ones that are accepted after this prefix and data

pub only_six : (kind : Checksum) (prefix symbols six : List ℕ) → length six ≡ 6 → Every (λ v. v < 32) six
    → (residue prefix (symbols ++ six) ≡ constant_for kind) ↔ (six ≡ checksum (constant_for kind) prefix symbols)
only_six kind prefix symbols six l small = checksum_only (constant_for kind) prefix symbols six (constant_lt kind) l small
