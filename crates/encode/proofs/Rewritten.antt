-- What was read is written again as the same string in lower case: the six symbols of the checksum are the only ones that are accepted, a
-- character is the letter of its symbol, and the padding of an address is what regrouping fills up. The writers accept it, too.
use mathlib.Core.Path.{◌≡◌, refl, sym, ap, ap₂, ◌∙◌, subst}
use mathlib.Core.Bool.{Bool, true, false, true≢false, not, ◌&&◌, ◌||◌}
use mathlib.Core.List.{List, [], ◌∷◌, ◌++◌, map, map-append}
use Prim.Native.Nat.{ℕ, ◌+◌, ◌-◌, ◌^◌, ◌≤◌, ◌<◌}
use native.Mathlib.Omega.{arith}
use borrow.Author.Tests.{le-ltb}
use lib.Dec.{eqb}
use lib.ListN.{length, take, drop, length-append, length-map, length-drop, take-append-drop}
use lib.Seq.{take_at, length-take-le}
use Rattle.laws.specs.Lists.{any, Every}
use Rattle.laws.proofs.Lists.{none_any, map_take}
use Rattle.paper.specs.Charset.{lower, letter, symbol, is_upper, is_lower}
use Rattle.paper.specs.Checksum.{residue, checksum, constant_of}
use Rattle.paper.specs.Bits.{to_symbols, padding}
use Rattle.paper.specs.Valid.{ValidString, ValidAddress}
use Rattle.answers.specs.Rules.{padding_long, padding_not_zero}
use Rattle.answers.specs.Reading.{prefix_part, payload, payload_symbols, version_of, program_of, read_verdict, address_verdict}
use Rattle.answers.specs.Writing.{written_string, written_address, write_verdict, write_address_verdict}
use Rattle.answers.proofs.Exact.{valid_data, valid_prefix, valid_version, valid_program, reads_exactly, address_exactly, bit_zero}
use Rattle.checksum.proofs.Written.{checksum_only}
use Rattle.hrp.specs.Prefix.{Legal}
use Rattle.iter.proofs.Groups.{every_take, every_drop}
use Rattle.iter.proofs.Round.{symbols_round}
use Rattle.encode.proofs.Accepted.{symbols_accepted, address_accepted}
use Rattle.encode.proofs.Letters.{letters_symbols}
use Rattle.encode.proofs.ReadBack.{version_constant_lt}
use Rattle.answers.specs.Reading.{accepts_parts, accepts_address}
use Rattle.std.specs.Prelude.{Ok}

symbols_below : (d : List ℕ) → Every (λ c. symbol c < 32) d → Every (λ v. v < 32) (map symbol d)
symbols_below [] p = tt
symbols_below (c ∷ d) p = (p.0, symbols_below d p.1)

-- ---- a data part of six symbols or more: what stands before the checksum, and the checksum

module _ (d : List ℕ) (long : 6 ≤ length d) where
  front : List ℕ
  front = take (length d - 6) d

  six : List ℕ
  six = drop (length d - 6) d

  joined : d ≡ front ++ six
  unfolding front six
  joined = sym (take-append-drop (length d - 6) d)

  six_length : length (map symbol six) ≡ 6
  unfolding six
  six_length = length-map (drop (length d - 6) d) symbol ∙ length-drop (length d - 6) d ∙ omega arith

-- a valid string, from its symbols before the checksum
module _ (constant limit : ℕ) (s p d : List ℕ) (k : constant < 2 ^ 30) (v : ValidString constant limit s p d) where
  abbrev payload_of : List ℕ
  payload_of = map symbol (take (length d - 6) d)

  data_again : payload_of ++ checksum constant p payload_of ≡ map symbol d
  unfolding front six
  data_again =
      ap (λ (c : List ℕ). payload_of ++ c) (sym only)
      ∙ sym (map-append symbol (front d v.data_not_short) (six d v.data_not_short))
      ∙ ap (map symbol) (sym (joined d v.data_not_short))
    where
      only : map symbol (six d v.data_not_short) ≡ checksum constant p payload_of
      only =
          (checksum_only constant p payload_of (map symbol (six d v.data_not_short)) k (six_length d v.data_not_short)
          (symbols_below (drop (length d - 6) d) (every_drop (λ c. symbol c < 32) (length d - 6) d v.data_symbols))).0
          (ap (residue p) (sym (map-append symbol (front d v.data_not_short) (six d v.data_not_short)) ∙ ap (map symbol) (sym (joined d v.data_not_short)))
          ∙ v.checked)

  pub valid_again : written_string constant p payload_of ≡ map lower s
  unfolding written_string
  valid_again =
      ap (λ (l : List ℕ). map lower p ++ 49 ∷ l) (ap (map letter) data_again ∙ letters_symbols d v.data_symbols)
      ∙ sym (ap (map lower) v.parts ∙ map-append lower p (49 ∷ d))

-- ---- strings

-- What generic reading accepts, written again from its prefix and its symbols, is the string in lower case.
pub rewritten_is_lower : (constant : ℕ) (s : List ℕ) (m n : ℕ) → constant < 2 ^ 30 → read_verdict constant s ≡ accepts_parts m n
    → written_string constant (prefix_part s) (payload_symbols s) ≡ map lower s
unfolding payload_symbols payload
rewritten_is_lower constant s m n k e =
    let r = (reads_exactly constant s m n).0 e in
    ap₂ (λ (p d : List ℕ). written_string constant p (map symbol (take (length d - 6) d)))
    (valid_prefix constant 1023 s r.prefix r.part r.valid) (valid_data constant 1023 s r.prefix r.part r.valid)
    ∙ valid_again constant 1023 s r.prefix r.part k r.valid

-- ---- addresses

-- the program's symbols are those of the program's bytes
module _ (s : List ℕ) (v : ℕ) (program : List ℕ) (a : ValidAddress s v program) where
  whole : Every (λ v. v < 32) (map symbol a.data_part)
  whole = symbols_below a.data_part a.string.data_symbols

  symbols_small : Every (λ v. v < 32) a.symbols
  symbols_small =
      subst (Every (λ v. v < 32)) (take_at a.symbols a.check (length a.symbols) refl)
      (every_take (λ v. v < 32) (length a.symbols) (a.symbols ++ a.check) (subst (Every (λ v. v < 32)) a.parts whole).1)

  symbols_again : to_symbols program ≡ a.symbols
  unfolding padding_long padding_not_zero
  symbols_again =
      ap to_symbols a.means
      ∙ (symbols_round a.symbols symbols_small).1 (
        le-ltb 4 (length (padding a.symbols)) a.padding_short,
        none_any (λ b. not (eqb b 0)) (λ b. b ≡ 0) bit_zero (padding a.symbols) a.padding_zero,
      )

  -- what stands before the checksum is the version and these symbols
  payload_again : v ∷ to_symbols program ≡ map symbol (take (length a.data_part - 6) a.data_part)
  payload_again =
      ap (λ (l : List ℕ). v ∷ l) symbols_again
      ∙ sym (map_take symbol (length a.data_part - 6) a.data_part
      ∙ ap (take (length a.data_part - 6)) a.parts
      ∙ take_at (v ∷ a.symbols) a.check (length a.data_part - 6) count)
    where
      count : length (v ∷ a.symbols) ≡ length a.data_part - 6
      count = omega (arith, length-map a.data_part symbol, ap length a.parts, length-append a.symbols a.check, a.six)

  pub address_again : written_address a.prefix v program ≡ map lower s
  unfolding written_address
  address_again =
      ap (written_string (constant_of v) a.prefix) payload_again
      ∙ valid_again (constant_of v) 90 s a.prefix a.data_part (version_constant_lt v) a.string

-- What segwit reading accepts, written again from its prefix, version and program, is the address in lower case.
pub readdressed_is_lower : (s : List ℕ) (v n : ℕ) → address_verdict s ≡ accepts_address v n
    → written_address (prefix_part s) (version_of s) (program_of s) ≡ map lower s
readdressed_is_lower s v n e =
    let r = (address_exactly s v n).0 e in
    let a = r.valid in
    ap (λ (p : List ℕ). written_address p (version_of s) (program_of s)) (valid_prefix (constant_of v) 90 s a.prefix a.data_part a.string)
    ∙ ap₂ (written_address a.prefix) (valid_version s v r.program a) (valid_program s v r.program a)
    ∙ address_again s v r.program a

-- ---- and the writers accept it, where the room holds the string

one_more : (q : ℕ → Bool) (here : Bool) (p d : List ℕ) → (any q p ≡ true → any q (p ++ d) ≡ true) → here || any q p ≡ true → here || any q (p ++ d) ≡ true
one_more q true p d later e = refl
one_more q false p d later e = later e

any_in_front : (q : ℕ → Bool) (p d : List ℕ) → any q p ≡ true → any q (p ++ d) ≡ true
any_in_front q [] d e = absurd (true≢false (sym e))
any_in_front q (c ∷ p) d e = one_more q (q c) p d (any_in_front q p d) e

-- a part of a string of one case has one case
one_case_in_front : (p d : List ℕ) → any is_upper (p ++ d) && any is_lower (p ++ d) ≡ false → any is_upper p && any is_lower p ≡ false
one_case_in_front p d e = by (any is_upper p) refl (any is_lower p) refl
  where
    by : (u : Bool) → any is_upper p ≡ u → (l : Bool) → any is_lower p ≡ l → u && l ≡ false
    by false f l g = refl
    by true f false g = refl
    by true f true g = rw (any_in_front is_upper p d f, any_in_front is_lower p d g) at e

valid_legal : (constant limit : ℕ) (s p d : List ℕ) → ValidString constant limit s p d → Legal p
valid_legal constant limit s p d v =
    record {
      not_empty = v.prefix_not_empty;
      not_long = v.prefix_not_long;
      printable = v.prefix_printable;
      one_case = one_case_in_front p (49 ∷ d) (subst (λ (l : List ℕ). any is_upper l && any is_lower l ≡ false) v.parts v.one_case);
    }

-- the lengths of the parts
valid_length : (constant limit : ℕ) (s p d : List ℕ) → ValidString constant limit s p d
    → length p + 7 + length (map symbol (take (length d - 6) d)) ≡ length s
valid_length constant limit s p d v =
    let six : 6 ≤ length d = v.data_not_short in
    omega (
      arith,
      length-map (take (length d - 6) d) symbol,
      length-take-le (length d - 6) d (omega arith),
      ap length v.parts,
      length-append p (49 ∷ d),
    )

pub reread_is_written : (constant : ℕ) (s : List ℕ) (m n room : ℕ) → read_verdict constant s ≡ accepts_parts m n → length s ≤ room
    → write_verdict constant (prefix_part s) (payload_symbols s) room ≡ Ok (length s)
unfolding payload_symbols payload
reread_is_written constant s m n room e h =
    let r = (reads_exactly constant s m n).0 e in
    let v = r.valid in
    let size = valid_length constant 1023 s r.prefix r.part v in
    ap₂ (λ (p d : List ℕ). write_verdict constant p (map symbol (take (length d - 6) d)) room)
    (valid_prefix constant 1023 s r.prefix r.part v) (valid_data constant 1023 s r.prefix r.part v)
    ∙ (symbols_accepted constant r.prefix (map symbol (take (length r.part - 6) r.part)) room (length s)).1
    (record {
      legal = valid_legal constant 1023 s r.prefix r.part v;
      small = symbols_below (take (length r.part - 6) r.part) (every_take (λ c. symbol c < 32) (length r.part - 6) r.part v.data_symbols);
      not_long = omega (arith, size, v.not_long);
      enough = omega (arith, size);
      count = size;
    })

pub readdressed_is_written : (s : List ℕ) (v n room : ℕ) → address_verdict s ≡ accepts_address v n → length s ≤ room
    → write_address_verdict (prefix_part s) (version_of s) (program_of s) room ≡ Ok (length s)
readdressed_is_written s v n room e h =
    let r = (address_exactly s v n).0 e in
    let a = r.valid in
    let again = payload_again s v r.program a in
    let size : length a.prefix + 7 + (1 + length (to_symbols r.program)) ≡ length s =
    omega (arith, ap length again, valid_length (constant_of v) 90 s a.prefix a.data_part a.string) in
    ap (λ (p : List ℕ). write_address_verdict p (version_of s) (program_of s) room) (valid_prefix (constant_of v) 90 s a.prefix a.data_part a.string)
    ∙ ap₂ (λ (w : ℕ) (p : List ℕ). write_address_verdict a.prefix w p room) (valid_version s v r.program a) (valid_program s v r.program a)
    ∙ (address_accepted a.prefix v r.program room (length s)).1
    (record {
      legal = valid_legal (constant_of v) 90 s a.prefix a.data_part a.string;
      known = a.version_known;
      size = record { size = a.size; size_of_version_0 = a.size_of_version_0 };
      not_long = omega (arith, size, a.string.not_long);
      enough = omega (arith, size);
      count = size;
    })
