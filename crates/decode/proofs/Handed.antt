-- What the parts are that are handed back, and where they lie: of a valid string its own prefix and data part; of any string a part of it.
use mathlib.Core.Path.{◌≡◌, refl, sym, ap, ◌∙◌}
use mathlib.Core.List.{List, []}
use Prim.Native.Nat.{ℕ, ◌+◌, ◌-◌}
use native.Mathlib.Omega.{arith}
use lib.ListN.{length, take, drop}
use Rattle.laws.specs.Text.{bytes}
use Rattle.paper.specs.Valid.{ValidString}
use Rattle.answers.specs.Accepted.{ReadAs}
use Rattle.answers.specs.Reading.{prefix_part, payload, read_verdict, part_of, accepts_parts}
use Rattle.answers.proofs.Computing.{computing}
use Rattle.answers.proofs.Exact.{valid_data, valid_prefix, reads_exactly}
use Rattle.checksum.specs.Parameters.{constant_for}
use Rattle.checksum.specs.declared.Checksum.{Checksum}
use Rattle.checksum.specs.declared.Checksum.TheVariants.{Bech32}
use Rattle.decode.specs.Places.{Place, further, start_of, PartOf}
use Rattle.decode.specs.Promises.{DataPartGiven, PrefixPartGiven}
use Rattle.decode.proofs.Generic.{read_length, read_prefix, read_prefix_length, read_payload, read_payload_length}
use Rattle.numbers.specs.declared.Refusal.{Refusal}
use Rattle.answers.specs.declared.Parts.{Parts}
use Rattle.std.specs.Prelude.{Result, Ok, Err}

-- ---- of a valid string

module _ (checksum : Checksum) (s prefix part : List ℕ) (valid : ValidString (constant_for checksum) 1023 s prefix part) where
  accepted : read_verdict (constant_for checksum) s ≡ accepts_parts (length prefix) (length part - 6)
  accepted = (reads_exactly (constant_for checksum) s (length prefix) (length part - 6)).1 shape
    where
      shape : ReadAs (constant_for checksum) s (length prefix) (length part - 6)
      shape =
          let enough = valid.data_not_short in
          record { prefix = prefix; part = part; valid = valid; prefix_length = refl; part_length = omega arith }

  -- decode::data_part: the data part without its last six characters, which starts after the prefix and the separator
  pub data_part_of_valid : (lent at : Place) (r : List ℕ) → DataPartGiven checksum lent s at r
      → (r ≡ take (length part - 6) part) × (at ≡ further lent (length prefix + 1))
  unfolding payload
  data_part_of_valid lent at r kept = (
    kept.content ∙ ap (λ (v : Result Parts Refusal). part_of v (payload s)) accepted
        ∙ ap (λ (d : List ℕ). take (length d - 6) d) (valid_data (constant_for checksum) 1023 s prefix part valid),
    kept.place ∙ ap (λ (v : Result Parts Refusal). further lent (start_of v (length (prefix_part s) + 1))) accepted
        ∙ ap (λ (p : List ℕ). further lent (length p + 1)) (valid_prefix (constant_for checksum) 1023 s prefix part valid),
  )

  -- decode::prefix_part: the prefix, which starts where the string does
  pub prefix_part_of_valid : (lent at : Place) (r : List ℕ) → PrefixPartGiven checksum lent s at r → (r ≡ prefix) × (at ≡ lent)
  prefix_part_of_valid lent at r kept = (
    kept.content ∙ ap (λ (v : Result Parts Refusal). part_of v (prefix_part s)) accepted ∙ valid_prefix (constant_for checksum) 1023 s prefix part valid,
    kept.place,
  )

-- ---- of any string

nothing : (lent : Place) (s : List ℕ) (at : Place) (r : List ℕ) → at ≡ further lent 0 → r ≡ [] → PartOf lent s at r
nothing lent s at r there none =
    let zero_long : length r ≡ 0 = ap length none in
    record { offset = 0; there = there; inside = omega arith; bytes = rw none }

pub data_part_lies : (checksum : Checksum) (lent : Place) (s : List ℕ) (at : Place) (r : List ℕ) → DataPartGiven checksum lent s at r → PartOf lent s at r
data_part_lies checksum lent s at r kept = by_verdict (read_verdict (constant_for checksum) s) refl kept.content kept.place
  where
    by_verdict : (v : Result Parts Refusal) → v ≡ read_verdict (constant_for checksum) s → r ≡ part_of v (payload s)
        → at ≡ further lent (start_of v (length (prefix_part s) + 1)) → PartOf lent s at r
    by_verdict (Err refusal) e content place = nothing lent s at r place content
    by_verdict (Ok p) e content place =
        let long : length r ≡ p.symbols = ap length content ∙ sym (read_payload_length (constant_for checksum) s p.prefix p.symbols e) in
        record {
          offset = p.prefix + 1;
          there = place ∙ ap (λ (k : ℕ). further lent (k + 1)) (sym (read_prefix_length (constant_for checksum) s p.prefix p.symbols e));
          inside = omega (arith, read_length (constant_for checksum) s p.prefix p.symbols e);
          bytes = content ∙ sym (read_payload (constant_for checksum) s p.prefix p.symbols e) ∙ ap (λ (k : ℕ). take k (drop (p.prefix + 1) s)) (sym long);
        }

pub prefix_part_lies : (checksum : Checksum) (lent : Place) (s : List ℕ) (at : Place) (r : List ℕ) → PrefixPartGiven checksum lent s at r → PartOf lent s at r
prefix_part_lies checksum lent s at r kept = by_verdict (read_verdict (constant_for checksum) s) refl kept.content
  where
    start : at ≡ further lent 0
    start = kept.place ∙ ap (λ (k : ℕ). (lent.0, k)) (let e : lent.1 ≡ 0 + lent.1 = omega arith in e)

    by_verdict : (v : Result Parts Refusal) → v ≡ read_verdict (constant_for checksum) s → r ≡ part_of v (prefix_part s) → PartOf lent s at r
    by_verdict (Err refusal) e content = nothing lent s at r start content
    by_verdict (Ok p) e content =
        let long : length r ≡ p.prefix = ap length content ∙ sym (read_prefix_length (constant_for checksum) s p.prefix p.symbols e) in
        record {
          offset = 0;
          there = start;
          inside = omega (arith, read_length (constant_for checksum) s p.prefix p.symbols e);
          bytes = content ∙ sym (read_prefix (constant_for checksum) s p.prefix p.symbols e) ∙ ap (λ (k : ℕ). take k s) (sym long);
        }

-- ---- document 01's first case, 7 bytes into the block 3: the parts and their places

pub data_part_there : DataPartGiven Bech32 (3, 7) (bytes "bc1qar0srrr7xfkvy5l643lydnw9re59gtzzwf5mdq") (3, 10) (bytes "qar0srrr7xfkvy5l643lydnw9re59gtzz")
unfolding computing
data_part_there = record { content = refl; place = refl }

pub prefix_part_there : PrefixPartGiven Bech32 (3, 7) (bytes "bc1qar0srrr7xfkvy5l643lydnw9re59gtzzwf5mdq") (3, 7) (bytes "bc")
unfolding computing
prefix_part_there = record { content = refl; place = refl }
