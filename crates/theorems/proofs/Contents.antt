-- A valid string and what it holds, and what generic reading says of it: accepted exactly if it holds something, with the room or without.
use mathlib.Core.Path.{◌≡◌, refl, sym, ap, ◌∙◌, subst}
use mathlib.Core.Logic.{◌↔◌}
use mathlib.Core.List.{List, [], ◌∷◌, ◌++◌}
use Prim.Native.Nat.{ℕ, ◌+◌, ◌-◌, ◌≤◌, ◌<◌}
use native.Mathlib.Decide.{dec_le}
use native.Mathlib.Omega.{arith}
use lib.ListN.{length, take, drop, length-append, length-drop, take-append-drop}
use lib.Seq.{take_at}
use borrow.Author.Tests.{le-ltb, lt-ltb}
use Rattle.std.specs.Prelude.{Result, Ok, Err}
use Rattle.numbers.specs.declared.Refusal.{Refusal}
use Rattle.numbers.specs.declared.Refusal.TheVariants.{RoomSmall}
use Rattle.numbers.proofs.Numbers.{ok_injective, err_apart}
use Rattle.paper.specs.Valid.{ValidString}
use Rattle.answers.specs.Order.{◌gives◌, first_of}
use Rattle.answers.specs.Reading.{data_part, prefix_part, payload, room_small, reading_rules, read_verdict, part_of, as_parts, accepts_parts}
use Rattle.answers.proofs.Exact.{reads_exactly, valid_data, valid_prefix}
use Rattle.answers.specs.declared.Parts.{Parts}
use Rattle.decode.proofs.Stages.{rest_decides, stage_refuses}
use Rattle.theorems.specs.Holds.{Holds}
use Rattle.theorems.proofs.Detection.{reading_rules_lem}

module _ {constant : ℕ} {s prefix part : List ℕ} (h : Holds constant s prefix part) where
  pub held_payload : payload s ≡ part
  unfolding payload
  held_payload =
      rw (valid_data constant 1023 s prefix (part ++ h.check) h.valid)
      (take_at part h.check (length (part ++ h.check) - 6) (omega (arith, length-append part h.check, h.six)))

  pub held_read : read_verdict constant s ≡ accepts_parts (length prefix) (length part)
  held_read =
      (reads_exactly constant s (length prefix) (length part)).1
      (record {
        prefix = prefix;
        part = part ++ h.check;
        valid = h.valid;
        prefix_length = refl;
        part_length = length-append part h.check ∙ ap (λ (n : ℕ). length part + n) h.six;
      })

pub read_held : (constant : ℕ) (s : List ℕ) (m n : ℕ) → read_verdict constant s ≡ accepts_parts m n → Holds constant s (prefix_part s) (payload s)
unfolding payload
read_held constant s m n e =
    let r = (reads_exactly constant s m n).0 e in
    let whole : r.part ≡ take (length (data_part s) - 6) (data_part s) ++ drop (length (data_part s) - 6) (data_part s) =
    sym (valid_data constant 1023 s r.prefix r.part r.valid) ∙ sym (take-append-drop (length (data_part s) - 6) (data_part s)) in
    let enough : 6 ≤ length r.part = r.valid.data_not_short in
    let size : length (data_part s) ≡ length r.part = ap length (valid_data constant 1023 s r.prefix r.part r.valid) in
    record {
      check = drop (length (data_part s) - 6) (data_part s);
      six = length-drop (length (data_part s) - 6) (data_part s) ∙ omega arith;
      valid =
          subst (λ (d : List ℕ). ValidString constant 1023 s (prefix_part s) d) whole
          (subst (λ (p : List ℕ). ValidString constant 1023 s p r.part) (sym (valid_prefix constant 1023 s r.prefix r.part r.valid)) r.valid);
    }

-- ---- the parts that are handed back

pub no_part : (constant : ℕ) (s : List ℕ) → ((prefix part : List ℕ) → Holds constant s prefix part → ⊥) → (x : List ℕ)
    → part_of (read_verdict constant s) x ≡ []
no_part constant s none x = by_reading (read_verdict constant s) refl
  where
    by_reading : (r : Result Parts Refusal) → read_verdict constant s ≡ r → part_of r x ≡ []
    by_reading (Ok parts) e = absurd (none (prefix_part s) (payload s) (read_held constant s parts.prefix parts.symbols e))
    by_reading (Err k) e = refl

-- ---- a content that is written to a lent buffer

module _ (constant : ℕ) (s content : List ℕ) (room : ℕ) where
  abbrev pub into : Result ℕ Refusal
  into = first_of (reading_rules constant s ++ room_small room content gives RoomSmall ∷ []) (length content)

  pub into_refused : (k : Refusal) → read_verdict constant s ≡ Err k → into ≡ Err k
  unfolding read_verdict
  into_refused k e =
      sym (stage_refuses (as_parts (length (prefix_part s)) (length (payload s))) (length content)
      (reading_rules constant s) (room_small room content gives RoomSmall ∷ []) k (sym e))

  into_rest : (m n : ℕ) → read_verdict constant s ≡ accepts_parts m n
      → first_of (room_small room content gives RoomSmall ∷ []) (length content) ≡ into
  into_rest m n e =
      rest_decides (reading_rules constant s) (room_small room content gives RoomSmall ∷ []) (length content)
      (reading_rules_lem constant s m n e)

  pub into_fits : (m n : ℕ) → read_verdict constant s ≡ accepts_parts m n → length content ≤ room → into ≡ Ok (length content)
  unfolding room_small
  into_fits m n e h = sym (into_rest m n e) ∙ rw (le-ltb room (length content) h) refl

  pub into_small : (m n : ℕ) → read_verdict constant s ≡ accepts_parts m n → room < length content → into ≡ Err RoomSmall
  unfolding room_small
  into_small m n e h = sym (into_rest m n e) ∙ rw (lt-ltb room (length content) h) refl

-- the content is made from the data part: accepted exactly if the string holds one that fits the room
module _ (constant : ℕ) (s : List ℕ) (f : List ℕ → List ℕ) (room : ℕ) where
  into_holds : (n : ℕ) → into constant s (f (payload s)) room ≡ Ok n
      → ((prefix : List ℕ) × (part : List ℕ) × Holds constant s prefix part × (length (f part) ≡ n)) × (n ≤ room)
  into_holds n e = by_reading (read_verdict constant s) refl
    where
      by_room : (m k : ℕ) → read_verdict constant s ≡ accepts_parts m k → Dec (length (f (payload s)) ≤ room)
          → ((prefix : List ℕ) × (part : List ℕ) × Holds constant s prefix part × (length (f part) ≡ n)) × (n ≤ room)
      by_room m k accepted (yes fits) =
          let size : length (f (payload s)) ≡ n =
          ok_injective (length (f (payload s))) n (sym (into_fits constant s (f (payload s)) room m k accepted fits) ∙ e) in
          ((prefix_part s, payload s, read_held constant s m k accepted, size), omega arith)
      by_room m k accepted (no small) =
          absurd (err_apart n RoomSmall (sym (into_small constant s (f (payload s)) room m k accepted (omega (arith, small))) ∙ e))

      by_reading : (r : Result Parts Refusal) → read_verdict constant s ≡ r
          → ((prefix : List ℕ) × (part : List ℕ) × Holds constant s prefix part × (length (f part) ≡ n)) × (n ≤ room)
      by_reading (Ok parts) accepted = by_room parts.prefix parts.symbols accepted (dec_le (length (f (payload s))) room)
      by_reading (Err k) refused = absurd (err_apart n k (sym (into_refused constant s (f (payload s)) room k refused) ∙ e))

  pub held_into : {prefix part : List ℕ} → Holds constant s prefix part → length (f part) ≤ room
      → into constant s (f (payload s)) room ≡ Ok (length (f part))
  held_into {prefix = prefix} {part = part} h fits =
      into_fits constant s (f (payload s)) room (length prefix) (length part) (held_read h) (rw (held_payload h) fits)
      ∙ ap (λ (l : List ℕ). Ok (length (f l))) (held_payload h)

  pub into_exactly : (n : ℕ) → (into constant s (f (payload s)) room ≡ Ok n)
      ↔ (((prefix : List ℕ) × (part : List ℕ) × Holds constant s prefix part × (length (f part) ≡ n)) × (n ≤ room))
  into_exactly n = (
    into_holds n,
    (λ x. held_into x.0.2 (let size : length (f x.0.1) ≡ n = x.0.3 in let fits : n ≤ room = x.1 in omega arith) ∙ ap Ok x.0.3),
  )
