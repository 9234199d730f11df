-- One turn of the loop against the definition, the digits of an answer, and the ways in which a call ends: each law is over plain variables
-- and is cited at the place of the code that it speaks of.
use mathlib.Core.Path.{◌≡◌, refl, sym, ap, ◌∙◌, subst}
use mathlib.Core.Bool.{Bool, true, false, ◌&&◌, false≢true}
use mathlib.Core.List.{List, [], ◌∷◌, ◌++◌}
use Prim.Native.Nat.{ℕ, ◌+◌, ◌-◌, ◌/◌, ◌%◌, ◌≤◌, ◌<◌}
use native.Mathlib.Numerals.{add-one}
use native.Mathlib.Omega.{arith}
use lib.Dec.{eqb, ltb}
use lib.ListN.{length, take, drop, get_or, drop_of_length-le}
use lib.Seq.{drop-cons, sets}
use borrow.Author.Tests.{lt-ltb, le-ltb, eq-eqb, ne_eqb}
use Rattle.laws.specs.Pick.{pick}
use Rattle.answers.specs.Reading.{address_verdict}
use Rattle.numbers.specs.Numbers.{number_in}
use Rattle.numbers.proofs.Numbers.{err_apart, ok_injective}
use Rattle.lines.specs.Lines.{decimal, answer_to}
use Rattle.lines.specs.Feeding.{Standing, standing, answered, kept, line_with, count_with, answer_length, full, passed, fed_from, kept_count, start, stuck, fed, fed_refused, finished, finish_refused}
use Rattle.lines.specs.Promises.{as_fed, told, WentOn, WasFed, WasFinished}
use Rattle.lines.specs.declared.Fed.{Fed}
use Rattle.numbers.specs.declared.Refusal.TheVariants.{RoomSmall}
use Rattle.std.specs.Prelude.{Ok, Err}

-- ---- digits

-- an answer has so many bytes
pub digits_length : (n : ℕ) → length (decimal n ++ 10 ∷ []) ≡ answer_length n
digits_length n = by (ltb n 10) (48 + n) (48 + n / 10) (48 + n % 10)
  where
    by : (b : Bool) (x y z : ℕ) → length (pick b (x ∷ []) (y ∷ z ∷ []) ++ 10 ∷ []) ≡ pick b 2 3
    by true x y z = refl
    by false x y z = refl

pub answer_size : (l : List ℕ) → length (answer_to l) ≡ answer_length (number_in (address_verdict l))
unfolding answer_to
answer_size l = digits_length (number_in (address_verdict l))

-- the digits of a line's number are its answer
pub answer_put : (l out after : List ℕ) (at n r : ℕ) → n ≡ number_in (address_verdict l)
    → (r ≡ at + length (decimal n ++ 10 ∷ [])) × (after ≡ sets out at (decimal n ++ 10 ∷ []))
    → (r ≡ at + length (answer_to l)) × (after ≡ sets out at (answer_to l))
unfolding answer_to
answer_put l out after at n r e h = subst (λ (m : ℕ). (r ≡ at + length (decimal m ++ 10 ∷ [])) × (after ≡ sets out at (decimal m ++ 10 ∷ []))) e h

-- the code's test of the room
pub length_told : (l : List ℕ) (n size : ℕ) → n ≡ number_in (address_verdict l) → size ≡ answer_length n → size ≡ length (answer_to l)
length_told l n size e f = f ∙ ap answer_length e ∙ sym (answer_size l)

-- ---- a turn of the loop: the work that is left gives what the whole gives

module _ (s line : List ℕ) (len : ℕ) (out : List ℕ) (written i : ℕ) (whole : Standing) where
  abbrev Left : Type 0
  Left = fed_from (drop i s) (standing i line len out written) ≡ whole

  next : i < length s → drop i s ≡ get_or s i 0 ∷ drop (i + 1) s
  next h = rw (add-one, drop-cons s i 0 h)

  kept_turned : i < length s → (get_or s i 0 ≡ 10 → ⊥)
      → fed_from (drop (i + 1) s) (standing (i + 1) (line_with (get_or s i 0) line len) (count_with len) out written)
      ≡ fed_from (drop i s) (standing i line len out written)
  unfolding fed_from kept passed
  kept_turned h d = rw (next h, ne_eqb (get_or s i 0) 10 d)

  pub kept_turn : Left → i < length s → (get_or s i 0 ≡ 10 → ⊥) → (line' : List ℕ) (len' : ℕ) → len' ≡ count_with len
      → line' ≡ line_with (get_or s i 0) line len
      → fed_from (drop (i + 1) s) (standing (i + 1) line' len' out written) ≡ whole
  kept_turn w h d line' len' p q = rw (p, q) (kept_turned h d ∙ w)

  answered_turned : i < length s → get_or s i 0 ≡ 10 → length (answer_to (take len line)) ≤ length out - written
      → fed_from (drop (i + 1) s) (standing (i + 1) line 0 (sets out written (answer_to (take len line))) (written + length (answer_to (take len line))))
      ≡ fed_from (drop i s) (standing i line len out written)
  unfolding fed_from answered passed full
  answered_turned h e m = rw (next h, eq-eqb (get_or s i 0) 10 e, le-ltb (length out - written) (length (answer_to (take len line))) m)

  pub answered_turn : Left → i < length s → get_or s i 0 ≡ 10
      → (n size : ℕ) → n ≡ number_in (address_verdict (take len line)) → size ≡ answer_length n → size ≤ length out - written
      → (out' : List ℕ) (written' : ℕ) → (written' ≡ written + length (decimal n ++ 10 ∷ [])) × (out' ≡ sets out written (decimal n ++ 10 ∷ []))
      → fed_from (drop (i + 1) s) (standing (i + 1) line 0 out' written') ≡ whole
  answered_turn w h e n size a b m out' written' p =
      let q = answer_put (take len line) out out' written n written' a p in
      rw (q.0, q.1) (answered_turned h e (omega (arith, length_told (take len line) n size a b)) ∙ w)

  stopped_here : i < length s → get_or s i 0 ≡ 10 → length out - written < length (answer_to (take len line))
      → standing i line len out written ≡ fed_from (drop i s) (standing i line len out written)
  unfolding fed_from full
  stopped_here h e m = rw (drop-cons s i 0 h, eq-eqb (get_or s i 0) 10 e, lt-ltb (length out - written) (length (answer_to (take len line))) m)

  pub stopped : Left → i < length s → get_or s i 0 ≡ 10
      → (n size : ℕ) → n ≡ number_in (address_verdict (take len line)) → size ≡ answer_length n → length out - written < size
      → standing i line len out written ≡ whole
  stopped w h e n size a b m = stopped_here h e (omega (arith, length_told (take len line) n size a b)) ∙ w

  all_taken_here : length s ≤ i → standing i line len out written ≡ fed_from (drop i s) (standing i line len out written)
  unfolding fed_from
  all_taken_here h = rw (drop_of_length-le s h)

  pub all_taken : Left → length s ≤ i → i ≤ length s → standing (length s) line len out written ≡ whole
  all_taken w h k = ap (λ (taken : ℕ). standing taken line len out written) (at_end (length s) i h k) ∙ all_taken_here h ∙ w
    where
      at_end : (m n : ℕ) → m ≤ n → n ≤ m → m ≡ n
      at_end m n h k = omega arith

pub went_here : (s line : List ℕ) (len : ℕ) (out : List ℕ) (written i : ℕ) (from : Standing) → standing i line len out written ≡ fed_from s from
    → WentOn s from (record { taken = i; written = written; len = len }) line out
went_here s line len out written i from e =
    record { answer = ap told e; buffer = ap (λ (st : Standing). st.line) e; output = ap (λ (st : Standing). st.out) e }

-- ---- how feeding ends

pub fed_none : (st : Standing) → fed_from [] st ≡ st
unfolding fed_from
fed_none st = refl

pub stuck_none : (st : Standing) → stuck [] st ≡ false
unfolding stuck
stuck_none st = refl

pub stuck_first : (c : ℕ) (s : List ℕ) (st : Standing) → stuck (c ∷ s) st ≡ eqb c 10 && full st
unfolding stuck
stuck_first c s st = refl

pub fed_kept : (c : ℕ) (s : List ℕ) (st : Standing) → eqb c 10 ≡ false → fed_from (c ∷ s) st ≡ fed_from s (passed (kept c st))
unfolding fed_from
fed_kept c s st e = rw e

pub fed_answered : (c : ℕ) (s : List ℕ) (st : Standing) → eqb c 10 ≡ true → full st ≡ false → fed_from (c ∷ s) st ≡ fed_from s (passed (answered st))
unfolding fed_from
fed_answered c s st e f = rw (e, f)

pub fed_stopped : (c : ℕ) (s : List ℕ) (st : Standing) → eqb c 10 ≡ true → full st ≡ true → fed_from (c ∷ s) st ≡ st
unfolding fed_from
fed_stopped c s st e f = rw (e, f)

-- bytes are taken, never given back
taken_byte : (c : ℕ) (s : List ℕ) (st : Standing) (b f : Bool) → eqb c 10 ≡ b → full st ≡ f
    → ((st : Standing) → st.taken ≤ (fed_from s st).taken) → st.taken ≤ (fed_from (c ∷ s) st).taken
unfolding passed kept answered
taken_byte c s st false f e g ih = rw (fed_kept c s st e) (omega (arith, ih (passed (kept c st))))
taken_byte c s st true false e g ih = rw (fed_answered c s st e g) (omega (arith, ih (passed (answered st))))
taken_byte c s st true true e g ih = rw (fed_stopped c s st e g) (omega arith)

pub taken_on : (s : List ℕ) (st : Standing) → st.taken ≤ (fed_from s st).taken
taken_on [] st = rw (fed_none st) (omega arith)
taken_on (c ∷ s) st = taken_byte c s st (eqb c 10) (full st) refl refl (taken_on s)

-- the first byte is taken unless it is stuck
first_byte : (c : ℕ) (s : List ℕ) (st : Standing) (b f : Bool) → eqb c 10 ≡ b → full st ≡ f
    → (stuck (c ∷ s) st ≡ b && f) × ((b && f ≡ false) → st.taken < (fed_from (c ∷ s) st).taken) × ((b && f ≡ true) → fed_from (c ∷ s) st ≡ st)
unfolding passed kept answered
first_byte c s st false f e g =
    (rw (stuck_first, e), λ q. rw (fed_kept c s st e) (omega (arith, taken_on s (passed (kept c st)))), λ q. absurd (false≢true q))
first_byte c s st true false e g =
    (rw (stuck_first, e, g), λ q. rw (fed_answered c s st e g) (omega (arith, taken_on s (passed (answered st)))), λ q. absurd (false≢true q))
first_byte c s st true true e g = (rw (stuck_first, e, g), λ q. absurd (false≢true (sym q)), λ q. fed_stopped c s st e g)

taken_nothing : (s : List ℕ) (st : Standing) → (length s ≡ 0 → ⊥) → (fed_from s st).taken ≡ st.taken → stuck s st ≡ true
taken_nothing [] st some z = absurd (some refl)
taken_nothing (c ∷ s) st some z = by (eqb c 10 && full st) refl
  where
    by : (t : Bool) → eqb c 10 && full st ≡ t → stuck (c ∷ s) st ≡ true
    by true q = (first_byte c s st (eqb c 10) (full st) refl refl).0 ∙ q
    by false q = absurd (omega (arith, (first_byte c s st (eqb c 10) (full st) refl refl).1 q))

pub moves : (s : List ℕ) (st : Standing) → stuck s st ≡ false → 0 < length s → st.taken < (fed_from s st).taken
moves [] st q h = absurd (omega arith)
moves (c ∷ s) st q h =
    (first_byte c s st (eqb c 10) (full st) refl refl).1 (sym (first_byte c s st (eqb c 10) (full st) refl refl).0 ∙ q)

taken_something : (s : List ℕ) (st : Standing) → ((fed_from s st).taken ≡ st.taken → ⊥) → stuck s st ≡ false
taken_something [] st z = stuck_none st
taken_something (c ∷ s) st z = by (eqb c 10 && full st) refl
  where
    by : (t : Bool) → eqb c 10 && full st ≡ t → stuck (c ∷ s) st ≡ false
    by true q = absurd (z (ap (λ (r : Standing). r.taken) ((first_byte c s st (eqb c 10) (full st) refl refl).2 q)))
    by false q = (first_byte c s st (eqb c 10) (full st) refl refl).0 ∙ q

length_zero : (s : List ℕ) → length s ≡ 0 → s ≡ []
length_zero [] z = refl
length_zero (c ∷ s) z = absurd (omega arith)

module _ (s line : List ℕ) (len : ℕ) (out : List ℕ) where
  pub fed_short : length line < 91 → WasFed s line len out (Err RoomSmall) line out
  unfolding fed fed_refused start
  fed_short h = record { answer = rw (lt-ltb (length line) 91 h); buffer = rw (lt-ltb (length line) 91 h); output = rw (lt-ltb (length line) 91 h) }

  module _ (k : ℕ) (e : k ≡ kept_count len) (h : 91 ≤ length line) where
    wide : fed s line len out ≡ fed_from s (standing 0 line k out 0)
    unfolding fed start
    wide = rw (le-ltb (length line) 91 h, e)

    wide_refused : fed_refused s line len out ≡ stuck s (standing 0 line k out 0)
    unfolding fed_refused start
    wide_refused = rw (le-ltb (length line) 91 h, e)

    pub fed_empty : length s ≡ 0 → WasFed s line len out (Ok (as_fed 0 0 k)) line out
    fed_empty z =
        let none : s ≡ [] = length_zero s z in
        let here : fed_from s (standing 0 line k out 0) ≡ standing 0 line k out 0 = rw (none, fed_none) in
        let free : stuck s (standing 0 line k out 0) ≡ false = rw (none, stuck_none) in
        record { answer = rw (wide_refused, free, wide, here); buffer = rw (wide, here); output = rw (wide, here) }

    -- nothing of a piece that is not empty was taken: it is stuck, and all is as it was
    pub fed_stuck : (p : Fed) (line' out' : List ℕ) → (length s ≡ 0 → ⊥) → WentOn s (standing 0 line k out 0) p line' out' → p.taken ≡ 0
        → (left : List ℕ) → left ≡ line' → WasFed s line len out (Err RoomSmall) left out'
    fed_stuck p line' out' some w z left same_bytes =
        record {
          answer = rw (wide_refused, taken_nothing s (standing 0 line k out 0) some (ap (λ (q : Fed). q.taken) (sym w.answer) ∙ z));
          buffer = rw wide (same_bytes ∙ w.buffer);
          output = rw wide w.output;
        }

    pub fed_on : (p : Fed) (line' out' : List ℕ) → WentOn s (standing 0 line k out 0) p line' out' → (p.taken ≡ 0 → ⊥)
        → (left : List ℕ) → left ≡ line' → WasFed s line len out (Ok p) left out'
    fed_on p line' out' w z left same_bytes =
        record {
          answer =
              rw (wide_refused, taken_something s (standing 0 line k out 0) (λ q. z (ap (λ (q : Fed). q.taken) w.answer ∙ q)), wide)
              (ap Ok w.answer);
          buffer = rw wide (same_bytes ∙ w.buffer);
          output = rw wide w.output;
        }

-- what is told of a call that is not refused
pub told_is : (b : Bool) (r : Fed) (st : Standing) → Ok r ≡ pick b (Err RoomSmall) (Ok (told st)) → (b ≡ false) × (r ≡ told st)
told_is true r st e = absurd (err_apart r RoomSmall (sym e))
told_is false r st e = (refl, ok_injective r (told st) e)

-- ---- how finishing ends

module _ (line : List ℕ) (len : ℕ) (out : List ℕ) where
  pub finish_short : length line < 91 → WasFinished line len out (Err RoomSmall) out
  unfolding finished finish_refused start
  finish_short h = record { answer = rw (lt-ltb (length line) 91 h); output = rw (lt-ltb (length line) 91 h) }

  module _ (k : ℕ) (e : k ≡ kept_count len) (h : 91 ≤ length line) where
    pub finish_none : k ≡ 0 → WasFinished line len out (Ok 0) out
    unfolding finished finish_refused start
    finish_none z =
        let q = eq-eqb (kept_count len) 0 (sym e ∙ z) in
        record { answer = rw (le-ltb (length line) 91 h, q); output = rw (le-ltb (length line) 91 h, q) }

    module _ (some : k ≡ 0 → ⊥) where
      nonempty : eqb (kept_count len) 0 ≡ false
      nonempty = ne_eqb (kept_count len) 0 (λ (q : kept_count len ≡ 0). some (e ∙ q))

      module _ (n size : ℕ) (told_number : n ≡ number_in (address_verdict (take k line))) (told_size : size ≡ answer_length n) where
        needed : size ≡ length (answer_to (take (kept_count len) line))
        needed = rw e at (length_told (take k line) n size told_number told_size)

        pub finish_full : length out < size → WasFinished line len out (Err RoomSmall) out
        unfolding finished finish_refused start full
        finish_full m =
            let f = lt-ltb (length out - 0) (length (answer_to (take (kept_count len) line))) (omega (arith, needed)) in
            record { answer = rw (le-ltb (length line) 91 h, nonempty, f); output = rw (le-ltb (length line) 91 h, nonempty, f) }

        pub finish_answered : size ≤ length out → (r : ℕ) (out' : List ℕ)
            → (r ≡ 0 + length (decimal n ++ 10 ∷ [])) × (out' ≡ sets out 0 (decimal n ++ 10 ∷ []))
            → WasFinished line len out (Ok r) out'
        unfolding finished finish_refused start full answered
        finish_answered m r out' p =
            let f = le-ltb (length out - 0) (length (answer_to (take (kept_count len) line))) (omega (arith, needed)) in
            let q = answer_put (take k line) out out' 0 n r told_number p in
            record { answer = rw (le-ltb (length line) 91 h, nonempty, f, q.0, e); output = rw (le-ltb (length line) 91 h, nonempty, f, q.1, e) }
