-- Document 01: "17 is given exactly if the room is less than what would be written". Of feed: than what the first byte of the piece would have
-- written; and all of a piece is taken exactly if the room is not less than what all of it would have written. Of finish: than the last line's answer.
use mathlib.Core.Path.{◌≡◌, refl, sym, ◌∙◌}
use mathlib.Core.Logic.{◌↔◌}
use mathlib.Core.Bool.{Bool, true, false, ◌&&◌, false≢true}
use mathlib.Core.List.{List, [], ◌∷◌, ◌++◌}
use Prim.Native.Nat.{ℕ, ◌+◌, ◌-◌, ◌≤◌, ◌<◌}
use native.Mathlib.Omega.{arith}
use lib.Dec.{eqb}
use lib.ListN.{length, take, length-append}
use lib.Seq.{length-take-le}
use borrow.Author.Tests.{lt-ltb, le-ltb, ltb-true}
use Rattle.lines.specs.Lines.{answer_to}
use Rattle.lines.specs.Feeding.{standing, full, kept_count, start, fed, fed_refused, finish_refused}
use Rattle.lines.specs.Numbers.{number_of_fed, taken_of_fed, written_of_fed, len_of_fed}
use Rattle.std.specs.Prelude.{Ok, Err}
use Rattle.numbers.specs.declared.Refusal.{Refusal}
use Rattle.numbers.specs.Numbers.{number_of}
use Rattle.lines.specs.Promises.{as_fed}
use Rattle.lines.proofs.Steps.{stuck_none, stuck_first}
use Rattle.lines.proofs.Machine.{said, last_said}
use Rattle.lines.proofs.Whole.{wide_stuck, fits_taken, taken_fits}

first_byte_17 : (c : ℕ) (line : List ℕ) (len : ℕ) (out : List ℕ) (b : Bool) → eqb c 10 ≡ b
    → (eqb c 10 && full (standing 0 line len out 0) ≡ true) ↔ (length out < length (said (c ∷ []) (take len line)))
unfolding full
first_byte_17 c line len out true e =
    let size : length (answer_to (take len line) ++ []) ≡ length (answer_to (take len line)) + 0 = length-append (answer_to (take len line)) [] in
    rw e (
      λ q. omega (arith, ltb-true (length out - 0) (length (answer_to (take len line))) q),
      λ h. lt-ltb (length out - 0) (length (answer_to (take len line))) (omega arith),
    )
first_byte_17 c line len out false e = rw e (λ q. absurd (false≢true q), λ h. absurd (omega arith))

-- feed: with a line buffer of 91 bytes, 17 exactly if the room is less than what the first byte would have written
pub feed_17 : (s line : List ℕ) (len : ℕ) (out : List ℕ) → len ≤ 91 → 91 ≤ length line
    → (fed_refused s line len out ≡ true) ↔ (length out < length (said (take 1 s) (take len line)))
feed_17 [] line len out f w =
    (λ q. absurd (false≢true (sym (wide_stuck [] line len out f w ∙ stuck_none (standing 0 line len out 0)) ∙ q)), λ h. absurd (omega arith))
feed_17 (c ∷ s) line len out f w =
    let is : fed_refused (c ∷ s) line len out ≡ eqb c 10 && full (standing 0 line len out 0) =
    wide_stuck (c ∷ s) line len out f w ∙ stuck_first c s (standing 0 line len out 0) in
    rw is (first_byte_17 c line len out (eqb c 10) refl)

-- and with a shorter one always
pub feed_17_short : (s line : List ℕ) (len : ℕ) (out : List ℕ) → length line < 91 → fed_refused s line len out ≡ true
unfolding fed_refused
feed_17_short s line len out h = rw (lt-ltb (length line) 91 h)

-- all of a piece is taken exactly if the room is not less than the answers of all lines that end in it
pub all_taken_exactly : (s line : List ℕ) (len : ℕ) (out : List ℕ) → len ≤ 91 → 91 ≤ length line
    → ((fed s line len out).taken ≡ length s) ↔ (length (said s (take len line)) ≤ length out)
all_taken_exactly s line len out f w = (taken_fits s line len out f w, fits_taken s line len out f w)

-- finish: 17 exactly if the room is less than the last line's answer, of which there is none if the line is empty
finish_17_case : (line : List ℕ) (len : ℕ) (out : List ℕ) → len ≤ 91 → 91 ≤ length line → (b : Bool) → eqb len 0 ≡ b
    → (finish_refused line len out ≡ true) ↔ (length out < length (last_said (take len line)))
unfolding finish_refused start kept_count full
finish_17_case line len out f w true e =
    let y : length (take len line) ≡ len = length-take-le len line (omega arith) in
    rw (le-ltb (length line) 91 w, le-ltb 91 len f, y, e) (λ q. absurd (false≢true q), λ h. absurd (omega arith))
finish_17_case line len out f w false e =
    let y : length (take len line) ≡ len = length-take-le len line (omega arith) in
    rw (le-ltb (length line) 91 w, le-ltb 91 len f, y, e) (
      λ q. omega (arith, ltb-true (length out - 0) (length (answer_to (take len line))) q),
      λ h. lt-ltb (length out - 0) (length (answer_to (take len line))) (omega arith),
    )

pub finish_17 : (line : List ℕ) (len : ℕ) (out : List ℕ) → len ≤ 91 → 91 ≤ length line
    → (finish_refused line len out ≡ true) ↔ (length out < length (last_said (take len line)))
finish_17 line len out f w = finish_17_case line len out f w (eqb len 0) refl

pub finish_17_short : (line : List ℕ) (len : ℕ) (out : List ℕ) → length line < 91 → finish_refused line len out ≡ true
unfolding finish_refused
finish_17_short line len out h = rw (lt-ltb (length line) 91 h)

-- ---- document 01's answers as numbers: what each function tells, as a number and values

pub took_as_numbers : (taken written len : ℕ) → let r = Ok (as_fed taken written len) in
    (number_of_fed r ≡ 0) × (taken_of_fed r ≡ taken) × (written_of_fed r ≡ written) × (len_of_fed r ≡ len)
unfolding taken_of_fed written_of_fed len_of_fed
took_as_numbers taken written len = (refl, refl, refl, refl)

pub refused_as_numbers : (refusal : Refusal)
    → (number_of_fed (Err refusal) ≡ number_of refusal) × (taken_of_fed (Err refusal) ≡ 0) × (written_of_fed (Err refusal) ≡ 0) × (len_of_fed (Err refusal) ≡ 0)
unfolding taken_of_fed written_of_fed len_of_fed
refused_as_numbers refusal = (refl, refl, refl, refl)
