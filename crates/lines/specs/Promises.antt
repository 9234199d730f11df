-- What each function promises, and that only one outcome meets it.
use Rattle.std.specs.Prelude.{◌≡◌, List, ℕ}
use Rattle.laws.specs.Pick.{pick}
use Rattle.laws.proofs.Bools.{same}
use Rattle.lines.specs.Feeding.{Standing, fed_from, fed, fed_refused, finished, finish_refused}
use Rattle.lines.specs.declared.Fed.{Fed}
use Rattle.numbers.specs.declared.Refusal.{Refusal}
use Rattle.numbers.specs.declared.Refusal.TheVariants.{RoomSmall}
use Rattle.std.specs.Prelude.{Result, Ok, Err}

-- what is told of a piece: the bytes taken, the bytes written, and the count of kept bytes to come back with
abbrev pub as_fed : ℕ → ℕ → ℕ → Fed
as_fed taken written len = record { taken = taken; written = written; len = len }

abbrev pub told : Standing → Fed
told st = as_fed st.taken st.written st.len

-- the bytes of a piece from a standing on; no public function
pub record WentOn (input : List ℕ) (from : Standing) (r : Fed) (line_after out_after : List ℕ) : Type 0 where
  pub answer : r ≡ told (fed_from input from)
  pub buffer : line_after ≡ (fed_from input from).line
  pub output : out_after ≡ (fed_from input from).out

-- lines::feed
pub record WasFed (input line : List ℕ) (len : ℕ) (out : List ℕ) (r : Result Fed Refusal) (line_after out_after : List ℕ) : Type 0 where
  pub answer : r ≡ pick (fed_refused input line len out) (Err RoomSmall) (Ok (told (fed input line len out)))
  pub buffer : line_after ≡ (fed input line len out).line
  pub output : out_after ≡ (fed input line len out).out

pub was_fed_once : (input line : List ℕ) (len : ℕ) (out : List ℕ) (r r' : Result Fed Refusal) (line_after line_after' out_after out_after' : List ℕ)
    → WasFed input line len out r line_after out_after → WasFed input line len out r' line_after' out_after'
    → (r ≡ r') × (line_after ≡ line_after') × (out_after ≡ out_after')
was_fed_once input line len out r r' line_after line_after' out_after out_after' p q =
    (same p.answer q.answer, same p.buffer q.buffer, same p.output q.output)

-- lines::finish
pub record WasFinished (line : List ℕ) (len : ℕ) (out : List ℕ) (r : Result ℕ Refusal) (out_after : List ℕ) : Type 0 where
  pub answer : r ≡ pick (finish_refused line len out) (Err RoomSmall) (Ok (finished line len out).written)
  pub output : out_after ≡ (finished line len out).out

pub was_finished_once : (line : List ℕ) (len : ℕ) (out : List ℕ) (r r' : Result ℕ Refusal) (out_after out_after' : List ℕ)
    → WasFinished line len out r out_after → WasFinished line len out r' out_after' → (r ≡ r') × (out_after ≡ out_after')
was_finished_once line len out r r' out_after out_after' p q = (same p.answer q.answer, same p.output q.output)
