-- Document 01, "In", the command-line checker, for input that comes in pieces: the bytes are taken one by one, and lent buffers hold the line
-- that is not ended yet and the answers. Of a line the first 91 bytes are kept, since those are over 90 already, answer 10, whatever
-- comes after them.
use Rattle.std.specs.Prelude.{Bool, false, not, ◌&&◌, ◌||◌, List, [], ◌∷◌, ℕ, ◌+◌, ◌-◌, eqb, ltb, length, take, set}
use Rattle.std.proofs.lemmas.List.Edits.{sets}
use Rattle.laws.specs.Pick.{pick}
use Rattle.lines.specs.Lines.{answer_to}

-- how far it has come: the bytes taken of the input, the line buffer with how many of its bytes are the present line, the output
-- buffer with how many of its bytes are answers
pub record Standing : Type 0 where
  pub taken : ℕ
  pub line : List ℕ
  pub len : ℕ
  pub out : List ℕ
  pub written : ℕ

abbrev pub standing : ℕ → List ℕ → ℕ → List ℕ → ℕ → Standing
standing taken line len out written = record { taken = taken; line = line; len = len; out = out; written = written }

-- the present line is answered, where the output stands, and the next one is empty
unfoldable pub answered : Standing → Standing
answered st =
    let answer : List ℕ = answer_to (take st.len st.line) in
    standing st.taken st.line 0 (sets st.out st.written answer) (st.written + length answer)

-- a byte of a line: kept where fewer than 91 are
unfoldable pub line_with : ℕ → List ℕ → ℕ → List ℕ
line_with byte line len = pick (ltb len 91) (set line len byte) line

unfoldable pub count_with : ℕ → ℕ
count_with len = pick (ltb len 91) (len + 1) len

unfoldable pub kept : ℕ → Standing → Standing
kept byte st = standing st.taken (line_with byte st.line st.len) (count_with st.len) st.out st.written

-- how many bytes the answer of a number has
abbrev pub answer_length : ℕ → ℕ
answer_length n = pick (ltb n 10) 2 3

-- document 01, answer 17: the room that is left is less than the present line's answer, which would be written
unfoldable pub full : Standing → Bool
full st = ltb (length st.out - st.written) (length (answer_to (take st.len st.line)))

unfoldable pub passed : Standing → Standing
passed st = standing (st.taken + 1) st.line st.len st.out st.written

-- byte by byte; a line end that there is no room for is not taken, nor anything after it
unfoldable pub fed_from : List ℕ → Standing → Standing
fed_from [] st = st
fed_from (c ∷ s) st =
    pick (eqb c 10)
    (pick (full st) st (fed_from s (passed (answered st))))
    (fed_from s (passed (kept c st)))

-- a count of kept bytes over 91 stands for 91
unfoldable pub kept_count : ℕ → ℕ
kept_count len = pick (ltb 91 len) 91 len

unfoldable pub start : List ℕ → ℕ → List ℕ → Standing
start line len out = standing 0 line (kept_count len) out 0

-- the first byte is a line end that there is no room for
unfoldable pub stuck : List ℕ → Standing → Bool
stuck [] st = false
stuck (c ∷ s) st = eqb c 10 && full st

-- a piece of the input; a line buffer under 91 bytes is not used
unfoldable pub fed : List ℕ → List ℕ → ℕ → List ℕ → Standing
fed input line len out = pick (ltb (length line) 91) (start line len out) (fed_from input (start line len out))

unfoldable pub fed_refused : List ℕ → List ℕ → ℕ → List ℕ → Bool
fed_refused input line len out = ltb (length line) 91 || stuck input (start line len out)

-- the end of the input: a line that is not empty is answered
unfoldable pub finished : List ℕ → ℕ → List ℕ → Standing
finished line len out =
    let st : Standing = start line len out in
    pick (ltb (length line) 91) st (pick (eqb st.len 0) st (pick (full st) st (answered st)))

unfoldable pub finish_refused : List ℕ → ℕ → List ℕ → Bool
finish_refused line len out =
    let st : Standing = start line len out in
    ltb (length line) 91 || (not (eqb st.len 0) && full st)
