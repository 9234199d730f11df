-- A run: calls of feed one after the other, each with a piece of the input and an output buffer, the line buffer and the count handed on
-- from call to call; then one of finish. What they take in all, and what they write in all.
use Rattle.std.specs.Prelude.{List, [], ◌∷◌, ◌++◌, ℕ, take}
use Rattle.lines.specs.Feeding.{Standing, fed, finished}

-- a piece that is offered, and what the output buffer lent to the call holds before it
pub record Call : Type 0 where
  pub piece : List ℕ
  pub room : List ℕ

unfoldable pub outcome : List ℕ → ℕ → Call → Standing
outcome line len call = fed call.piece line len call.room

-- the bytes of the pieces that were taken, from a line buffer and a count on
unfoldable pub taken_in : List ℕ → ℕ → List Call → List ℕ
taken_in line len [] = []
taken_in line len (call ∷ calls) =
    take (outcome line len call).taken call.piece ++ taken_in (outcome line len call).line (outcome line len call).len calls

-- the bytes that were written, those of finish last, for which there is a room of its own
unfoldable pub written_out : List ℕ → ℕ → List Call → List ℕ → List ℕ
written_out line len [] room = take (finished line len room).written (finished line len room).out
written_out line len (call ∷ calls) room =
    take (outcome line len call).written (outcome line len call).out ++ written_out (outcome line len call).line (outcome line len call).len calls room
