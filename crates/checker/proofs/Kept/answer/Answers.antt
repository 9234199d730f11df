-- `answer` goes through a piece, and ends: what lines::feed tells lies within the piece and the output.
use Rattle.std.proofs.Common.{ℕ, ◌-◌, ◌<◌, ◌≤◌, List, length, take, drop, length-take-le, length-drop, arith, rules}
use Rattle.lines.proofs.Whole.{feed_numbers}
use Rattle.checker.proofs.Kept.answer.Goals as goal

-- what is left of a piece once something of it is taken
less_left : (rest : List ℕ) (taken : ℕ) → 0 < taken → taken ≤ length rest → length (take (length rest - taken) (drop taken rest)) < length rest
less_left rest taken h k = omega (arith, length-take-le (length rest - taken) (drop taken rest) (omega (arith, length-drop taken rest)))

pub shared_ref_as_front-write_all : goal.shared_ref_as_front-write_all
shared_ref_as_front-write_all g c = omega (arith, (feed_numbers _ _ _ _ _ _ _ c.in-Ok.ensures c.loop-rest.self.few (omega arith)).1)

pub slice_bounds-rest-count : goal.slice_bounds-rest-count
slice_bounds-rest-count g c = (feed_numbers _ _ _ _ _ _ _ c.in-Ok.ensures c.loop-rest.self.few (omega arith)).0

pub slice_bounds-rest-start : goal.slice_bounds-rest-start
slice_bounds-rest-start g c = (feed_numbers _ _ _ _ _ _ _ c.in-Ok.ensures c.loop-rest.self.few (omega arith)).0

pub loop-rest-smaller : goal.loop-rest-smaller
loop-rest-smaller g c =
    let n = feed_numbers _ _ _ _ _ _ _ c.in-Ok.ensures c.loop-rest.self.few (omega arith) in
    less_left _ _ (n.3 (search rules)) n.0

pub invariant_of-self-in-loop-rest : goal.invariant_of-self-in-loop-rest
invariant_of-self-in-loop-rest g c = record { few = (feed_numbers _ _ _ _ _ _ _ c.in-Ok.ensures c.loop-rest.self.few (omega arith)).2 }
