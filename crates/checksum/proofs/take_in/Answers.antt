-- The symbols, two a turn and the odd one last. What carries it: `pair_in`, `last_in` and `none_in`.
use Rattle.std.proofs.Common.{◌∙◌}
use Rattle.checksum.proofs.Polymod.{pair_in, last_in, none_in}
use Rattle.checksum.proofs.take_in.Goals as goal

pub loop-left-preserved : goal.loop-left-preserved
loop-left-preserved g c = λ of gives.
    pair_in of c.loop-left.left.now c.loop-left.residue c.in-len2-up.len_at_least
    (gives _ _ c.symbol_of.ensures) (gives _ _ c.symbol_of-in-len2-up.ensures) c.step_twice-residue.ensures
    ∙ c.loop-left.invariant of gives

pub returns-in-len1-up : goal.returns-in-len1-up
returns-in-len1-up g c = λ of gives.
    last_in of c.loop-left.left.now c.loop-left.residue c.in-len1-up.len_at_least c.in_default.len_below
    (gives _ _ c.symbol_of-in-len1-up.ensures) c.step.ensures
    ∙ c.loop-left.invariant of gives

pub returns : goal.returns
returns g c = λ of gives. none_in of c.loop-left.left.now c.loop-left.residue c.in-empty.len_below ∙ c.loop-left.invariant of gives
