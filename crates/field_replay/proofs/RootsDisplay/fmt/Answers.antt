-- What is found is from the exponent asked on, and below the group's order (polynomial's `root_within`).
use native.Mathlib.Omega.{arith}
use Rattle.polynomial.proofs.Chien.{root_within}
use Rattle.field_replay.proofs.RootsDisplay.fmt.Goals as goal

pub overflow_add-from : goal.overflow_add-from
overflow_add-from g c =
    let within = root_within _ _ _ c.in-Ok-Some.e (rw c.in-Ok-Some.field-0-is at c.in-Ok-Some.ensures) in omega (arith, within.1)

pub loop-e-smaller : goal.loop-e-smaller
loop-e-smaller g c =
    let within = root_within _ _ _ c.in-Ok-Some.e (rw c.in-Ok-Some.field-0-is at c.in-Ok-Some.ensures) in omega (arith, within.0, within.1)

pub loop-e-preserved : goal.loop-e-preserved
loop-e-preserved g c =
    let within = root_within _ _ _ c.in-Ok-Some.e (rw c.in-Ok-Some.field-0-is at c.in-Ok-Some.ensures) in omega (arith, within.1)
