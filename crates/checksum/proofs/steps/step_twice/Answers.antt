-- Two steps at once. What carries it: the law `step_twice`, and `masked_up` and `shl_exact` for the code's shifts.
use borrow.Author.Rules.{rules}
use native.Mathlib.Omega.{arith}
use lib.Pow.{shl_exact}
use Rattle.laws.specs.Xor.{◌⊕◌}
use Rattle.checksum.proofs.StepLaws.{masked_up, step_twice}
use Rattle.checksum.proofs.steps.step_twice.Goals as goal

pub returns : goal.returns
unfolding ◌⊕◌
returns c =
    rw (
      masked_up c.args.residue 20 10 (omega arith),
      c.from.ensures,
      c.from-2.ensures,
      shl_exact {a = c.args.first} 8 5 32 (search rules) (omega arith),
      c.mix_twice.ensures,
      c.mix.ensures,
    )
    (step_twice c.args.residue c.args.first c.args.second (omega arith))
