-- The terms kept are the polynomial's at the base's power e, and its first root from e on is its first root from the start.
use mathlib.Core.Path.{◌≡◌}
use Rattle.gf32_ext.specs.Field.{power}
use Rattle.fieldvec.specs.Lists.{elements}
use Rattle.polynomial.specs.Answers.{root_from}
use Rattle.polynomial.proofs.Chien.{kept}
use Rattle.polynomial.proofs.root_from.Given as goal

abbrev pub invariant-loop-e : goal.invariant-loop-e
invariant-loop-e l =
    (l.terms ≡ kept (elements l.p) (power l.base l.e))
    × (root_from (elements l.p) l.base l.e ≡ root_from (elements l.p) l.base l.from)
