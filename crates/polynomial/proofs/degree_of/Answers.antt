-- The degree, looked for from the end (proofs/Places.antt).
use mathlib.Core.Path.{◌∙◌}
use borrow.Author.Rules.{rules}
use Rattle.polynomial.proofs.Places.{degree_last}
use Rattle.polynomial.proofs.degree_of.Goals as goal

pub returns : goal.returns
returns c = c.unwrap_or.ensures ∙ degree_last c.args.s.now c.rposition.result (search rules)
