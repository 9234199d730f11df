-- The zeros at the end, counted off (proofs/Trim.antt).
use native.Mathlib.Omega.{arith}
use borrow.Author.Rules.{rules}
use Rattle.polynomial.proofs.Trim.{trimmed_counted}
use Rattle.polynomial.proofs.trimmed_list.Goals as goal

pub returns : goal.returns
returns c = trimmed_counted c.args.items (omega arith) c.rposition.result (search rules) c.map_or-len.result (search rules)
