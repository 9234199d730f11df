-- The iterator's step is the walk's.
use Rattle.std.proofs.Common.{arith}
use Rattle.std.proofs.lemmas.Grind.{common_steps}
use Rattle.iter.proofs.Walks.{symbol_yields}
use Rattle.iter.proofs.BytesToSymbolsIterator.next.Goals as goal

pub returns-clause-steps : goal.returns-clause-steps
returns-clause-steps c = symbol_yields c.args.self.now c.next.new.self c.next.result c.next.ensures

pub returns-clause-goes : goal.returns-clause-goes
returns-clause-goes c = let yields = symbol_yields c.args.self.now c.next.new.self c.next.result c.next.ensures in grind (arith, common_steps)
