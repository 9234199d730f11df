-- The coefficient at n, by a shift; past the residue's 32 bits there is nothing left to shift.
use borrow.Author.Rules.{rules}
use Rattle.checksum.proofs.Six.{past_end}
use Rattle.checksum.proofs.unpack.Goals as goal

pub returns-then-n-gt6 : goal.returns-then-n-gt6
returns-then-n-gt6 c = past_end c.args.residue c.args.n (search rules) c.if-n-gt6.true
