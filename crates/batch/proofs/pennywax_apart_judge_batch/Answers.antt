-- `pennywax_apart_judge_batch` keeps its promise: at the end of the list every entry is judged.
use Rattle.std.proofs.Common.{arith}
use Rattle.std.proofs.lemmas.Grind.{common_steps}
use Rattle.batch.proofs.Entries.{few_accepted}
use Rattle.batch.proofs.pennywax_apart_judge_batch.Goals as goal

pub returns : goal.returns
returns c =
    let few = few_accepted c.args.entries.now c.if-entries-gt-MAX_ENTRIES.false in
    record { number = rw few; entries = rw few (grind (arith, common_steps)) }
