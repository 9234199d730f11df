use Rattle.decode.proofs.Generic.{prefix_part_accepted}
use Rattle.decode.proofs.prefix_part.Goals as goal

pub returns-in-Ok : goal.returns-in-Ok
returns-in-Ok c = prefix_part_accepted _ _ _ _ c.in-Ok.ensures
