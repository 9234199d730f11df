use Rattle.decode.proofs.Generic.{data_part_accepted}
use Rattle.decode.proofs.data_part.Goals as goal

pub returns-in-Ok : goal.returns-in-Ok
returns-in-Ok c = data_part_accepted _ _ _ _ c.in-Ok.ensures
