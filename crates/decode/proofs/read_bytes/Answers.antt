use Rattle.decode.proofs.Rooms.{bytes_written}
use Rattle.decode.proofs.read_bytes.Goals as goal

pub returns : goal.returns
returns c = bytes_written _ _ _ _ _ c.in_ok-halves.ensures _ _ c.characters_to_bytes.ensures
