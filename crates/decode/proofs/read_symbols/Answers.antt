use Rattle.decode.proofs.Rooms.{symbols_written}
use Rattle.decode.proofs.read_symbols.Goals as goal

pub returns : goal.returns
returns c = symbols_written _ _ _ _ _ c.in_ok-halves.ensures _ _ c.put_symbols.ensures
