use Rattle.decode.proofs.Segwit.{halves_short}
use Rattle.decode.proofs.address_halves.Goals as goal

pub returns : goal.returns
returns c = halves_short _ c.if-s-gt-MAX_STRING_LENGTH.false _ _ c.take_apart.ensures
