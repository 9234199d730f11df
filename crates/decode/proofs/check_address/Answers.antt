use Rattle.std.proofs.Common.{◌∙◌}
use Rattle.decode.proofs.Segwit.{address_judged}
use Rattle.decode.proofs.check_address.Goals as goal

pub returns : goal.returns
returns c = c.judge.ensures ∙ address_judged _ _ _ c.in_ok-halves.ensures
