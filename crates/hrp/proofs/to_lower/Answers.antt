-- `to_lower` keeps its promise: the room is asked first, and only then is anything written.
use mathlib.Core.Path.{ap, ◌∙◌}
use mathlib.Core.List.{◌++◌}
use lib.ListN.{length, drop}
use Rattle.hrp.proofs.Ascii.{ascii_folded}
use Rattle.hrp.proofs.Writing.{no_room, room}
use Rattle.hrp.proofs.to_lower.Goals as goal

pub returns-then-out-prefix : goal.returns-then-out-prefix
returns-then-out-prefix c = no_room _ _ c.if-out-prefix.true

pub returns : goal.returns
returns c =
    let prefix = c.args.prefix.now in
    let folded = c.fold.ensures ∙ ascii_folded prefix in
    room _ _ c.if-out-prefix.false _ (ap (λ l. l ++ drop (length prefix) c.args.out.now) folded)
