-- Too small a room is refused with the buffer as it was; otherwise the symbols stand in front.
use mathlib.Core.Path.{sym, ap, ◌∙◌}
use mathlib.Core.List.{List, ◌++◌, map}
use Prim.Native.Nat.{ℕ}
use lib.ListN.{length, drop, length-map}
use Rattle.paper.specs.Charset.{symbol}
use Rattle.iter.proofs.Answers.{no_room, room}
use Rattle.decode.proofs.symbols.put_symbols.Goals as goal

pub returns-then-out-characters : goal.returns-then-out-characters
returns-then-out-characters c = no_room _ _ _ (sym (length-map c.args.characters.now symbol)) c.if-out-characters.true

pub returns : goal.returns
returns c =
    room _ _ _ (sym (length-map c.args.characters.now symbol)) c.if-out-characters.false _
    (ap (λ (front : List ℕ). front ++ drop (length c.args.characters.now) c.args.out.now)
    (c.to_symbols.ensures ∙ ap (map symbol) c.copy_from_slice.ensures.after))
