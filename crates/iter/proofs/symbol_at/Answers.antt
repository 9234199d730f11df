-- The symbol at a place. What carries it: `symbol_from`, the symbol in two bytes.
use mathlib.Core.Path.{ap, ◌∙◌}
use mathlib.Core.List.{List}
use Prim.Native.Nat.{ℕ, ◌+◌}
use borrow.Author.Rules.{rules}
use lib.ListN.{get_or}
use Rattle.std.proofs.lemmas.List.{map-id}
use Rattle.iter.proofs.Places.{first_byte, symbol_from}
use Rattle.iter.proofs.symbol_at.Goals as goal

pub returns : goal.returns
returns c =
    let bytes = c.args.bytes.now in
    let first = first_byte bytes c.args.at c.requires in
    let plain = λ (i : ℕ). ap (λ (l : List ℕ). get_or l i 0) (map-id bytes) in
    rw (c.from.ensures, c.from-2.ensures)
    (symbol_from bytes c.args.at c.requires c.nth.result c.nth-2.result
    (c.nth.ensures ∙ plain first) (c.nth-2.ensures ∙ plain (first + 1))
    (search rules) (search rules))
