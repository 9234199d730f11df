-- A step over symbols: the end past the last byte, and before it the byte there and the next place.
use mathlib.Core.Path.{ap, ◌∙◌}
use mathlib.Core.List.{List}
use Prim.Native.Nat.{ℕ}
use lib.ListN.{get_or}
use Rattle.std.proofs.lemmas.List.{map-id}
use Rattle.paper.specs.Bits.{to_bytes}
use Rattle.iter.specs.Steps.{byte_step, after_byte}
use Rattle.iter.proofs.Answers.{at_end, at_value}
use Rattle.iter.proofs.SymbolsToBytes.next.Goals as goal

pub returns-then-bytes_for_symbols-self : goal.returns-then-bytes_for_symbols-self
unfolding byte_step after_byte
returns-then-bytes_for_symbols-self c =
    let walk = c.args.self.now in
    let counted = c.bytes_for_symbols in
    let end = at_end (to_bytes walk.symbols.now) walk.at counted.result counted.ensures c.if-bytes_for_symbols-self.true in
    record { given = end.0; left = ap (λ (at : ℕ). record walk { at = at }) end.1 }

pub returns : goal.returns
unfolding byte_step after_byte
returns c =
    let walk = c.args.self.now in
    let counted = c.bytes_for_symbols in
    let given = c.byte_at-byte.ensures ∙ ap (λ (l : List ℕ). get_or (to_bytes l) walk.at 0) (map-id walk.symbols.now) in
    let value = at_value (to_bytes walk.symbols.now) walk.at counted.result counted.ensures c.if-bytes_for_symbols-self.false c.byte_at-byte.result given in
    record { given = value.0; left = ap (λ (at : ℕ). record walk { at = at }) value.1 }
