-- A step over bytes: the end past the last symbol, and before it the symbol there and the next place.
use mathlib.Core.Path.{ap}
use Prim.Native.Nat.{ℕ}
use Rattle.paper.specs.Bits.{to_symbols}
use Rattle.iter.specs.Steps.{symbol_step, after_symbol}
use Rattle.iter.proofs.Answers.{at_end, at_value}
use Rattle.iter.proofs.BytesToSymbols.next.Goals as goal

pub returns-then-symbols_for_bytes-self : goal.returns-then-symbols_for_bytes-self
unfolding symbol_step after_symbol
returns-then-symbols_for_bytes-self c =
    let walk = c.args.self.now in
    let counted = c.symbols_for_bytes in
    let end = at_end (to_symbols walk.bytes.now) walk.at counted.result counted.ensures c.if-symbols_for_bytes-self.true in
    record { given = end.0; left = ap (λ (at : ℕ). record walk { at = at }) end.1 }

pub returns : goal.returns
unfolding symbol_step after_symbol
returns c =
    let walk = c.args.self.now in
    let counted = c.symbols_for_bytes in
    let given = c.symbol_at-symbol in
    let value = at_value (to_symbols walk.bytes.now) walk.at counted.result counted.ensures c.if-symbols_for_bytes-self.false given.result given.ensures in
    record { given = value.0; left = ap (λ (at : ℕ). record walk { at = at }) value.1 }
