-- The symbols before the index are turned, the others are as they were.
use Rattle.std.proofs.Common.{◌≡◌, map}
use Rattle.laws.proofs.Front.{front}
use Rattle.gf32.specs.Bytes.{character}
use Rattle.encode.proofs.fill.to_letters.Given as goal

abbrev pub invariant-loop-symbol : goal.invariant-loop-symbol
invariant-loop-symbol l = l.symbols ≡ front (map character l.initial.symbols) l.initial.symbols l.symbol-index
