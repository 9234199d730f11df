-- The symbols before the index are turned, the others are as they were.
use Rattle.std.proofs.Common.{◌≡◌, map}
use Rattle.laws.proofs.Front.{front}
use Rattle.paper.specs.Charset.{symbol}
use Rattle.decode.proofs.symbols.to_symbols.Given as goal

abbrev pub invariant-loop-character : goal.invariant-loop-character
invariant-loop-character l = l.characters ≡ front (map symbol l.initial.characters) l.initial.characters l.character-index
