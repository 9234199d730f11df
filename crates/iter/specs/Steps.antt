-- Document 01, "What must change shape": the iterators over symbols and bytes. A walk holds the slice that it was lent and the count of the
-- values given, and every count is legal: what comes next is what stands there in the paper's list, and past its end nothing.
use Rattle.std.specs.Prelude.{List, [], ◌∷◌, ℕ, zero, suc, ◌+◌, leb, length, drop, Option, Some, None, slice_get}
use Rattle.laws.specs.Pick.{pick}
use Rattle.paper.specs.Bits.{to_bytes, to_symbols}
use Rattle.iter.specs.declared.BytesToSymbols.{BytesToSymbols}
use Rattle.iter.specs.declared.SymbolsToBytes.{SymbolsToBytes}

-- the place after a step; past the end it stays
abbrev pub place_after : List ℕ → ℕ → ℕ
place_after list at = pick (leb (length list) at) at (at + 1)

-- a walk over a slice that lies at this place, after so many values
abbrev pub symbols_walk : ℕ × ℕ → List ℕ → ℕ → BytesToSymbols
symbols_walk place bytes at = record { bytes = record { ref_ptr = place; now = bytes }; at = at }

abbrev pub bytes_walk : ℕ × ℕ → List ℕ → ℕ → SymbolsToBytes
bytes_walk place symbols at = record { symbols = record { ref_ptr = place; now = symbols }; at = at }

-- what is left of the list that a walk goes over
abbrev pub symbols_left : BytesToSymbols → List ℕ
symbols_left walk = drop walk.at (to_symbols walk.bytes.now)

abbrev pub bytes_left : SymbolsToBytes → List ℕ
bytes_left walk = drop walk.at (to_bytes walk.symbols.now)

-- what a walk gives next, and the walk after it
unfoldable pub symbol_step : BytesToSymbols → Option ℕ
symbol_step walk = slice_get (to_symbols walk.bytes.now) walk.at

unfoldable pub after_symbol : BytesToSymbols → BytesToSymbols
after_symbol walk = record walk { at = place_after (to_symbols walk.bytes.now) walk.at }

unfoldable pub byte_step : SymbolsToBytes → Option ℕ
byte_step walk = slice_get (to_bytes walk.symbols.now) walk.at

unfoldable pub after_byte : SymbolsToBytes → SymbolsToBytes
after_byte walk = record walk { at = place_after (to_bytes walk.symbols.now) walk.at }

-- what steps give one after the other, at most n values: the first, and what comes after it
abbrev pub first_given : Option ℕ → List ℕ → List ℕ
first_given (Some v) later = v ∷ later
first_given None later = []

abbrev pub symbols_walked : ℕ → BytesToSymbols → List ℕ
symbols_walked zero walk = []
symbols_walked (suc n) walk = first_given (symbol_step walk) (symbols_walked n (after_symbol walk))

abbrev pub bytes_walked : ℕ → SymbolsToBytes → List ℕ
bytes_walked zero walk = []
bytes_walked (suc n) walk = first_given (byte_step walk) (bytes_walked n (after_byte walk))
