-- What each public function promises, and that no two answers meet it.
use Rattle.std.specs.Prelude.{◌≡◌, List, map, ℕ, length}
use Rattle.laws.proofs.Bools.{same}
use Rattle.paper.specs.Charset.{symbol}
use Rattle.paper.specs.Bits.{to_bytes, to_symbols}
use Rattle.answers.specs.Rules.{padding_verdict}
use Rattle.iter.specs.Writing.{Wrote}
use Rattle.iter.specs.Steps.{symbols_walk, bytes_walk, symbol_step, after_symbol, byte_step, after_byte}
use Rattle.iter.specs.declared.BytesToSymbols.{BytesToSymbols}
use Rattle.iter.specs.declared.SymbolsToBytes.{SymbolsToBytes}
use Rattle.numbers.specs.declared.Refusal.{Refusal}
use Rattle.std.specs.Prelude.{Option, Some, Result, ⊤}

-- iter::symbols_for_bytes
abbrev pub SymbolsCounted : List ℕ → ℕ → Type 0
SymbolsCounted bytes r = r ≡ length (to_symbols bytes)

pub symbols_counted_once : (bytes : List ℕ) (r s : ℕ) → SymbolsCounted bytes r → SymbolsCounted bytes s → r ≡ s
symbols_counted_once bytes r s p q = same p q

-- iter::bytes_for_symbols
abbrev pub BytesCounted : List ℕ → ℕ → Type 0
BytesCounted symbols r = r ≡ length (to_bytes symbols)

pub bytes_counted_once : (symbols : List ℕ) (r s : ℕ) → BytesCounted symbols r → BytesCounted symbols s → r ≡ s
bytes_counted_once symbols r s p q = same p q

-- iter::bytes_to_symbols
abbrev pub SymbolsWritten : List ℕ → List ℕ → Result ℕ Refusal → List ℕ → Type 0
SymbolsWritten bytes before r after = Wrote (to_symbols bytes) before r after

pub symbols_written_once : (bytes before : List ℕ) (r s : Result ℕ Refusal) (after after' : List ℕ)
    → SymbolsWritten bytes before r after → SymbolsWritten bytes before s after' → (r ≡ s) × (after ≡ after')
symbols_written_once bytes before r s after after' p q = (same p.answer q.answer, same p.buffer q.buffer)

-- iter::symbols_to_bytes
abbrev pub BytesWritten : List ℕ → List ℕ → Result ℕ Refusal → List ℕ → Type 0
BytesWritten symbols before r after = Wrote (to_bytes symbols) before r after

pub bytes_written_once : (symbols before : List ℕ) (r s : Result ℕ Refusal) (after after' : List ℕ)
    → BytesWritten symbols before r after → BytesWritten symbols before s after' → (r ≡ s) × (after ≡ after')
bytes_written_once symbols before r s after after' p q = (same p.answer q.answer, same p.buffer q.buffer)

-- iter::characters_to_bytes
abbrev pub CharactersWritten : List ℕ → List ℕ → Result ℕ Refusal → List ℕ → Type 0
CharactersWritten characters before r after = Wrote (to_bytes (map symbol characters)) before r after

pub characters_written_once : (characters before : List ℕ) (r s : Result ℕ Refusal) (after after' : List ℕ)
    → CharactersWritten characters before r after → CharactersWritten characters before s after' → (r ≡ s) × (after ≡ after')
characters_written_once characters before r s after after' p q = (same p.answer q.answer, same p.buffer q.buffer)

-- iter::padding
abbrev pub PaddingJudged : List ℕ → Result ⊤ Refusal → Type 0
PaddingJudged symbols r = r ≡ padding_verdict symbols

pub padding_judged_once : (symbols : List ℕ) (r s : Result ⊤ Refusal) → PaddingJudged symbols r → PaddingJudged symbols s → r ≡ s
padding_judged_once symbols r s p q = same p q

-- iter::padding_of_characters
abbrev pub CharactersJudged : List ℕ → Result ⊤ Refusal → Type 0
CharactersJudged characters r = r ≡ padding_verdict (map symbol characters)

pub characters_judged_once : (characters : List ℕ) (r s : Result ⊤ Refusal) → CharactersJudged characters r → CharactersJudged characters s → r ≡ s
characters_judged_once characters r s p q = same p q

-- iter::BytesToSymbols::new
abbrev pub SymbolsBegun : ℕ × ℕ → List ℕ → BytesToSymbols → Type 0
SymbolsBegun place bytes r = r ≡ symbols_walk place bytes 0

pub symbols_begun_once : (place : ℕ × ℕ) (bytes : List ℕ) (r s : BytesToSymbols)
    → SymbolsBegun place bytes r → SymbolsBegun place bytes s → r ≡ s
symbols_begun_once place bytes r s p q = same p q

-- iter::BytesToSymbols::next
pub record SymbolGiven (before : BytesToSymbols) (r : Option ℕ) (after : BytesToSymbols) : Type 0 where
  pub given : r ≡ symbol_step before
  pub left : after ≡ after_symbol before

pub symbol_given_once : (before : BytesToSymbols) (r s : Option ℕ) (after after' : BytesToSymbols)
    → SymbolGiven before r after → SymbolGiven before s after' → (r ≡ s) × (after ≡ after')
symbol_given_once before r s after after' p q = (same p.given q.given, same p.left q.left)

-- size_hint of a walk with these values left: so many at least, and no more
abbrev pub CountTold : List ℕ → ℕ × Option ℕ → Type 0
CountTold left r = r ≡ (length left, Some (length left))

pub count_told_once : (left : List ℕ) (r s : ℕ × Option ℕ) → CountTold left r → CountTold left s → r ≡ s
count_told_once left r s p q = same p q

-- iter::SymbolsToBytes::new
abbrev pub BytesBegun : ℕ × ℕ → List ℕ → SymbolsToBytes → Type 0
BytesBegun place symbols r = r ≡ bytes_walk place symbols 0

pub bytes_begun_once : (place : ℕ × ℕ) (symbols : List ℕ) (r s : SymbolsToBytes)
    → BytesBegun place symbols r → BytesBegun place symbols s → r ≡ s
bytes_begun_once place symbols r s p q = same p q

-- iter::SymbolsToBytes::next
pub record ByteGiven (before : SymbolsToBytes) (r : Option ℕ) (after : SymbolsToBytes) : Type 0 where
  pub given : r ≡ byte_step before
  pub left : after ≡ after_byte before

pub byte_given_once : (before : SymbolsToBytes) (r s : Option ℕ) (after after' : SymbolsToBytes)
    → ByteGiven before r after → ByteGiven before s after' → (r ≡ s) × (after ≡ after')
byte_given_once before r s after after' p q = (same p.given q.given, same p.left q.left)
