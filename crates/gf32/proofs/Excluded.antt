-- Wrong answers that the promises rule out, each one that a slip in the code would give.
use mathlib.Core.Path.{◌≡◌, ap, sym}
use mathlib.Core.Bool.{true, false, false≢true}
use mathlib.Core.List.{List}
use Prim.Native.Nat.{ℕ}
use native.Mathlib.Omega.{arith}
use lib.ListN.{get_or, replicate}
use Rattle.laws.specs.Pick.{pick}
use Rattle.laws.specs.Lists.{table}
use Rattle.laws.specs.Xor.{◌⊕◌}
use Rattle.paper.specs.Charset.{charset, symbol, is_symbol, letter}
use Rattle.std.specs.Prelude.{Ok, Err}
use Rattle.numbers.specs.declared.Refusal.TheVariants.{OutsideCharset}
use Rattle.gf32.specs.Field.{sum, times_a, products, product, inverse, quotient}
use Rattle.gf32.specs.Bytes.{meaning, character}
use Rattle.gf32.specs.Classes.{class_of, symbol_in, outside_in, upper_in, lower_in, both_cases_in}
use Rattle.gf32.specs.Promises.{Added, Multiplied, Divided, ByteRead, ByteWritten, Lowered, ClassesGiven, ClassRead, SymbolRead, SymbolTold, OutsideTold, BothCasesTold}

-- a sum that keeps a coefficient both numbers have
pub sum_not_or : Added 1 1 1 → ⊥
unfolding sum ◌⊕◌
sum_not_or p = let e : ◌≡◌ {A = ℕ} 1 0 = p in omega arith

-- a sum that keeps what lies over 31
pub sum_not_wide : Added 0 32 32 → ⊥
unfolding sum ◌⊕◌
sum_not_wide p = let e : ◌≡◌ {A = ℕ} 32 0 = p in omega arith

-- a product that drops a^5 instead of carrying it: a times a^4 is 9
pub product_not_dropped : Multiplied 2 16 0 → ⊥
unfolding product products times_a ◌⊕◌
product_not_dropped p = let e : ◌≡◌ {A = ℕ} 0 9 = p in omega arith

-- one factor taken twice: a times a + 1 is a^2 + a
pub product_not_square : Multiplied 2 3 4 → ⊥
unfolding product products times_a ◌⊕◌
product_not_square p = let e : ◌≡◌ {A = ℕ} 4 6 = p in omega arith

-- a product for a quotient: 1 over a is 20
pub quotient_not_product : Divided 1 2 (Ok 2) → ⊥
unfolding quotient product products times_a inverse ◌⊕◌
quotient_not_product p = let e : ◌≡◌ {A = ℕ} 2 20 = cc in omega arith

-- zero over zero that is zero
pub quotient_not_of_zero : Divided 0 0 (Ok 0) → ⊥
unfolding quotient
quotient_not_of_zero p = cc

-- an upper-case character refused: Q
pub reads_upper_case : ByteRead 81 (Err OutsideCharset) → ⊥
unfolding meaning is_symbol symbol charset
reads_upper_case p = cc

-- a character outside the charset read as a symbol: b
pub reads_no_other : (v : ℕ) → ByteRead 98 (Ok v) → ⊥
unfolding meaning is_symbol symbol charset
reads_no_other v p = cc

-- the first two characters of the charset exchanged
pub writes_not_exchanged : ByteWritten 0 112 → ⊥
unfolding character letter charset
writes_not_exchanged p = let e : ◌≡◌ {A = ℕ} 112 113 = p in omega arith

-- symbol 31 written as symbol 15: by four of its five bits
pub writes_all_bits : ByteWritten 31 48 → ⊥
unfolding character letter charset
writes_all_bits p = let e : ◌≡◌ {A = ℕ} 48 108 = p in omega arith

-- Z left as it is, the byte after it folded, the letter before
pub lower_not_Z : Lowered 90 90 → ⊥
lower_not_Z p = let e : ◌≡◌ {A = ℕ} 90 122 = p in omega arith

pub lower_not_after_Z : Lowered 91 123 → ⊥
lower_not_after_Z p = let e : ◌≡◌ {A = ℕ} 123 91 = p in omega arith

pub lower_not_the_letter_before : Lowered 66 97 → ⊥
lower_not_the_letter_before p = let e : ◌≡◌ {A = ℕ} 97 98 = p in omega arith

-- classes that do not tell the case of a letter, and classes that know no symbol
pub classes_tell_case : ClassesGiven (table (λ c. pick (is_symbol c) (symbol c) 128) 256) → ⊥
unfolding class_of is_symbol symbol charset
classes_tell_case p = let e : ◌≡◌ {A = ℕ} 29 93 = ap (λ (r : List ℕ). get_or r 97 0) p in omega arith

pub classes_tell_symbols : ClassesGiven (replicate 256 128) → ⊥
unfolding class_of is_symbol symbol charset
classes_tell_symbols p = let e : ◌≡◌ {A = ℕ} 128 15 = ap (λ (r : List ℕ). get_or r 48 0) p in omega arith

-- the class of A taken for that of a, which hides its case; and that of b, which is no symbol, taken for that of the symbol 0
pub class_keeps_case : ClassRead 65 93 → ⊥
unfolding class_of is_symbol symbol charset
class_keeps_case p = let e : ◌≡◌ {A = ℕ} 93 61 = p in omega arith

pub class_not_of_others : ClassRead 98 64 → ⊥
unfolding class_of is_symbol symbol charset
class_not_of_others p = let e : ◌≡◌ {A = ℕ} 64 192 = p in omega arith

-- A read with its case still in its symbol, and b, which is no symbol, read as the symbol 0
pub symbol_read_without_case : SymbolRead 65 61 → ⊥
unfolding symbol charset
symbol_read_without_case p = let e : ◌≡◌ {A = ℕ} 61 29 = p in omega arith

pub symbol_read_not_of_others : SymbolRead 98 0 → ⊥
unfolding symbol charset
symbol_read_not_of_others p = let e : ◌≡◌ {A = ℕ} 0 32 = p in omega arith

-- the class of a, symbol 29 in lower case, with its case kept; that of a byte outside the charset read as the symbol 0, which is q
pub symbol_not_with_case : SymbolTold 93 93 → ⊥
unfolding symbol_in
symbol_not_with_case p = let e : ◌≡◌ {A = ℕ} 93 29 = p in omega arith

pub symbol_not_of_others : SymbolTold 128 0 → ⊥
unfolding symbol_in
symbol_not_of_others p = let e : ◌≡◌ {A = ℕ} 0 32 = p in omega arith

-- every letter taken for one outside the charset: a. And b, which is one, not seen where its class is joined to that of a
pub outside_not_every_letter : OutsideTold 93 true → ⊥
unfolding outside_in
outside_not_every_letter p = false≢true (sym p)

pub outside_not_alone : OutsideTold 221 false → ⊥
unfolding outside_in
outside_not_alone p = false≢true p

-- one case taken for both: A alone, a alone. And both of them not seen
pub cases_not_upper_alone : BothCasesTold 61 true → ⊥
unfolding both_cases_in upper_in lower_in
cases_not_upper_alone p = false≢true (sym p)

pub cases_not_lower_alone : BothCasesTold 93 true → ⊥
unfolding both_cases_in upper_in lower_in
cases_not_lower_alone p = false≢true (sym p)

pub cases_not_one : BothCasesTold 125 false → ⊥
unfolding both_cases_in upper_in lower_in
cases_not_one p = false≢true p
