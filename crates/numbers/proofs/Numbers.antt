-- A refusal is known by its number: no two have one number, and none has that of what is accepted.
use Rattle.std.specs.Prelude.{◌≡◌, ℕ, cond, eqb, Result, Ok, Err}
use Rattle.std.proofs.Common.{refl, sym, ap, ◌∙◌, arith}
use Rattle.numbers.specs.declared.Refusal.{Refusal}
use Rattle.numbers.specs.declared.Refusal.TheVariants.{OutsideCharset, MixedCase, NoSeparator, PrefixEmpty, PrefixLong, PrefixByte, StringLong, DataShort, ChecksumWrong, AddressLong, NoData, VersionUnknown, PaddingLong, PaddingNotZero, ProgramLength, ProgramLengthVersion0, RoomSmall, SymbolLarge, BatchLong, EntryOutside, NoSinglePlace, ScratchSmall, WindowOutside, BudgetSpent, ListFull, ListPlace, DivisionByZero, ChecksumUnknown, RangesOverlap}
use Rattle.numbers.specs.Numbers.{number_of, number_in}

-- the refusal with a number
abbrev with_number : ℕ → Refusal
with_number n =
    cond (eqb n 1) OutsideCharset
    (cond (eqb n 2) MixedCase
    (cond (eqb n 3) NoSeparator
    (cond (eqb n 4) PrefixEmpty
    (cond (eqb n 5) PrefixLong
    (cond (eqb n 6) PrefixByte
    (cond (eqb n 7) StringLong
    (cond (eqb n 8) DataShort
    (cond (eqb n 9) ChecksumWrong
    (cond (eqb n 10) AddressLong
    (cond (eqb n 11) NoData
    (cond (eqb n 12) VersionUnknown
    (cond (eqb n 13) PaddingLong
    (cond (eqb n 14) PaddingNotZero
    (cond (eqb n 15) ProgramLength
    (cond (eqb n 16) ProgramLengthVersion0
    (cond (eqb n 17) RoomSmall
    (cond (eqb n 18) SymbolLarge
    (cond (eqb n 19) BatchLong
    (cond (eqb n 20) EntryOutside
    (cond (eqb n 21) NoSinglePlace
    (cond (eqb n 22) ScratchSmall
    (cond (eqb n 23) WindowOutside
    (cond (eqb n 24) BudgetSpent
    (cond (eqb n 25) ListFull
    (cond (eqb n 26) ListPlace
    (cond (eqb n 27) DivisionByZero
    (cond (eqb n 28) ChecksumUnknown
    RangesOverlap)))))))))))))))))))))))))))

with_number_of : (r : Refusal) → with_number (number_of r) ≡ r
with_number_of OutsideCharset = refl
with_number_of MixedCase = refl
with_number_of NoSeparator = refl
with_number_of PrefixEmpty = refl
with_number_of PrefixLong = refl
with_number_of PrefixByte = refl
with_number_of StringLong = refl
with_number_of DataShort = refl
with_number_of ChecksumWrong = refl
with_number_of AddressLong = refl
with_number_of NoData = refl
with_number_of VersionUnknown = refl
with_number_of PaddingLong = refl
with_number_of PaddingNotZero = refl
with_number_of ProgramLength = refl
with_number_of ProgramLengthVersion0 = refl
with_number_of RoomSmall = refl
with_number_of SymbolLarge = refl
with_number_of BatchLong = refl
with_number_of EntryOutside = refl
with_number_of NoSinglePlace = refl
with_number_of ScratchSmall = refl
with_number_of WindowOutside = refl
with_number_of BudgetSpent = refl
with_number_of ListFull = refl
with_number_of ListPlace = refl
with_number_of DivisionByZero = refl
with_number_of ChecksumUnknown = refl
with_number_of RangesOverlap = refl

pub number_injective : (q r : Refusal) → number_of q ≡ number_of r → q ≡ r
number_injective q r e = sym (with_number_of q) ∙ ap with_number e ∙ with_number_of r

pub number_not_zero : (r : Refusal) → number_of r ≡ 0 → ⊥
number_not_zero OutsideCharset e = omega arith
number_not_zero MixedCase e = omega arith
number_not_zero NoSeparator e = omega arith
number_not_zero PrefixEmpty e = omega arith
number_not_zero PrefixLong e = omega arith
number_not_zero PrefixByte e = omega arith
number_not_zero StringLong e = omega arith
number_not_zero DataShort e = omega arith
number_not_zero ChecksumWrong e = omega arith
number_not_zero AddressLong e = omega arith
number_not_zero NoData e = omega arith
number_not_zero VersionUnknown e = omega arith
number_not_zero PaddingLong e = omega arith
number_not_zero PaddingNotZero e = omega arith
number_not_zero ProgramLength e = omega arith
number_not_zero ProgramLengthVersion0 e = omega arith
number_not_zero RoomSmall e = omega arith
number_not_zero SymbolLarge e = omega arith
number_not_zero BatchLong e = omega arith
number_not_zero EntryOutside e = omega arith
number_not_zero NoSinglePlace e = omega arith
number_not_zero ScratchSmall e = omega arith
number_not_zero WindowOutside e = omega arith
number_not_zero BudgetSpent e = omega arith
number_not_zero ListFull e = omega arith
number_not_zero ListPlace e = omega arith
number_not_zero DivisionByZero e = omega arith
number_not_zero ChecksumUnknown e = omega arith
number_not_zero RangesOverlap e = omega arith

-- ---- answers

pub err_injective : {A : Type 0} (q r : Refusal) → ◌≡◌ {A = Result A Refusal} (Err q) (Err r) → q ≡ r
err_injective q r e = number_injective q r (ap number_in e)

pub err_apart : {A : Type 0} (a : A) (r : Refusal) → ◌≡◌ {A = Result A Refusal} (Err r) (Ok a) → ⊥
err_apart a r e = number_not_zero r (ap number_in e)

pub ok_injective : {A : Type 0} (a b : A) → ◌≡◌ {A = Result A Refusal} (Ok a) (Ok b) → a ≡ b
ok_injective a b e = cc
