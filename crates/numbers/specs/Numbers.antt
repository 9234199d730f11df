-- Document 01, "Answers": each refusal's number, and an answer as one number.
use Rattle.std.specs.Prelude.{ℕ, Result, Ok, Err}
use Rattle.numbers.specs.declared.Refusal.{Refusal}
use Rattle.numbers.specs.declared.Refusal.TheVariants.{OutsideCharset, MixedCase, NoSeparator, PrefixEmpty, PrefixLong, PrefixByte, StringLong, DataShort, ChecksumWrong, AddressLong, NoData, VersionUnknown, PaddingLong, PaddingNotZero, ProgramLength, ProgramLengthVersion0, RoomSmall, SymbolLarge, BatchLong, EntryOutside, NoSinglePlace, ScratchSmall, WindowOutside, BudgetSpent, ListFull, ListPlace, DivisionByZero, ChecksumUnknown, RangesOverlap}

abbrev pub number_of : Refusal → ℕ
number_of OutsideCharset = 1
number_of MixedCase = 2
number_of NoSeparator = 3
number_of PrefixEmpty = 4
number_of PrefixLong = 5
number_of PrefixByte = 6
number_of StringLong = 7
number_of DataShort = 8
number_of ChecksumWrong = 9
number_of AddressLong = 10
number_of NoData = 11
number_of VersionUnknown = 12
number_of PaddingLong = 13
number_of PaddingNotZero = 14
number_of ProgramLength = 15
number_of ProgramLengthVersion0 = 16
number_of RoomSmall = 17
number_of SymbolLarge = 18
number_of BatchLong = 19
number_of EntryOutside = 20
number_of NoSinglePlace = 21
number_of ScratchSmall = 22
number_of WindowOutside = 23
number_of BudgetSpent = 24
number_of ListFull = 25
number_of ListPlace = 26
number_of DivisionByZero = 27
number_of ChecksumUnknown = 28
number_of RangesOverlap = 37

-- 0 for accepted
abbrev pub number_in : {A : Type 0} → Result A Refusal → ℕ
number_in (Ok x) = 0
number_in (Err refusal) = number_of refusal
