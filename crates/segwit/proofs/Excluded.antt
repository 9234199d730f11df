-- Wrong answers that the promises rule out, each on a concrete input.
use mathlib.Core.Path.{sym}
use Rattle.numbers.proofs.Numbers.{err_apart}
use Rattle.answers.specs.Rules.{version_verdict, length_verdict}
use Rattle.segwit.specs.Promises.{VersionChecked, ProgramLengthChecked}
use Rattle.numbers.specs.declared.Refusal.TheVariants.{VersionUnknown, ProgramLength, ProgramLengthVersion0}
use Rattle.std.specs.Prelude.{Ok, Err}

-- version 16 refused, 17 accepted
pub not_16_refused : VersionChecked 16 (Err VersionUnknown) → ⊥
unfolding version_verdict
not_16_refused p = err_apart tt VersionUnknown p

pub not_17_accepted : VersionChecked 17 (Ok tt) → ⊥
unfolding version_verdict
not_17_accepted p = err_apart tt VersionUnknown (sym p)

-- 40 bytes refused, 41 accepted, 1 accepted
pub not_40_refused : ProgramLengthChecked 1 40 (Err ProgramLength) → ⊥
unfolding length_verdict
not_40_refused p = err_apart tt ProgramLength p

pub not_41_accepted : ProgramLengthChecked 1 41 (Ok tt) → ⊥
unfolding length_verdict
not_41_accepted p = err_apart tt ProgramLength (sym p)

pub not_1_accepted : ProgramLengthChecked 1 1 (Ok tt) → ⊥
unfolding length_verdict
not_1_accepted p = err_apart tt ProgramLength (sym p)

-- version 0 with 21 bytes accepted, version 1 held to the lengths of version 0
pub not_21_of_version_0 : ProgramLengthChecked 0 21 (Ok tt) → ⊥
unfolding length_verdict
not_21_of_version_0 p = err_apart tt ProgramLengthVersion0 (sym p)

pub not_21_of_version_1 : ProgramLengthChecked 1 21 (Err ProgramLengthVersion0) → ⊥
unfolding length_verdict
not_21_of_version_1 p = err_apart tt ProgramLengthVersion0 p
