-- Document 01 has no number for "no root left": it is accepted, and 0 or 1 says whether there is a root, since exponent 0 may be one; the
-- exponent is 0 where there is none.
use Rattle.std.specs.Prelude.{Option, Some, None, Result, Ok, Err, ℕ}
use Rattle.numbers.specs.declared.Refusal.{Refusal}

abbrev pub found_of_root : Result (Option ℕ) Refusal → ℕ
found_of_root (Ok (Some e)) = 1
found_of_root (Ok None) = 0
found_of_root (Err k) = 0

abbrev pub exponent_of_root : Result (Option ℕ) Refusal → ℕ
exponent_of_root (Ok (Some e)) = e
exponent_of_root (Ok None) = 0
exponent_of_root (Err k) = 0
