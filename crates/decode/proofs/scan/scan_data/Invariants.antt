-- What lies behind the characters that are left has these joined classes and no separator, and places are counted from the string's start.
use Rattle.std.proofs.Common.{◌≡◌}
use Rattle.decode.proofs.Scanning.{NonePassed}
use Rattle.decode.proofs.scan.scan_data.Given as goal

abbrev pub invariant-loop-at : goal.invariant-loop-at
invariant-loop-at l = NonePassed l.s l.at-iterator.iter.iter.rest.now l.classes × (l.at-iterator.iter.count ≡ 0)
