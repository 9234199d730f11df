-- `check_bytes` gives what the definition gives. The invariant: nothing offends before this byte, and the two flags say which cases came, not both.
use mathlib.Core.Path.{◌≡◌}
use mathlib.Core.Bool.{false, ◌&&◌}
use lib.ListN.{drop}
use Rattle.answers.specs.Rules.{offence_after, offence}
use Rattle.hrp.proofs.check_bytes.Given as goal

abbrev pub invariant-loop-byte : goal.invariant-loop-byte
invariant-loop-byte l = (offence_after l.upper l.lower (drop l.byte-index l.prefix) ≡ offence l.prefix) × (l.upper && l.lower ≡ false)
