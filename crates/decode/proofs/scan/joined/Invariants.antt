-- What lies behind the bytes that are left has these joined classes.
use Rattle.decode.proofs.Scanning.{Passed}
use Rattle.decode.proofs.scan.joined.Given as goal

abbrev pub invariant-loop-byte : goal.invariant-loop-byte
invariant-loop-byte l = Passed l.bytes l.byte-iterator.iter.rest.now l.classes
