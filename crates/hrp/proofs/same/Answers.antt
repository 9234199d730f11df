-- `same` gives what the definition gives: the library's test is equality of the folded lists.
use Rattle.hrp.proofs.Ascii.{same_folded}
use Rattle.hrp.proofs.same.Goals as goal

pub returns : goal.returns
returns c = same_folded _ _ _ c.eq_ignore_ascii_case.ensures.test
