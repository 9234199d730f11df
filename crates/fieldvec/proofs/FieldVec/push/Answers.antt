-- `FieldVec::push` meets its promise, by the test.
use mathlib.Core.Path.{refl}
use borrow.Author.Tests.{le-leb, lt-leb}
use Rattle.fieldvec.specs.Lists.{pushed}
use Rattle.fieldvec.proofs.Laws.{refuses, changes}
use Rattle.fieldvec.proofs.FieldVec.push.Goals as goal

pub returns-then-at-ge-CAPACITY : goal.returns-then-at-ge-CAPACITY
unfolding pushed
returns-then-at-ge-CAPACITY c = refuses _ refl (rw (le-leb _ _ c.if-at-ge-CAPACITY.true))

pub returns : goal.returns
unfolding pushed
returns c = changes _ (rw (lt-leb _ _ c.if-at-ge-CAPACITY.false, c.narrowed.ensures))
