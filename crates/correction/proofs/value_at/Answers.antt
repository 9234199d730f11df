-- `value_at`: within the bound the value is given.
use mathlib.Core.Path.{◌≡◌, ap, ◌∙◌}
use Prim.Native.Nat.{ℕ, ◌≤◌}
use borrow.Author.Tests.{le-ltb}
use Rattle.std.specs.Prelude.{Ok, is_ok}
use Rattle.fieldvec.specs.declared.FieldVec.{FieldVec}
use Rattle.fieldvec.specs.Lists.{elements}
use Rattle.polynomial.specs.Polynomials.{value_at}
use Rattle.polynomial.specs.Answers.{value_of}
use Rattle.correction.proofs.value_at.Goals as goal

given : (p : FieldVec) (x : ℕ) → p.len ≤ 7 → value_of p x ≡ Ok (value_at (elements p) x)
unfolding value_of
given p x h = rw (le-ltb 7 p.len h)

pub unwrap-requires : goal.unwrap-requires
unwrap-requires c = ap is_ok (c.evaluate.ensures ∙ given c.args.p.now c.args.x c.requires)

pub returns : goal.returns
returns c = cc (given c.args.p.now c.args.x c.requires)
