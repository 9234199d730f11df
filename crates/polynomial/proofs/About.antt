-- An answer about the polynomial that a FieldVec means, where its count is within its capacity and where it is not.
use mathlib.Core.Path.{◌≡◌}
use mathlib.Core.List.{List}
use Prim.Native.Nat.{ℕ, ◌<◌, ◌≤◌}
use borrow.Author.Tests.{lt-ltb, le-ltb}
use Rattle.std.specs.Prelude.{Result, Err}
use Rattle.numbers.specs.declared.Refusal.{Refusal}
use Rattle.numbers.specs.declared.Refusal.TheVariants.{ListPlace}
use Rattle.fieldvec.specs.declared.FieldVec.{FieldVec}
use Rattle.fieldvec.specs.Lists.{elements}
use Rattle.polynomial.specs.Answers.{about}

module _ {A : Type 0} (p : FieldVec) (answer : List ℕ → Result A Refusal) where
  pub about_outside : 7 < p.len → about p answer ≡ Err ListPlace
  about_outside h = rw (lt-ltb 7 p.len h)

  pub about_whole : p.len ≤ 7 → about p answer ≡ answer (elements p)
  about_whole h = rw (le-ltb 7 p.len h)
