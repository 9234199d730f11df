-- Symbols over 31: the test and the statement.
use mathlib.Core.Path.{◌≡◌, refl, ap}
use mathlib.Core.Bool.{Bool, false, ◌||◌}
use mathlib.Core.List.{List, [], ◌∷◌}
use Prim.Native.Nat.{ℕ, ◌<◌, ◌≤◌}
use native.Mathlib.Omega.{arith}
use lib.Dec.{ltb}
use Rattle.std.specs.List.{list_any}
use borrow.Author.Tests.{ltb-false, le-ltb}
use Rattle.laws.specs.Lists.{Every}
use Rattle.laws.proofs.Lists.{any_none, none_any}
use Rattle.answers.specs.Writing.{symbol_large}

pub all_small : (symbols : List ℕ) → symbol_large symbols ≡ false → Every (λ v. v < 32) symbols
unfolding symbol_large
all_small symbols e =
    any_none (λ v. ltb 31 v) (λ v. v < 32) (λ v l. let h : v ≤ 31 = ltb-false 31 v l in omega arith) symbols e

pub none_large : (symbols : List ℕ) → Every (λ v. v < 32) symbols → symbol_large symbols ≡ false
unfolding symbol_large
none_large symbols p = none_any (λ v. ltb 31 v) (λ v. v < 32) (λ v h. le-ltb 31 v (omega arith)) symbols p

-- the code's test is the rule's
pub large_listed : (symbols : List ℕ) → list_any (λ v. ltb 31 v) symbols ≡ symbol_large symbols
unfolding symbol_large
large_listed [] = refl
large_listed (v ∷ symbols) = ap (λ (later : Bool). ltb 31 v || later) (large_listed symbols)
