-- The refusals that the locator never gives: it gives that there is no single place, and what reading gives.
use mathlib.Core.Path.{◌≡◌, refl, ap, ◌∙◌}
use mathlib.Core.Logic.{◌≢◌}
use mathlib.Core.Bool.{Bool, true, false}
use mathlib.Core.List.{List, map}
use Prim.Native.Nat.{ℕ}
use lib.Dec.{T, ltb}
use Rattle.std.specs.Prelude.{Result, Ok, Err}
use Rattle.numbers.specs.declared.Refusal.{Refusal}
use Rattle.numbers.specs.declared.Refusal.TheVariants.{ChecksumWrong, NoSinglePlace}
use Rattle.laws.specs.Pick.{pick}
use Rattle.laws.specs.Lists.{first_below}
use Rattle.paper.specs.Charset.{symbol}
use Rattle.paper.specs.Checksum.{residue}
use Rattle.answers.specs.declared.Parts.{Parts}
use Rattle.answers.specs.Order.{is_same}
use Rattle.answers.specs.Reading.{prefix_part, data_part, reading_rules, read_verdict}
use Rattle.answers.proofs.Orders.{given_nowhere}
use Rattle.answers.proofs.Refusals.{reading_never}
use Rattle.correction.specs.Locator.{explains, place_verdict, after_reading, locate_verdict}

no_place : (constant r : ℕ) (n : Refusal) → n ≢ NoSinglePlace → place_verdict constant r ≡ Err n → ⊥
unfolding place_verdict
no_place constant r n other = by_test (ltb (first_below 1023 (explains constant r)) 1023)
  where
    by_test : (b : Bool) → pick b (Ok (first_below 1023 (explains constant r))) (Err NoSinglePlace) ≡ Err n → ⊥
    by_test true e = cc
    by_test false e = other cc

pub locate_never : (constant : ℕ) (s : List ℕ) (n : Refusal) → n ≢ NoSinglePlace → T (given_nowhere n (reading_rules constant s))
    → locate_verdict constant s ≡ Err n → ⊥
unfolding locate_verdict
locate_never constant s n other t = by_reading (read_verdict constant s) refl
  where
    by_refusal : (m : Refusal) (b : Bool) → read_verdict constant s ≡ Err m
        → pick b (place_verdict constant (residue (prefix_part s) (map symbol (data_part s)))) (Err m) ≡ Err n → ⊥
    by_refusal m true read e = no_place constant (residue (prefix_part s) (map symbol (data_part s))) n other e
    by_refusal m false read e = let same : m ≡ n = cc in reading_never constant s n t (read ∙ ap Err same)

    by_reading : (v : Result Parts Refusal) → read_verdict constant s ≡ v
        → after_reading v (place_verdict constant (residue (prefix_part s) (map symbol (data_part s)))) ≡ Err n → ⊥
    by_reading (Ok parts) read e = other cc
    by_reading (Err m) read e = by_refusal m (is_same m ChecksumWrong) read e
