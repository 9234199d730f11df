-- Document 01's locator as a statement: its test of a place, the place that explains the residue, and that there is at most one below 1023.
use mathlib.Core.Path.{◌≡◌, refl}
use mathlib.Core.Bool.{Bool, true, false}
use Prim.Native.Nat.{ℕ, zero, suc, ◌<◌}
use native.Mathlib.Omega.{arith}
use lib.Dec.{eqb, ltb}
use borrow.Author.Tests.{eqb-true, eq-eqb, ltb-true, lt-ltb}
use Rattle.std.specs.Prelude.{Ok, Err}
use Rattle.numbers.specs.declared.Refusal.TheVariants.{NoSinglePlace}
use Rattle.laws.specs.Pick.{pick}
use Rattle.laws.specs.Xor.{◌⊕◌}
use Rattle.laws.specs.Lists.{any_below, first_below}
use Rattle.laws.proofs.Below.{some_below, below_some}
use Rattle.laws.proofs.First.{first_below_lem, found_below}
use Rattle.paper.specs.Checksum.{change_at}
use Rattle.detection.specs.Places.{Explains}
use Rattle.detection.proofs.Locate.{one_place}
use Rattle.correction.specs.Locator.{explains, place_verdict}

module _ (constant r p : ℕ) where
  pub explains_statement : explains constant r p ≡ true → Explains r constant p
  unfolding explains
  explains_statement e =
      let found = some_below (λ e. eqb (r ⊕ change_at p (suc e)) constant) 31 e in
      let h : found.0 < 31 = found.1 in
      record {
        change = suc found.0;
        proper = (omega arith, omega arith);
        gives = eqb-true (r ⊕ change_at p (suc found.0)) constant found.2;
      }

  pub statement_explains : Explains r constant p → explains constant r p ≡ true
  unfolding explains
  statement_explains x = by_change x.change x.proper.0 x.proper.1 x.gives
    where
      by_change : (e : ℕ) → 0 < e → e < 32 → r ⊕ change_at p e ≡ constant → any_below 31 (λ e. eqb (r ⊕ change_at p (suc e)) constant) ≡ true
      by_change zero some small gives = absurd (omega arith)
      by_change (suc e) some small gives =
          below_some (λ e. eqb (r ⊕ change_at p (suc e)) constant) 31 e (omega arith)
          (eq-eqb (r ⊕ change_at p (suc e)) constant gives)

-- two places below 1023 never both explain a residue
pub one_place_explains : (constant r p q : ℕ) → p < 1023 → q < 1023 → explains constant r p ≡ true → explains constant r q ≡ true → p ≡ q
one_place_explains constant r p q hp hq e f =
    one_place r constant p q hp hq (explains_statement constant r p e) (explains_statement constant r q f)

-- so the place that explains is the one that the verdict gives
pub place_found : (constant r p : ℕ) → p < 1023 → explains constant r p ≡ true → place_verdict constant r ≡ Ok p
unfolding place_verdict
place_found constant r p h e =
    let first : first_below 1023 (explains constant r) ≡ p = first_below_lem (explains constant r) 1023 p h e earlier in
    rw (first, lt-ltb p 1023 h) refl
  where
    earlier : (q : ℕ) → q < p → explains constant r q ≡ false
    earlier q before = by_test (explains constant r q) refl
      where
        by_test : (b : Bool) → explains constant r q ≡ b → explains constant r q ≡ false
        by_test false seen = seen
        by_test true seen =
            let same : q ≡ p = one_place_explains constant r q p (omega arith) h seen e in
            absurd (omega arith)

-- and where none explains there is no single place
pub place_missing : (constant r : ℕ) → ((p : ℕ) → p < 1023 → Explains r constant p → ⊥) → place_verdict constant r ≡ Err NoSinglePlace
unfolding place_verdict
place_missing constant r none = by_test (ltb (first_below 1023 (explains constant r)) 1023) refl
  where
    by_test : (b : Bool) → ltb (first_below 1023 (explains constant r)) 1023 ≡ b
        → pick b (Ok (first_below 1023 (explains constant r))) (Err NoSinglePlace) ≡ Err NoSinglePlace
    by_test false seen = refl
    by_test true seen =
        let h : first_below 1023 (explains constant r) < 1023 = ltb-true (first_below 1023 (explains constant r)) 1023 seen in
        absurd (none (first_below 1023 (explains constant r)) h
        (explains_statement constant r (first_below 1023 (explains constant r)) (found_below (explains constant r) 1023 h)))

-- a place that the verdict gives explains
pub place_given : (constant r p : ℕ) → place_verdict constant r ≡ Ok p → (p < 1023) × Explains r constant p
unfolding place_verdict
place_given constant r p e = by_test (ltb (first_below 1023 (explains constant r)) 1023) refl e
  where
    by_test : (b : Bool) → ltb (first_below 1023 (explains constant r)) 1023 ≡ b
        → pick b (Ok (first_below 1023 (explains constant r))) (Err NoSinglePlace) ≡ Ok p → (p < 1023) × Explains r constant p
    by_test false seen e = absurd cc
    by_test true seen e =
        let h : first_below 1023 (explains constant r) < 1023 = ltb-true (first_below 1023 (explains constant r)) 1023 seen in
        let same : p ≡ first_below 1023 (explains constant r) = cc in
        (rw same h, rw same (explains_statement constant r (first_below 1023 (explains constant r)) (found_below (explains constant r) 1023 h)))
