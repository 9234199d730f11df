-- `place_of` meets its promise: each test that fails leaves no place that explains the residue, and where all pass the exponent is one.
use mathlib.Core.Path.{◌≡◌, refl, sym, ap, ◌∙◌}
use mathlib.Core.List.{[], ◌∷◌}
use Prim.Native.Nat.{ℕ, ◌^◌, ◌<◌}
use native.Mathlib.Omega.{arith}
use Rattle.std.specs.Prelude.{Option, Some, None, Result, Ok, Err, ok_or, is_ok}
use Rattle.std.specs.Result.{result_ok}
use Rattle.numbers.specs.declared.Refusal.{Refusal}
use Rattle.numbers.specs.declared.Refusal.TheVariants.{NoSinglePlace}
use Rattle.gf32_ext.specs.Field.{product, power, quotient}
use Rattle.gf32_ext.specs.Roots.{root_generator}
use Rattle.gf32_ext.proofs.Norm.{quotient_lt}
use Rattle.checksum.proofs.Constants.{constant_lt}
use Rattle.fieldvec.specs.declared.FieldVec.{FieldVec}
use Rattle.fieldvec.specs.Lists.{listed}
use Rattle.polynomial.specs.Answers.{first_root}
use Rattle.detection.specs.Places.{Explains}
use Rattle.correction.specs.declared.Values.{Values}
use Rattle.correction.specs.Locator.{place_verdict}
use Rattle.correction.specs.Values.{ValuesOf}
use Rattle.correction.proofs.Verdicts.{statement_explains, place_found, place_missing}
use Rattle.correction.proofs.OneChange.{has_ratio, ratio_is, one_ratio, has_change, small_change, place_explains, root_given, root_there, root_below, root_found}
use Rattle.correction.proofs.place_of.Goals as goal

-- what `.ok()?` lets through, and what it stops at
given : {A : Type 0} {x : A} (q : Result A Refusal) {r : Result A Refusal} → Some x ≡ result_ok r → r ≡ q → Ok x ≡ q
given {A} {x} q e same = by_case q (e ∙ ap result_ok same)
  where
    by_case : (q : Result A Refusal) → Some x ≡ result_ok q → Ok x ≡ q
    by_case (Ok y) e = cc
    by_case (Err m) e = absurd cc

refused : {A : Type 0} (q : Result A Refusal) {r : Result A Refusal} → None ≡ result_ok r → r ≡ q → ((m : Refusal) → Err m ≡ q → ⊥) → ⊥
refused {A} q e same never = by_case q (e ∙ ap result_ok same) never
  where
    by_case : (q : Result A Refusal) → None ≡ result_ok q → ((m : Refusal) → Err m ≡ q → ⊥) → ⊥
    by_case (Ok y) e never = cc
    by_case (Err m) e never = never m refl

-- no place explains, so none is named
unexplained : {residue constant : ℕ} {r : Option ℕ} → r ≡ None → ((p : ℕ) → Explains residue constant p → ⊥)
    → ok_or r NoSinglePlace ≡ place_verdict constant residue
unexplained {residue} {constant} e none =
    ap (λ (o : Option ℕ). ok_or o NoSinglePlace) e ∙ sym (place_missing constant residue (λ p h. none p))

-- where all tests pass the root decides
by_root : {residue constant ratio change : ℕ} {values : Values} → ValuesOf residue constant values → residue < 2 ^ 30 → constant < 2 ^ 30
    → Ok ratio ≡ quotient values.at_25 values.at_24 → product ratio values.at_25 ≡ values.at_26 → Ok change ≡ quotient values.at_24 (power ratio 24)
    → change < 32 → (r : Option ℕ) → Ok r ≡ first_root (listed (ratio ∷ 1 ∷ [])) root_generator 0 → ok_or r NoSinglePlace ≡ place_verdict constant residue
by_root {residue} {constant} {ratio} read residue_lt constant_lt divided next left small None root =
    sym (place_missing constant residue (λ p h x. root_there ratio p h (ratio_is read x divided) root))
by_root {residue} {constant} {ratio} read residue_lt constant_lt divided next left small (Some p) root =
    let ratio_lt = quotient_lt _ _ ratio divided in
    sym (place_found constant residue p (root_below ratio ratio_lt p root)
    (statement_explains constant residue p
    (place_explains read residue_lt constant_lt p divided next left small (root_found ratio ratio_lt p root))))

pub returns-in_err-ratio : goal.returns-in_err-ratio
returns-in_err-ratio c =
    unexplained c.from_residual.ensures (λ p x. refused _ c.in_err-ratio.ensures.value c.divide.ensures (has_ratio c.values_of-values.ensures x))

pub returns-then-multiply-values : goal.returns-then-multiply-values
returns-then-multiply-values c =
    let divided = given _ c.in_ok-ratio.ensures.value c.divide.ensures in
    unexplained refl (λ p x. c.if-multiply-values.true (c.multiply.ensures ∙ one_ratio c.values_of-values.ensures x divided))

pub returns-in_err-change : goal.returns-in_err-change
returns-in_err-change c =
    let divided = given _ c.in_ok-ratio.ensures.value c.divide.ensures in
    let left = c.divide-2.ensures ∙ ap (quotient _) c.power_24.ensures in
    unexplained c.from_residual-in_err-change.ensures
    (λ p x. refused _ c.in_err-change.ensures.value left (has_change c.values_of-values.ensures x divided))

pub returns-then-change-gt31 : goal.returns-then-change-gt31
returns-then-change-gt31 c =
    let divided = given _ c.in_ok-ratio.ensures.value c.divide.ensures in
    let left = given _ c.in_ok-change.ensures.value (c.divide-2.ensures ∙ ap (quotient _) c.power_24.ensures) in
    unexplained refl (λ p x. omega (arith, c.if-change-gt31.true, small_change c.values_of-values.ensures x divided _ left))

pub with_root-requires : goal.with_root-requires
with_root-requires c = quotient_lt _ _ _ (given _ c.in_ok-ratio.ensures.value c.divide.ensures)

pub unwrap-requires : goal.unwrap-requires
unwrap-requires c =
    ap is_ok (c.first_root.ensures ∙ ap (λ (p : FieldVec). first_root p root_generator 0) c.with_root.ensures) ∙ root_given c.in_ok-ratio.ratio

pub returns : goal.returns
returns c =
    by_root c.values_of-values.ensures c.requires (constant_lt c.args.checksum) (given _ c.in_ok-ratio.ensures.value c.divide.ensures)
    (sym c.multiply.ensures ∙ c.if-multiply-values.false)
    (given _ c.in_ok-change.ensures.value (c.divide-2.ensures ∙ ap (quotient _) c.power_24.ensures))
    (omega arith) _
    (sym c.unwrap.ensures ∙ c.first_root.ensures ∙ ap (λ (p : FieldVec). first_root p root_generator 0) c.with_root.ensures)
