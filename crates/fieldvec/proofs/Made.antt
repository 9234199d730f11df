-- An array made from a function of the place, by a closure that no call changes.
use mathlib.Core.Path.{◌≡◌, sym, ap, ◌∙◌, subst}
use mathlib.Core.List.{List}
use Prim.Native.Nat.{ℕ, zero, suc, ◌+◌, ◌<◌, ◌≤◌}
use native.Mathlib.Decide.{ℕ_discrete}
use native.Mathlib.Omega.{arith}
use lib.ListN.{get_or}
use denote.Param.Members.{Mut}
use Rattle.std.specs.Fn.{Called}
use Rattle.std.specs.Array.{IsFromFnResultFrom, IsFromFnResult}

module _ {F : Type 0} (g : Mut F (ℕ × Unit {0}) ℕ) (h : ℕ → ℕ) (f : F) (same : (i r : ℕ) (q : F) → Called g f (i, tt) r q → (q ≡ f) × (r ≡ h i)) where
  from_place : (ys : List ℕ) (i n : ℕ) → IsFromFnResultFrom g f ys i n → (k : ℕ) → i ≤ k → k < i + n → get_or ys k 0 ≡ h k
  from_place ys i zero made k low high = absurd (omega arith)
  from_place ys i (suc n) made k low high =
      by (ℕ_discrete k i) (from_place ys (i + 1) n (subst (λ (q : F). IsFromFnResultFrom g q ys (i + 1) n) (same i made.1 made.0 made.3).0 made.4) k)
    where
      by : Dec (k ≡ i) → (i + 1 ≤ k → k < i + 1 + n → get_or ys k 0 ≡ h k) → get_or ys k 0 ≡ h k
      by (yes e) later = ap (λ (j : ℕ). get_or ys j 0) e ∙ made.2.1 0 ∙ (same i made.1 made.0 made.3).1 ∙ ap h (sym e)
      by (no d) later = later (omega (arith, d)) (omega arith)

  pub from_fn_at : (ys : List ℕ) (n : ℕ) → IsFromFnResult g f ys n → (k : ℕ) → k < n → get_or ys k 0 ≡ h k
  from_fn_at ys n made k below = from_place ys 0 n made.each k (omega arith) (omega arith)
