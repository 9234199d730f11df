-- Where changes stand in the order of the walk: the residues up to them are more than those at higher places, and no more than all with their place.
use mathlib.Core.Path.{◌≡◌}
use mathlib.Core.List.{List, [], ◌∷◌}
use Prim.Native.Nat.{ℕ, ◌+◌, ◌-◌, ◌≤◌, ◌<◌}
use native.Mathlib.Omega.{arith}
use lib.ListN.{length}
use Rattle.search.specs.declared.Change.{Change}
use Rattle.search.specs.Patterns.{Falling}
use Rattle.search.specs.Steps.{compared, steps_to}
use Rattle.search.proofs.Counting.{compared_at, compared_below, times_most}

pub steps_some : (w m : ℕ) (c : Change) (cs : List Change) → compared w m - compared w (c.place + 1) + 1 ≤ steps_to w m (c ∷ cs)
unfolding steps_to
steps_some w m c [] = omega arith
steps_some w m c (d ∷ ds) = omega arith

pub steps_upto : (w m : ℕ) (c : Change) (cs : List Change) → length cs < w → Falling m (c ∷ cs)
    → steps_to w m (c ∷ cs) + compared w c.place ≤ compared w m
unfolding steps_to Falling
steps_upto w m c [] few f =
    let low : c.place + 1 ≤ m = omega (arith, f.0) in
    omega (arith, compared_at w c.place few, compared_below w (c.place + 1) m low)
steps_upto w m c (d ∷ ds) few f =
    let low : c.place + 1 ≤ m = omega (arith, f.0) in
    let some : 0 < w = omega arith in
    omega (
      arith,
      compared_at w c.place some,
      compared_below w (c.place + 1) m low,
      steps_upto (w - 1) c.place d ds (omega arith) f.3,
      times_most c.symbol (compared (w - 1) c.place) f.1 f.2,
    )

pub steps_bounded : (w m : ℕ) (c : Change) (cs : List Change) → length cs < w → Falling m (c ∷ cs) → steps_to w m (c ∷ cs) ≤ compared w m
steps_bounded w m c cs few f = omega (arith, steps_upto w m c cs few f)

-- from fewer places: less those at the places above
pub steps_on : (w m k : ℕ) (c : Change) (cs : List Change) → c.place < k → k ≤ m
    → steps_to w m (c ∷ cs) + compared w k ≡ compared w m + steps_to w k (c ∷ cs)
unfolding steps_to
steps_on w m k c [] h l =
    let here : c.place + 1 ≤ k = omega arith in omega (arith, compared_below w (c.place + 1) k here, compared_below w k m l)
steps_on w m k c (d ∷ ds) h l =
    let here : c.place + 1 ≤ k = omega arith in omega (arith, compared_below w (c.place + 1) k here, compared_below w k m l)
