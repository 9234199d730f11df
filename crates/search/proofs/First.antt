-- What is met at a step of the walk is fixed: changes that bring a residue to zero, and have as many residues up to them, are the same. The
-- steps tell the places and all symbols but the last, and the residue tells that one.
use mathlib.Core.Path.{◌≡◌, refl, sym, ap, ap₂, subst, ◌∙◌}
use mathlib.Core.List.{List, [], ◌∷◌}
use mathlib.Core.Logic.{◌⊎◌, inl, inr}
use Prim.Native.Nat.{ℕ, zero, suc, ◌+◌, ◌-◌, ◌*◌, ◌^◌, ◌≤◌, ◌<◌}
use native.Mathlib.Nat.{eq-or-lt_of_le}
use native.Mathlib.Decide.{dec_lt}
use native.Mathlib.Omega.{arith}
use Rattle.laws.specs.Xor.{◌⊕◌}
use Rattle.laws.proofs.Bools.{same}
use Rattle.laws.proofs.Xor.{⊕_lt, ⊕_eq}
use Rattle.paper.specs.Checksum.{step, polymod}
use Rattle.search.specs.declared.Change.{Change}
use Rattle.search.specs.Patterns.{change, Falling, described}
use Rattle.search.specs.Steps.{compared, steps_to}
use Rattle.search.specs.Walk.{Reaches}
use Rattle.search.proofs.Residue.{step_zero_lt}
use Rattle.search.proofs.Counting.{compared_below, times_below}
use Rattle.search.proofs.Order.{steps_some, steps_upto, steps_bounded, steps_on}
use Rattle.search.proofs.Changes.{pass, take_in, described_weight}
use Rattle.search.proofs.Turns.{zeros_miss}

-- zeros leave only zero at zero
zero_before : (r m : ℕ) → r < 2 ^ 30 → polymod r (described m []) ≡ 0 → r ≡ 0
unfolding Falling
zero_before zero m small zeroed = refl
zero_before (suc r) m small zeroed =
    absurd (zeros_miss (suc r) (described m []) (omega arith, small) (omega (arith, described_weight m [] tt)) zeroed)

-- the last symbol is the residue
last_symbol : (w r m v : ℕ) → Reaches w r (suc m) (change m v) [] → step r 0 ≡ v
unfolding Falling
last_symbol w r m v h =
    ⊕_eq (step r 0) v (zero_before (step r 0 ⊕ v) m
    (⊕_lt 30 (step r 0) v (step_zero_lt r) (let high = h.falling.2 in omega (arith, high)))
    (sym (take_in r (change m v) []) ∙ h.unseen))

-- what follows a change
follow : (w r m v : ℕ) (c : Change) (cs : List Change) → Reaches w r (suc m) (change m v) (c ∷ cs)
    → Reaches (w - 1) (step r 0 ⊕ v) m c cs
unfolding Falling
follow w r m v c cs h =
    let few = h.few in
    record { few = omega (arith, few); falling = h.falling.3; unseen = sym (take_in r (change m v) (c ∷ cs)) ∙ h.unseen }

-- one place less, where nothing stands there
lower : (w r m : ℕ) (c : Change) (cs : List Change) → c.place < m → Reaches w r (suc m) c cs → Reaches w (step r 0) m c cs
unfolding Falling
lower w r m c cs l h =
    let f : Falling m (c ∷ cs) = (l, h.falling.1, h.falling.2, h.falling.3) in
    record { few = h.few; falling = f; unseen = sym (pass r m (c ∷ cs) f) ∙ h.unseen }

unfoldable pub Once : ℕ → Type 0
Once m =
    (w r : ℕ) (c : Change) (cs : List Change) (d : Change) (ds : List Change) → Reaches w r m c cs → Reaches w r m d ds
    → steps_to w m (c ∷ cs) ≡ steps_to w m (d ∷ ds) → ◌≡◌ {A = List Change} (c ∷ cs) (d ∷ ds)

-- the symbol and what follows it, from one number
digit : (x u v s t : ℕ) → 1 ≤ u → 1 ≤ v → 1 ≤ s → s ≤ x → 1 ≤ t → t ≤ x → (u - 1) * x + s ≡ (v - 1) * x + t → u ≡ v
digit x u v s t hu hv ls ms lt mt e = by (dec_lt u v) (dec_lt v u)
  where
    by : Dec (u < v) → Dec (v < u) → u ≡ v
    by (yes l) _ = absurd (omega (arith, times_below u v x hu l))
    by (no _) (yes l) = absurd (omega (arith, times_below v u x hv l))
    by (no a) (no b) = omega (arith, a, b)

same_place : (m : ℕ) → Once m → (w r u v : ℕ) (cs ds : List Change) → Reaches w r (suc m) (change m u) cs
    → Reaches w r (suc m) (change m v) ds → steps_to w (suc m) (change m u ∷ cs) ≡ steps_to w (suc m) (change m v ∷ ds)
    → change m u ∷ cs ≡ change m v ∷ ds
unfolding steps_to Falling Once
same_place m once w r u v [] [] h g e =
    ap (λ (i : ℕ). change m i ∷ []) (sym (last_symbol w r m u h) ∙ last_symbol w r m v g)
same_place m once w r u v [] (d ∷ ds) h g e = absurd (omega (arith, steps_some (w - 1) m d ds))
same_place m once w r u v (c ∷ cs) [] h g e = absurd (omega (arith, steps_some (w - 1) m c cs))
same_place m once w r u v (c ∷ cs) (d ∷ ds) h g e =
    let after = follow w r m u c cs h in
    let other = follow w r m v d ds g in
    let low_u = h.falling.1 in
    let low_v = g.falling.1 in
    let sum : (u - 1) * compared (w - 1) m + steps_to (w - 1) m (c ∷ cs) ≡ (v - 1) * compared (w - 1) m + steps_to (w - 1) m (d ∷ ds) = omega arith in
    let symbol : u ≡ v =
    digit (compared (w - 1) m) u v (steps_to (w - 1) m (c ∷ cs)) (steps_to (w - 1) m (d ∷ ds)) low_u low_v
    (omega (arith, steps_some (w - 1) m c cs)) (steps_bounded (w - 1) m c cs after.few after.falling)
    (omega (arith, steps_some (w - 1) m d ds)) (steps_bounded (w - 1) m d ds other.few other.falling) sum in
    let rest : steps_to (w - 1) m (c ∷ cs) ≡ steps_to (w - 1) m (d ∷ ds) =
    omega (arith, ap (λ (i : ℕ). (i - 1) * compared (w - 1) m) symbol, sum) in
    ap₂ (λ (i : ℕ) (l : List Change). change m i ∷ l) symbol
    (once (w - 1) (step r 0 ⊕ v) c cs d ds (subst (λ (i : ℕ). Reaches (w - 1) (step r 0 ⊕ i) m c cs) symbol after) other rest)

-- changes at a higher place are met before
higher : (w r m : ℕ) (c : Change) (cs : List Change) (d : Change) (ds : List Change) → c.place ≡ m → d.place < m
    → Reaches w r (suc m) c cs → steps_to w (suc m) (c ∷ cs) ≡ steps_to w (suc m) (d ∷ ds) → ⊥
higher w r m c cs d ds e l h same =
    omega (
      arith,
      steps_upto w (suc m) c cs h.few h.falling,
      ap (compared w) e,
      steps_some w (suc m) d ds,
      compared_below w (d.place + 1) m (let x : d.place + 1 ≤ m = omega arith in x),
      compared_below w m (suc m) (let x : m ≤ suc m = omega arith in x),
      same,
    )

-- one place more
once_more : (m : ℕ) → Once m → Once (suc m)
unfolding Once Falling
once_more m less w r c cs d ds h g e =
    let low_c = h.falling.0 in
    let low_d = g.falling.0 in
    by (eq-or-lt_of_le (let l : c.place ≤ m = omega (arith, low_c) in l)) (eq-or-lt_of_le (let l : d.place ≤ m = omega (arith, low_d) in l))
  where
    by : (c.place ≡ m) ⊎ (c.place < m) → (d.place ≡ m) ⊎ (d.place < m) → ◌≡◌ {A = List Change} (c ∷ cs) (d ∷ ds)
    by (inl p) (inr l) = absurd (higher w r m c cs d ds p l h e)
    by (inr l) (inl p) = absurd (higher w r m d ds c cs p l g (sym e))
    by (inr l) (inr k) =
        let up : m ≤ suc m = omega arith in
        less w (step r 0) c cs d ds (lower w r m c cs l h) (lower w r m d ds k g)
        (omega (arith, e, steps_on w (suc m) m c cs l up, steps_on w (suc m) m d ds k up))
    by (inl p) (inl s) =
        let at_c : c ≡ change m c.symbol = ap (λ (i : ℕ). change i c.symbol) p in
        let at_d : d ≡ change m d.symbol = ap (λ (i : ℕ). change i d.symbol) s in
        ap (λ (x : Change). x ∷ cs) at_c
        ∙ same_place m less w r c.symbol d.symbol cs ds (subst (λ (x : Change). Reaches w r (suc m) x cs) at_c h)
        (subst (λ (x : Change). Reaches w r (suc m) x ds) at_d g)
        (sym (ap (λ (x : Change). steps_to w (suc m) (x ∷ cs)) at_c) ∙ e ∙ ap (λ (x : Change). steps_to w (suc m) (x ∷ ds)) at_d)
        ∙ ap (λ (x : Change). x ∷ ds) (sym at_d)

pub once : (m : ℕ) → Once m
unfolding Once Falling
once zero = λ w r c cs d ds h g e. absurd (let low = h.falling.0 in omega (arith, low))
once (suc m) = once_more m (once m)
