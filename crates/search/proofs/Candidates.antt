-- A candidate is 1 at the highest place, and below it changes that bring 1 to zero: what the walk below that place says of these changes, it
-- says of the candidate.
use mathlib.Core.Path.{◌≡◌, refl, sym, ap, subst, ◌∙◌}
use mathlib.Core.List.{List, [], ◌∷◌}
use Prim.Native.Nat.{ℕ, zero, suc, ◌-◌, ◌≤◌}
use native.Mathlib.Omega.{arith}
use lib.ListN.{length, take, drop, get_or}
use Rattle.laws.specs.Xor.{◌⊕◌}
use Rattle.laws.proofs.Bools.{same}
use Rattle.laws.proofs.Xor.{zero_⊕}
use Rattle.paper.specs.Checksum.{polymod}
use Rattle.detection.proofs.Places.{zero_step}
use Rattle.search.specs.declared.Change.{Change}
use Rattle.search.specs.declared.Pattern.{Pattern}
use Rattle.search.specs.Patterns.{change, unused, changes_of, pattern_of, Falling, described}
use Rattle.search.specs.Steps.{steps_to}
use Rattle.search.specs.Walk.{Reaches, NotBefore}
use Rattle.search.specs.Promises.{Candidate, steps_at}
use Rattle.search.proofs.Changes.{take_in, described_weight}
use Rattle.search.proofs.Turns.{zeros_miss}
use Rattle.search.proofs.First.{Once, once}

headed : (k : ℕ) (cs : List Change) → 1 ≤ length (take k cs) → take k cs ≡ get_or cs 0 unused ∷ drop 1 (take k cs)
headed zero cs h = absurd (omega arith)
headed (suc k) [] h = absurd (omega arith)
headed (suc k) (c ∷ cs) h = refl

module _ (window : ℕ) (inside : 1 ≤ window) where
  -- 1 is taken in at the highest place
  pub top_in : (cs : List Change) → polymod 0 (described window (change (window - 1) 1 ∷ cs)) ≡ polymod 1 (described (window - 1) cs)
  top_in cs =
      let whole : suc (window - 1) ≡ window = omega arith in
      ap (λ (i : ℕ). polymod 0 (described i (change (window - 1) 1 ∷ cs))) (sym whole)
      ∙ take_in 0 (change (window - 1) 1) cs
      ∙ ap (λ (x : ℕ). polymod x (described (window - 1) cs)) (ap (λ (x : ℕ). x ⊕ 1) (zero_step 0) ∙ zero_⊕ 1)

  pub record Below (p : Pattern) : Type 0 where
    pub next : Change
    pub rest : List Change
    pub listed : changes_of p ≡ change (window - 1) 1 ∷ next ∷ rest
    pub reaches : Reaches 3 1 (window - 1) next rest

  steps_below : (p : Pattern) (at : Below p) → steps_at window p ≡ steps_to 3 (window - 1) (at.next ∷ at.rest)
  steps_below p at = ap (λ (l : List Change). steps_to 3 (window - 1) (drop 1 l)) at.listed

  module _ (p : Pattern) (candidate : Candidate window p) where
    from : (cs : List Change) → changes_of p ≡ change (window - 1) 1 ∷ cs → Below p
    unfolding Falling
    from [] e =
        let falls : Falling window (change (window - 1) 1 ∷ []) = subst (Falling window) e candidate.falling in
        let zeroed : polymod 1 (described (window - 1) []) ≡ 0
        = sym (top_in []) ∙ ap (λ (l : List Change). polymod 0 (described window l)) (sym e) ∙ candidate.passes.unseen in
        absurd (zeros_miss 1 (described (window - 1) []) (omega arith, omega arith) (omega (arith, described_weight (window - 1) [] tt)) zeroed)
    from (c ∷ cs) e =
        let falls : Falling window (change (window - 1) 1 ∷ c ∷ cs) = subst (Falling window) e candidate.falling in
        let many : length (changes_of p) ≡ suc (suc (length cs)) = ap (λ (l : List Change). length l) e in
        record {
          next = c;
          rest = cs;
          listed = e;
          reaches = record {
            few = omega (arith, many, described_weight window (changes_of p) candidate.falling, candidate.passes.at_most_four);
            falling = falls.3;
            unseen = sym (top_in (c ∷ cs)) ∙ ap (λ (l : List Change). polymod 0 (described window l)) (sym e) ∙ candidate.passes.unseen;
          };
        }

    pub below : Below p
    below =
        let some : 1 ≤ length (changes_of p)
        = omega (arith, described_weight window (changes_of p) candidate.falling, candidate.passes.some_change) in
        from (drop 1 (changes_of p))
        (headed p.count p.changes some ∙ ap (λ (c : Change). c ∷ drop 1 (changes_of p)) candidate.highest)

    pub not_before : (n : ℕ) → NotBefore 3 1 (window - 1) 0 n → n ≤ steps_at window p
    not_before n first = omega (arith, first below.next below.rest below.reaches, steps_below p below)

  -- two candidates that are met at the same step are one
  pub candidate_once : (p q : Pattern) → Candidate window p → Candidate window q → steps_at window p ≡ steps_at window q → p ≡ q
  unfolding Once
  candidate_once p q a b e =
      let c = below p a in
      let d = below q b in
      let steps = sym (steps_below p c) ∙ e ∙ steps_below q d in
      let rests = once (window - 1) 3 1 c.next c.rest d.next d.rest c.reaches d.reaches steps in
      let lists : changes_of p ≡ changes_of q = same (c.listed ∙ ap (λ (l : List Change). change (window - 1) 1 ∷ l) rests) d.listed in
      a.unused_zero ∙ ap pattern_of lists ∙ sym b.unused_zero
