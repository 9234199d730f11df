-- Across the two checksums: at most two changes within 89 symbols never lead from one constant to the other, nor three within 79.
-- Four can, and three within 80: see Sharp. What carries it: the tests of places, weight by weight.
use mathlib.Core.Path.{◌≡◌, refl, sym, ap, ap₂, ◌∙◌}
use mathlib.Core.Logic.{◌≢◌}
use mathlib.Core.List.{List}
use Prim.Native.Nat.{ℕ, ◌≤◌}
use native.Mathlib.Omega.{arith}
use lib.Dec.{T, lit≤}
use lib.ListN.{length}
use Rattle.laws.specs.Xor.{◌⊕◌}
use Rattle.laws.specs.Lists.{weight}
use Rattle.laws.proofs.Xor.{⊕_comm, xor-laws}
use Rattle.paper.specs.Checksum.{polymod, bech32, bech32m, change_at}
use Rattle.detection.specs.Patterns.{Symbols, Near, Avoids, between}
use Rattle.detection.specs.Roots.{value}
use Rattle.detection.proofs.Powers.{power, log}
use Rattle.detection.proofs.Orbit.{leap}
use Rattle.detection.proofs.Detection.{avoided}
use Rattle.detection.proofs.Values.{quick_of, quick}
use Rattle.detection.proofs.Zech.{zech, join, fits}
use Rattle.detection.proofs.Pieces.{First, first, one_change, two_changes, three_changes, avoids_less, avoids_more, avoids_none}
use Rattle.detection.proofs.Pairs.{pair_agrees, none_turned, none_paired, no_one, no_two}
use Rattle.detection.proofs.Triples.{no_three}
use Rattle.detection.proofs.AcrossTest.{three_computed}

quick_24 : quick_of 24 6 between ≡ 978
unfolding quick_of leap power log ◌⊕◌
quick_24 = refl

quick_25 : quick_of 25 6 between ≡ 729
unfolding quick_of leap power log ◌⊕◌
quick_25 = refl

quick_26 : quick_of 26 6 between ≡ 318
unfolding quick_of leap power log ◌⊕◌
quick_26 = refl

at_24 : value 24 between ≡ 978
at_24 = sym (quick 24 between) ∙ quick_24

at_25 : value 25 between ≡ 729
at_25 = sym (quick 25 between) ∙ quick_25

at_26 : value 26 between ≡ 318
at_26 = sym (quick 26 between) ∙ quick_26

one_computed : T (none_turned 978 729 89)
unfolding leap power log
one_computed = tt

one : (d : List ℕ) → Symbols d → length d ≤ 89 → weight d ≡ 1 → polymod 0 d ≢ between
one d symbols within e z = single (first d symbols 0 e)
  where
    single : First d 0 → ⊥
    single f =
        no_one 978 729 318 between at_24 at_25 at_26 89 one_computed f.place f.change (omega (arith, f.inside)) f.proper
        (sym (one_change d f) ∙ z)

two_computed : T (none_paired 978 729 318 89)
unfolding pair_agrees fits join zech leap power log ◌⊕◌
two_computed = tt

two : (d : List ℕ) → Symbols d → length d ≤ 89 → weight d ≡ 2 → polymod 0 d ≢ between
two d symbols within e z = double (first d symbols 1 e)
  where
    both : (f : First d 1) → First f.rest 0 → ⊥
    both f g =
        no_two 978 729 318 between at_24 at_25 at_26 89 (lit≤ tt) two_computed g.place f.place g.change f.change
        (omega (arith, g.inside, f.rest_length)) (omega (arith, f.inside)) g.proper f.proper
        (⊕_comm (change_at g.place g.change) (change_at f.place f.change) ∙ sym (two_changes d f g) ∙ z)

    double : First d 1 → ⊥
    double f = both f (first f.rest f.rest_symbols 0 f.rest_weight)

pub avoids_two : Avoids between 89 2
avoids_two = avoids_more between 89 1 (avoids_more between 89 0 (avoids_none between 89) one) two

three : (d : List ℕ) → Symbols d → length d ≤ 79 → weight d ≡ 3 → polymod 0 d ≢ between
three d symbols within e z = triple (first d symbols 2 e)
  where
    reversed : (a b c : ℕ) → a ⊕ (b ⊕ c) ≡ c ⊕ (b ⊕ a)
    reversed a b c = simp xor-laws

    all : (f : First d 2) (g : First f.rest 1) → First g.rest 0 → ⊥
    all f g h =
        no_three 978 729 318 between at_24 at_25 at_26 79 (lit≤ tt) three_computed
        h.place g.place f.place h.change g.change f.change
        (omega (arith, h.inside, g.rest_length)) (omega (arith, g.inside, f.rest_length)) (omega (arith, f.inside))
        h.proper g.proper f.proper
        (reversed (change_at h.place h.change) (change_at g.place g.change) (change_at f.place f.change) ∙ sym (three_changes d f g h) ∙ z)

    both : (f : First d 2) → First f.rest 1 → ⊥
    both f g = all f g (first g.rest g.rest_symbols 0 g.rest_weight)

    triple : First d 2 → ⊥
    triple f = both f (first f.rest f.rest_symbols 1 f.rest_weight)

pub avoids_three : Avoids between 79 3
avoids_three = avoids_more between 79 2 (avoids_less between 79 89 2 2 (lit≤ tt) (lit≤ tt) avoids_two) three

-- ---- of two lists

module _ (n w : ℕ) (avoids : Avoids between n w) (start : ℕ) (s t : List ℕ) (near : Near n w s t) where
  other : polymod start s ≢ polymod start t → s ≢ t
  other differ same = differ (ap (polymod start) same)

  pub bech32_stays : polymod start s ≡ bech32 → polymod start t ≢ bech32m
  bech32_stays p q =
      avoided start s t near between avoids (other (λ same. omega (arith, sym p ∙ same ∙ q))) (ap₂ (λ (x y : ℕ). x ⊕ y) p q)

  pub bech32m_stays : polymod start s ≡ bech32m → polymod start t ≢ bech32
  bech32m_stays p q =
      avoided start s t near between avoids (other (λ same. omega (arith, sym p ∙ same ∙ q)))
      (ap₂ (λ (x y : ℕ). x ⊕ y) p q ∙ ⊕_comm bech32m bech32)
