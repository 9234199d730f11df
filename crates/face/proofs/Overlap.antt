-- What 37 says of two ranges, and what 0 says (specs/Overlap.antt).
use mathlib.Core.Path.{◌≡◌, refl, sym, ◌∙◌}
use mathlib.Core.Logic.{◌↔◌, ◌⊎◌, ⊎_elim, inl, inr}
use mathlib.Core.Bool.{Bool, true, false}
use Prim.Native.Nat.{ℕ, ◌+◌, ◌≤◌, ◌<◌}
use native.Mathlib.Decide.{ℕ_discrete}
use native.Mathlib.Omega.{arith}
use lib.Dec.{leb, ltb}
use borrow.Author.Tests.{eq-eqb, ne_eqb, le-leb, lt-leb, ltb-true, ltb-false, leb-true, leb-false}
use Rattle.face.specs.Overlap.{LiesIn, top, Meeting, overlap_number}
use Rattle.face.specs.Promises.{OverlapTold}

-- ---- each line of the definition

pub first_empty : (a m b n : ℕ) → m ≡ 0 → OverlapTold a m b n 0
unfolding overlap_number
first_empty a m b n e = record { number = rw (eq-eqb m 0 e) }

pub second_empty : (a m b n : ℕ) → (m ≡ 0 → ⊥) → n ≡ 0 → OverlapTold a m b n 0
unfolding overlap_number
second_empty a m b n first e = record { number = rw (ne_eqb m 0 first, eq-eqb n 0 e) }

module _ (a m b n : ℕ) (first : m ≡ 0 → ⊥) (second : n ≡ 0 → ⊥) where
  pub first_past : ltb top (a + m) ≡ true → OverlapTold a m b n 37
  unfolding overlap_number
  first_past e = record { number = rw (ne_eqb m 0 first, ne_eqb n 0 second, e) }

  pub second_past : ltb top (a + m) ≡ false → ltb top (b + n) ≡ true → OverlapTold a m b n 37
  unfolding overlap_number
  second_past p e = record { number = rw (ne_eqb m 0 first, ne_eqb n 0 second, p, e) }

-- both have bytes, and stay below the top
abbrev pub Memory : ℕ → ℕ → ℕ → ℕ → Type 0
Memory a m b n = (m ≡ 0 → ⊥) × (n ≡ 0 → ⊥) × (ltb top (a + m) ≡ false) × (ltb top (b + n) ≡ false)

module _ (a m b n : ℕ) (w : Memory a m b n) where
  pub ends_before : a + m ≤ b → OverlapTold a m b n 0
  unfolding overlap_number
  ends_before h = record { number = rw (ne_eqb m 0 w.0, ne_eqb n 0 w.1, w.2, w.3, le-leb (a + m) b h) }

  pub begins_after : b < a + m → b + n ≤ a → OverlapTold a m b n 0
  unfolding overlap_number
  begins_after h k = record { number = rw (ne_eqb m 0 w.0, ne_eqb n 0 w.1, w.2, w.3, lt-leb (a + m) b h, le-leb (b + n) a k) }

  pub meet : b < a + m → a < b + n → OverlapTold a m b n 37
  unfolding overlap_number
  meet h k = record { number = rw (ne_eqb m 0 w.0, ne_eqb n 0 w.1, w.2, w.3, lt-leb (a + m) b h, lt-leb (b + n) a k) }

-- ---- what the numbers mean

abbrev Decided : ℕ → ℕ → ℕ → ℕ → Type 0
Decided a m b n = (OverlapTold a m b n 0 × (Meeting a m b n → ⊥)) ⊎ (OverlapTold a m b n 37 × Meeting a m b n)

-- the later of the two first bytes is shared
shared : (a m b n : ℕ) → b < a + m → a < b + n → (0 < m) → (0 < n) → (x : ℕ) × LiesIn x a m × LiesIn x b n
shared a m b n h k some other = by (leb a b) refl
  where
    by : (t : Bool) → leb a b ≡ t → (x : ℕ) × LiesIn x a m × LiesIn x b n
    by true e = (b, (leb-true a b e, h), omega arith)
    by false e = (a, omega arith, (omega (arith, leb-false a b e), k))

within_decided : (a m b n : ℕ) → Memory a m b n → Decided a m b n
within_decided a m b n w = by (leb (a + m) b) refl (leb (b + n) a) refl
  where
    none : ((x : ℕ) → LiesIn x a m → LiesIn x b n → ⊥) → Meeting a m b n → ⊥
    none apart why =
        ⊎_elim
        (λ h. omega (arith, ltb-false top (a + m) w.2))
        (⊎_elim (λ h. omega (arith, ltb-false top (b + n) w.3)) (λ s. apart s.0 s.1 s.2))
        why.2

    by : (t : Bool) → leb (a + m) b ≡ t → (u : Bool) → leb (b + n) a ≡ u → Decided a m b n
    by true e u f = inl (ends_before a m b n w (leb-true (a + m) b e), none (λ x l k. omega (arith, leb-true (a + m) b e)))
    by false e true f =
        inl (begins_after a m b n w (leb-false (a + m) b e) (leb-true (b + n) a f), none (λ x l k. omega (arith, leb-true (b + n) a f)))
    by false e false f =
        let h : b < a + m = leb-false (a + m) b e in
        let k : a < b + n = leb-false (b + n) a f in
        let some : 0 < m = omega (arith, w.0) in
        let other : 0 < n = omega (arith, w.1) in
        inr (meet a m b n w h k, (some, other, inr (inr (shared a m b n h k some other))))

decided : (a m b n : ℕ) → Decided a m b n
decided a m b n = by (ℕ_discrete m 0) (ℕ_discrete n 0) (ltb top (a + m)) refl (ltb top (b + n)) refl
  where
    by : Dec (m ≡ 0) → Dec (n ≡ 0) → (t : Bool) → ltb top (a + m) ≡ t → (u : Bool) → ltb top (b + n) ≡ u → Decided a m b n
    by (yes e) second t p u q = inl (first_empty a m b n e, λ w. omega arith)
    by (no first) (yes e) t p u q = inl (second_empty a m b n first e, λ w. omega arith)
    by (no first) (no second) true p u q =
        inr (first_past a m b n first second p, (omega (arith, first), omega (arith, second), inl (ltb-true top (a + m) p)))
    by (no first) (no second) false p true q =
        inr (second_past a m b n first second p q, (omega (arith, first), omega (arith, second), inr (inl (ltb-true top (b + n) q))))
    by (no first) (no second) false p false q = within_decided a m b n (first, second, p, q)

not_both : (a m b n : ℕ) → OverlapTold a m b n 0 → OverlapTold a m b n 37 → ⊥
not_both a m b n p q = let e : ◌≡◌ {A = ℕ} 0 37 = p.number ∙ sym q.number in omega arith

-- 37 exactly then
pub overlap_37 : (a m b n : ℕ) → OverlapTold a m b n 37 ↔ Meeting a m b n
overlap_37 a m b n = (
  λ told. ⊎_elim (λ d. absurd (not_both a m b n d.0 told)) (λ d. d.1) (decided a m b n),
  λ w. ⊎_elim (λ d. absurd (d.1 w)) (λ d. d.0) (decided a m b n),
)

-- 0 exactly otherwise
pub overlap_0 : (a m b n : ℕ) → OverlapTold a m b n 0 ↔ (Meeting a m b n → ⊥)
overlap_0 a m b n = (
  λ told. ⊎_elim (λ d. d.1) (λ d. absurd (not_both a m b n told d.0)) (decided a m b n),
  λ none. ⊎_elim (λ d. d.0) (λ d. absurd (none d.1)) (decided a m b n),
)

-- what a caller of C gets from 0: no byte is in both
pub apart_shares_none : (a m b n : ℕ) → OverlapTold a m b n 0 → (x : ℕ) → LiesIn x a m → LiesIn x b n → ⊥
apart_shares_none a m b n told x l k = (overlap_0 a m b n).0 told (omega arith, omega arith, inr (inr (x, l, k)))

other_way : (a m b n : ℕ) → Meeting a m b n → Meeting b n a m
other_way a m b n w =
    (w.1, w.0, ⊎_elim (λ h. inr (inl h)) (⊎_elim (λ h. inl h) (λ s. inr (inr (s.0, s.2, s.1)))) w.2)

-- which range is given first is all one
pub either_order : (a m b n r : ℕ) → OverlapTold a m b n r → OverlapTold b n a m r
either_order a m b n r told = by (decided a m b n)
  where
    told_as : {k : ℕ} → OverlapTold a m b n k → OverlapTold b n a m k → OverlapTold b n a m r
    told_as p q = record { number = told.number ∙ sym p.number ∙ q.number }

    by : Decided a m b n → OverlapTold b n a m r
    by (inl d) = told_as d.0 ((overlap_0 b n a m).1 (λ w. d.1 (other_way b n a m w)))
    by (inr d) = told_as d.0 ((overlap_37 b n a m).1 (other_way a m b n d.1))
