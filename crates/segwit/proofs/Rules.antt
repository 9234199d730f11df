-- When the version and the length rules accept, and when they refuse with 12, 15 and 16, by order and equality; over answers' definitions
-- alone. Each number lies on one side of a bound, and two different answers are never equal.
use mathlib.Core.Path.{◌≡◌, refl, sym, ◌∙◌, subst}
use mathlib.Core.Logic.{◌↔◌, ◌⊎◌, inl, inr}
use Prim.Native.Nat.{ℕ, ◌≤◌, ◌<◌}
use native.Mathlib.Decide.{ℕ_discrete, dec_le, dec_lt}
use native.Mathlib.Omega.{arith}
use lib.Dec.{eqb}
use borrow.Author.Tests.{lt-ltb, le-ltb, eq-eqb, ne_eqb}
use Rattle.laws.proofs.Bools.{and_false, or_true}
use Rattle.answers.specs.Rules.{version_verdict, length_verdict}
use Rattle.numbers.proofs.Numbers.{err_apart, err_injective}
use Rattle.segwit.specs.Lengths.{LegalLength, LengthRefusal, outside, not_for_version_0}
use Rattle.numbers.specs.declared.Refusal.{Refusal}
use Rattle.numbers.specs.declared.Refusal.TheVariants.{VersionUnknown, ProgramLength, ProgramLengthVersion0}
use Rattle.std.specs.Prelude.{Ok, Err}

-- ---- the version

pub version_known : (v : ℕ) → v ≤ 16 → version_verdict v ≡ Ok tt
unfolding version_verdict
version_known v h = rw (le-ltb 16 v h)

pub version_unknown_lem : (v : ℕ) → 16 < v → version_verdict v ≡ Err VersionUnknown
unfolding version_verdict
version_unknown_lem v h = rw (lt-ltb 16 v h)

pub version_accepted : (v : ℕ) → version_verdict v ≡ Ok tt ↔ v ≤ 16
version_accepted v = (by (dec_le v 16), version_known v)
  where
    by : Dec (v ≤ 16) → version_verdict v ≡ Ok tt → v ≤ 16
    by (yes h) e = h
    by (no h) e = absurd (err_apart tt VersionUnknown (sym (version_unknown_lem v (omega (arith, h))) ∙ e))

pub version_refused : (v : ℕ) (n : Refusal) → version_verdict v ≡ Err n ↔ (16 < v) × (n ≡ VersionUnknown)
version_refused v n = (by (dec_le v 16), λ h. version_unknown_lem v h.0 ∙ rw h.1)
  where
    by : Dec (v ≤ 16) → version_verdict v ≡ Err n → (16 < v) × (n ≡ VersionUnknown)
    by (yes h) e = absurd (err_apart tt n (sym e ∙ version_known v h))
    by (no h) e = (omega (arith, h), err_injective n VersionUnknown (sym e ∙ version_unknown_lem v (omega (arith, h))))

-- ---- the program's length

module _ (v n : ℕ) where
  pub too_short : n < 2 → length_verdict v n ≡ Err ProgramLength
  unfolding length_verdict
  too_short h = rw (lt-ltb n 2 h)

  pub too_long : 40 < n → length_verdict v n ≡ Err ProgramLength
  unfolding length_verdict
  too_long h = rw (le-ltb n 2 (omega arith), lt-ltb 40 n h)

  module _ (l : 2 ≤ n) (h : n ≤ 40) where
    pub other_version : (v ≡ 0 → ⊥) → length_verdict v n ≡ Ok tt
    unfolding length_verdict
    other_version z = rw (le-ltb n 2 l, le-ltb 40 n h, ne_eqb v 0 z)

    pub key_or_script : (n ≡ 20) ⊎ (n ≡ 32) → length_verdict v n ≡ Ok tt
    unfolding length_verdict
    key_or_script (inl e) = rw (le-ltb n 2 l, le-ltb 40 n h, eq-eqb n 20 e, and_false (eqb v 0))
    key_or_script (inr e) = rw (le-ltb n 2 l, le-ltb 40 n h, eq-eqb n 32 e, or_true (eqb n 20), and_false (eqb v 0))

    pub neither : v ≡ 0 → (n ≡ 20 → ⊥) → (n ≡ 32 → ⊥) → length_verdict v n ≡ Err ProgramLengthVersion0
    unfolding length_verdict
    neither z a b = rw (le-ltb n 2 l, le-ltb 40 n h, eq-eqb v 0 z, ne_eqb n 20 a, ne_eqb n 32 b)

  pub legal_length : LegalLength v n → length_verdict v n ≡ Ok tt
  legal_length t = by (ℕ_discrete v 0)
    where
      by : Dec (v ≡ 0) → length_verdict v n ≡ Ok tt
      by (yes z) = key_or_script t.size.0 t.size.1 (t.size_of_version_0 z)
      by (no z) = other_version t.size.0 t.size.1 z

  pub refused_length : (k : Refusal) → LengthRefusal v n k → length_verdict v n ≡ Err k
  refused_length k (outside (inl h)) = too_short h
  refused_length k (outside (inr h)) = too_long h
  refused_length k (not_for_version_0 l h z a b) = neither l h z a b

data Outcome (v n : ℕ) : Type 0 where
  accepted : LegalLength v n → Outcome v n
  refused : (k : Refusal) → LengthRefusal v n k → Outcome v n

outcome : (v n : ℕ) → Outcome v n
outcome v n = by (dec_lt n 2) (dec_lt 40 n) (ℕ_discrete v 0) (ℕ_discrete n 20) (ℕ_discrete n 32)
  where
    by : Dec (n < 2) → Dec (40 < n) → Dec (v ≡ 0) → Dec (n ≡ 20) → Dec (n ≡ 32) → Outcome v n
    by (yes l) h z a b = refused ProgramLength (outside (inl l))
    by (no l) (yes h) z a b = refused ProgramLength (outside (inr h))
    by (no l) (no h) (no z) a b =
        accepted (record { size = (omega (arith, l), omega (arith, h)); size_of_version_0 = λ e. absurd (z e) })
    by (no l) (no h) (yes z) (yes a) b =
        accepted (record { size = (omega (arith, l), omega (arith, h)); size_of_version_0 = λ e. inl a })
    by (no l) (no h) (yes z) (no a) (yes b) =
        accepted (record { size = (omega (arith, l), omega (arith, h)); size_of_version_0 = λ e. inr b })
    by (no l) (no h) (yes z) (no a) (no b) =
        refused ProgramLengthVersion0 (not_for_version_0 (omega (arith, l)) (omega (arith, h)) z a b)

pub length_accepted : (v n : ℕ) → length_verdict v n ≡ Ok tt ↔ LegalLength v n
length_accepted v n = (by (outcome v n), legal_length v n)
  where
    by : Outcome v n → length_verdict v n ≡ Ok tt → LegalLength v n
    by (accepted t) e = t
    by (refused k t) e = absurd (err_apart tt k (sym (refused_length v n k t) ∙ e))

pub length_refused : (v n : ℕ) (k : Refusal) → length_verdict v n ≡ Err k ↔ LengthRefusal v n k
length_refused v n k = (by (outcome v n), refused_length v n k)
  where
    by : Outcome v n → length_verdict v n ≡ Err k → LengthRefusal v n k
    by (accepted t) e = absurd (err_apart tt k (sym e ∙ legal_length v n t))
    by (refused m t) e = subst (LengthRefusal v n) (err_injective m k (sym (refused_length v n m t) ∙ e)) t

-- ---- single inputs

pub key_hash_legal : LegalLength 0 20
unfolding length_verdict
key_hash_legal = (length_accepted 0 20).0 refl

pub two_bytes_legal : LegalLength 1 2
unfolding length_verdict
two_bytes_legal = (length_accepted 1 2).0 refl

pub neither_hash : LengthRefusal 0 21 ProgramLengthVersion0
unfolding length_verdict
neither_hash = (length_refused 0 21 ProgramLengthVersion0).0 refl
