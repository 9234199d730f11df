-- Document 01, answer 28: it comes exactly if the code is neither 1 nor 2. What is asked under a known code never gives it.
use mathlib.Core.Path.{◌≡◌, refl, ap}
use mathlib.Core.Logic.{◌≢◌, ◌↔◌}
use mathlib.Core.Bool.{Bool, true, false}
use mathlib.Core.List.{List}
use Prim.Native.Nat.{ℕ}
use native.Mathlib.Decide.{ℕ_discrete}
use lib.Dec.{eqb}
use borrow.Author.Tests.{eq-eqb, ne_eqb}
use Rattle.std.specs.Prelude.{Result, Ok, Err}
use Rattle.laws.specs.Pick.{pick}
use Rattle.numbers.specs.declared.Refusal.{Refusal}
use Rattle.numbers.specs.declared.Refusal.TheVariants.{ChecksumUnknown}
use Rattle.numbers.proofs.Numbers.{ok_injective, err_apart}
use Rattle.paper.specs.Checksum.{bech32, bech32m}
use Rattle.answers.specs.Reading.{read_verdict, read_bytes_verdict}
use Rattle.answers.specs.Writing.{write_verdict}
use Rattle.answers.proofs.Refusals.{reading_never, reading_bytes_never, write_never}
use Rattle.checksum.specs.Parameters.{constant_for}
use Rattle.checksum.specs.declared.Checksum.{Checksum}
use Rattle.checksum.specs.declared.Checksum.TheVariants.{Bech32, Bech32m}
use Rattle.correction.specs.Locator.{locate_verdict}
use Rattle.correction.proofs.Refusals.{locate_never}
use Rattle.face.specs.Codes.{checksum_coded, by_code, coded_read, coded_locate, coded_bytes, coded_write}

-- ---- the code taken apart

-- a code's checksum is asked
pub known_code : {A : Type 0} (code : ℕ) (checksum : Checksum) → checksum_coded code ≡ Ok checksum → (answer : ℕ → A) (unknown : A)
    → by_code code answer unknown ≡ answer (constant_for checksum)
unfolding by_code
known_code code checksum e answer unknown = by (eqb code 1) (eqb code 2) e
  where
    by : (b c : Bool) → pick b (Ok Bech32) (pick c (Ok Bech32m) (Err ChecksumUnknown)) ≡ Ok checksum
        → pick b (answer bech32) (pick c (answer bech32m) unknown) ≡ answer (constant_for checksum)
    by true c e = ap (λ k. answer (constant_for k)) (ok_injective Bech32 checksum e)
    by false true e = ap (λ k. answer (constant_for k)) (ok_injective Bech32m checksum e)
    by false false e = absurd (err_apart checksum ChecksumUnknown e)

-- any other is refused
pub other_code : {A : Type 0} (code : ℕ) (refusal : Refusal) → checksum_coded code ≡ Err refusal → (answer : ℕ → Result A Refusal)
    → by_code code answer (Err ChecksumUnknown) ≡ Err refusal
unfolding by_code
other_code code refusal e answer = by (eqb code 1) (eqb code 2) e
  where
    by : (b c : Bool) → pick b (Ok Bech32) (pick c (Ok Bech32m) (Err ChecksumUnknown)) ≡ Err refusal
        → pick b (answer bech32) (pick c (answer bech32m) (Err ChecksumUnknown)) ≡ Err refusal
    by true c e = absurd cc
    by false true e = absurd cc
    by false false e = cc

-- ---- 28

unknown_only : {A : Type 0} (code : ℕ) (answer : ℕ → A) (unknown : A) → ((constant : ℕ) → answer constant ≡ unknown → ⊥)
    → (by_code code answer unknown ≡ unknown) ↔ ((code ≢ 1) × (code ≢ 2))
unfolding by_code
unknown_only code answer unknown never =
    (by (ℕ_discrete code 1) (ℕ_discrete code 2), λ h. rw (ne_eqb code 1 h.0, ne_eqb code 2 h.1) refl)
  where
    by : Dec (code ≡ 1) → Dec (code ≡ 2) → by_code code answer unknown ≡ unknown → (code ≢ 1) × (code ≢ 2)
    by (yes one) two e = absurd (never bech32 (rw (eq-eqb code 1 one) at e))
    by (no one) (yes two) e = absurd (never bech32m (rw (ne_eqb code 1 one, eq-eqb code 2 two) at e))
    by (no one) (no two) e = (one, two)

pub read_28 : (code : ℕ) (s : List ℕ) → (coded_read code s ≡ Err ChecksumUnknown) ↔ ((code ≢ 1) × (code ≢ 2))
read_28 code s =
    unknown_only code (λ constant. read_verdict constant s) (Err ChecksumUnknown) (λ constant e. reading_never constant s ChecksumUnknown tt e)

pub locate_28 : (code : ℕ) (s : List ℕ) → (coded_locate code s ≡ Err ChecksumUnknown) ↔ ((code ≢ 1) × (code ≢ 2))
locate_28 code s =
    unknown_only code (λ constant. locate_verdict constant s) (Err ChecksumUnknown)
    (λ constant e. locate_never constant s ChecksumUnknown (λ z. cc) tt e)

pub bytes_28 : (code : ℕ) (s : List ℕ) (room : ℕ) → (coded_bytes code s room ≡ Err ChecksumUnknown) ↔ ((code ≢ 1) × (code ≢ 2))
bytes_28 code s room =
    unknown_only code (λ constant. read_bytes_verdict constant s room) (Err ChecksumUnknown)
    (λ constant e. reading_bytes_never constant s room ChecksumUnknown tt e)

pub write_28 : (code : ℕ) (prefix symbols : List ℕ) (room : ℕ) → (coded_write code prefix symbols room ≡ Err ChecksumUnknown) ↔ ((code ≢ 1) × (code ≢ 2))
write_28 code prefix symbols room =
    unknown_only code (λ constant. write_verdict constant prefix symbols room) (Err ChecksumUnknown)
    (λ constant e. write_never constant prefix symbols room ChecksumUnknown tt e)
