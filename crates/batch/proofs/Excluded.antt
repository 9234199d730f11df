-- Wrong answers that the promises rule out, each on a concrete input: the address of document 01's first case, alone in its buffer.
use mathlib.Core.Path.{◌≡◌, ap}
use mathlib.Core.List.{List, [], ◌∷◌}
use Prim.Native.Nat.{ℕ}
use native.Mathlib.Omega.{arith}
use lib.ListN.{get_or, replicate}
use Rattle.answers.proofs.Computing.{computing}
use Rattle.batch.specs.Batch.{entry_verdict, judged, batch_verdict}
use Rattle.batch.specs.Promises.{EntryJudged, BatchJudged}
use Rattle.batch.specs.declared.Entry.{Entry}
use Rattle.batch.proofs.Entries.{none}
use Rattle.batch.proofs.Alone.{taproot_text, two_entries, two_lent}

-- an entry that is not judged yet: what its results hold is not looked at
abbrev pub asked : ℕ → ℕ → Entry
asked start len = record { start = start; len = len; verdict = 99; version = 99; program = 99 }

abbrev pub answered : ℕ → ℕ → ℕ → ℕ → ℕ → Entry
answered start len verdict version program = record { start = start; len = len; verdict = verdict; version = version; program = program }

-- ---- batch::judge

-- an entry that ends with the buffer, refused
pub not_the_last_byte_outside : EntryJudged taproot_text (asked 0 62) (answered 0 62 20 0 0) → ⊥
unfolding computing entry_verdict judged taproot_text
not_the_last_byte_outside p = let e : ◌≡◌ {A = ℕ} 20 0 = ap (λ (r : Entry). r.verdict) p in omega arith

-- one that reaches a byte too far, judged by the bytes that there are
pub not_cut_short : EntryJudged taproot_text (asked 0 63) (answered 0 63 0 1 32) → ⊥
unfolding computing entry_verdict judged taproot_text
not_cut_short p = let e : ◌≡◌ {A = ℕ} 0 20 = ap (λ (r : Entry). r.verdict) p in omega arith

-- one judged by bytes that are not its own: those before it
pub not_from_the_start : EntryJudged (120 ∷ taproot_text) (asked 1 62) (answered 1 62 9 0 0) → ⊥
unfolding computing entry_verdict judged taproot_text
not_from_the_start p = let e : ◌≡◌ {A = ℕ} 9 0 = ap (λ (r : Entry). r.verdict) p in omega arith

-- the place of an entry lost, and a version kept beside a refusal
pub not_moved : EntryJudged taproot_text (asked 0 62) (answered 62 62 0 1 32) → ⊥
unfolding computing entry_verdict judged taproot_text
not_moved p = let e : ◌≡◌ {A = ℕ} 62 0 = ap (λ (r : Entry). r.start) p in omega arith

pub not_a_refused_version : EntryJudged taproot_text (asked 1 62) (answered 1 62 20 99 0) → ⊥
unfolding computing entry_verdict judged taproot_text
not_a_refused_version p = let e : ◌≡◌ {A = ℕ} 99 0 = ap (λ (r : Entry). r.version) p in omega arith

-- ---- batch::pennywax_apart_judge_batch

-- a batch that stops at the first entry that reaches outside
pub lent_not_stopped_by_20 : (r : ℕ) → BatchJudged taproot_text two_entries r (answered 1 62 20 0 0 ∷ asked 0 62 ∷ []) → ⊥
lent_not_stopped_by_20 r p =
    let e : ◌≡◌ {A = ℕ} 99 0 = ap (λ (l : List Entry). (get_or l 1 none).verdict) (two_lent r _ p) in omega arith

-- a batch that answers with the verdict of an entry
pub lent_not_20 : (after : List Entry) → BatchJudged taproot_text two_entries 20 after → ⊥
unfolding batch_verdict
lent_not_20 after p = let e : ◌≡◌ {A = ℕ} 20 0 = p.number in omega arith

-- 33 entries judged, or overwritten beside the refusal; 32 refused
pub not_33_accepted : (buffer : List ℕ) (e : Entry) (after : List Entry) → BatchJudged buffer (replicate 33 e) 0 after → ⊥
unfolding batch_verdict
not_33_accepted buffer e after p = let z : ◌≡◌ {A = ℕ} 0 19 = p.number in omega arith

pub not_33_overwritten : (buffer : List ℕ) → BatchJudged buffer (replicate 33 (asked 0 0)) 19 (replicate 33 (answered 0 0 1 0 0)) → ⊥
unfolding batch_verdict
not_33_overwritten buffer p =
    let z : ◌≡◌ {A = ℕ} 1 99 = ap (λ (l : List Entry). (get_or l 0 none).verdict) p.entries in omega arith

pub not_32_refused : (buffer : List ℕ) (e : Entry) (after : List Entry) → BatchJudged buffer (replicate 32 e) 19 after → ⊥
unfolding batch_verdict
not_32_refused buffer e after p = let z : ◌≡◌ {A = ℕ} 19 0 = p.number in omega arith
