-- The answers of the functions that write and that step, from the tests that lead to each.
use mathlib.Core.Path.{◌≡◌, sym, ap, ap₂, ◌∙◌}
use mathlib.Core.List.{List, ◌++◌}
use Prim.Native.Nat.{ℕ, ◌+◌, ◌≤◌, ◌<◌}
use borrow.Author.Tests.{lt-ltb, le-ltb, le-leb, lt-leb}
use native.Mathlib.Omega.{arith}
use lib.ListN.{length, get_or, drop, set}
use Rattle.laws.proofs.Front.{front, front_more, front_all}
use Rattle.iter.specs.Writing.{Wrote}
use Rattle.answers.specs.Reading.{room_small, written_into}
use Rattle.iter.specs.Steps.{place_after}
use Rattle.numbers.specs.declared.Refusal.TheVariants.{RoomSmall}
use Rattle.std.specs.Prelude.{Ok, Err, Some, None, slice_get}
use Rattle.std.proofs.lemmas.Option.{slice_get_past, slice_get-get_or}

module _ (list before : List ℕ) (count : ℕ) (all : count ≡ length list) where
  pub no_room : length before < count → Wrote list before (Err RoomSmall) before
  unfolding written_into room_small
  no_room h = record { answer = rw (← all, lt-ltb (length before) count h); buffer = rw (← all, lt-ltb (length before) count h) }

  pub room : count ≤ length before → (after : List ℕ) → after ≡ list ++ drop count before → Wrote list before (Ok count) after
  unfolding written_into room_small
  room h after e = record { answer = rw (← all, le-ltb (length before) count h); buffer = rw (← all, le-ltb (length before) count h) e }

-- a loop that puts the list into the buffer, a value a turn
module _ (list before : List ℕ) (at count : ℕ) (all : count ≡ length list) where
  pub put_more : at < count → count ≤ length before → (out : List ℕ) (v : ℕ) → out ≡ front list before at → v ≡ get_or list at 0
      → set out at v ≡ front list before (at + 1)
  put_more h fits out v e g = ap₂ (λ (l : List ℕ) (x : ℕ). set l at x) e g ∙ front_more 0 list before at (omega (arith, all)) (omega (arith, fits))

  pub put_all : count ≤ at → at ≤ count → (out : List ℕ) → out ≡ front list before at → out ≡ list ++ drop count before
  put_all h k out e = e ∙ front_all list before at (omega (arith, all)) ∙ ap (λ (n : ℕ). list ++ drop n before) (sym all)

-- a step of a walk over a list, past its end and before it
module _ (list : List ℕ) (at count : ℕ) (all : count ≡ length list) where
  pub at_end : count ≤ at → (None ≡ slice_get list at) × (at ≡ place_after list at)
  at_end h = (sym (slice_get_past list at (omega (arith, all))), rw (← all, le-leb count at h))

  pub at_value : at < count → (v : ℕ) → v ≡ get_or list at 0 → (Some v ≡ slice_get list at) × (at + 1 ≡ place_after list at)
  at_value h v e = (ap Some e ∙ sym (slice_get-get_or list at 0 (omega (arith, all))), rw (← all, lt-leb count at h))
