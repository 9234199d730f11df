-- Document 01, "Limits": n program symbols of which mod 8 leaves 1, 3 or 6.
use Rattle.std.specs.Prelude.{◌≡◌, ◌⊎◌, ℕ, ◌%◌}

abbrev pub LeavesMany : ℕ → Type 0
LeavesMany n = (n % 8 ≡ 1) ⊎ ((n % 8 ≡ 3) ⊎ (n % 8 ≡ 6))
