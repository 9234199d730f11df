-- Four changes, from the search's answer: where it answers "none" for a window, up to four changes within so many data symbols are refused; at window 88,
-- in every string of at most 90 characters. The claim stands on the run and on the search's promise, for every window that the search takes.
use mathlib.Core.Path.{◌≡◌, sym, ap, ◌∙◌}
use mathlib.Core.Logic.{◌↔◌}
use mathlib.Core.List.{List, ◌∷◌, ◌++◌}
use Prim.Native.Nat.{ℕ, ◌≤◌}
use native.Mathlib.Omega.{arith}
use lib.ListN.{length, length-append}
use borrow.Author.Tests.{eqb-false}
use Rattle.std.specs.Prelude.{Result, Err}
use Rattle.numbers.specs.declared.Refusal.{Refusal}
use Rattle.numbers.specs.declared.Refusal.TheVariants.{PrefixEmpty}
use Rattle.answers.specs.Reading.{data_part, prefix_part, prefix_empty, reading_rules, read_verdict, accepts_parts}
use Rattle.answers.proofs.Orders.{passed}
use Rattle.answers.specs.declared.Parts.{Parts}
use Rattle.checksum.specs.Parameters.{constant_for}
use Rattle.checksum.specs.declared.Checksum.{Checksum}
use Rattle.decode.specs.Promises.{WasRead}
use Rattle.detection.specs.Patterns.{Clean}
use Rattle.search.specs.Search.{NonePasses}
use Rattle.search.specs.Promises.{Searched}
use Rattle.search.specs.Outcome.{none}
use Rattle.search.proofs.Consequences.{none_means_none}
use Rattle.search.proofs.Windows.{clean_if_none_passes, none_passes_if_clean}
use Rattle.theorems.specs.Changes.{Changed, refusal_for}
use Rattle.theorems.proofs.Strings.{part_before, prefix_before}
use Rattle.theorems.proofs.Detection.{found, reading_rules_lem}

-- "none" is exact: no pattern of 1 to 4 changes passes in the window exactly if every such change of at most so many symbols is seen
pub none_exactly : (n : ℕ) → NonePasses n ↔ Clean n 4
none_exactly n = (clean_if_none_passes n, none_passes_if_clean n)

pub none_refuses_four : (window : ℕ) (before : List ℕ) (budget steps : ℕ) (after : List ℕ) → Searched window before budget (none steps) after
    → (constant : ℕ) (s t : List ℕ) (m n : ℕ) → read_verdict constant s ≡ accepts_parts m n → length (data_part s) ≤ window → Changed 4 s t
    → read_verdict constant t ≡ Err (refusal_for t)
none_refuses_four window before budget steps after kept constant s t m n e within c =
    found constant window 4 s t m n (clean_if_none_passes window (none_means_none window before budget after steps kept)) c within e

-- an accepted string has a prefix, so that of at most 90 characters at most 88 are its data part
part_of_90 : {w : ℕ} {s t : List ℕ} (constant m n : ℕ) → read_verdict constant s ≡ accepts_parts m n → length s ≤ 90 → Changed w s t
    → length (data_part s) ≤ 88
unfolding prefix_empty
part_of_90 {s = s} constant m n e short c =
    let some : length (prefix_part s) ≡ 0 → ⊥ =
    eqb-false (length (prefix_part s)) 0 (passed PrefixEmpty (reading_rules constant s) (reading_rules_lem constant s m n e)) in
    let whole : length s ≡ length (c.prefix ++ 49 ∷ c.part) = ap length c.before in
    omega (arith, some, length-append c.prefix (49 ∷ c.part), ap length (part_before c), ap length (prefix_before c))

-- document 01's run: "none" at window 88 refuses up to four changes in every accepted string of at most 90 characters
pub none_88_refuses_four_in_90 : (before : List ℕ) (budget steps : ℕ) (after : List ℕ) → Searched 88 before budget (none steps) after
    → (constant : ℕ) (s t : List ℕ) (m n : ℕ) → read_verdict constant s ≡ accepts_parts m n → length s ≤ 90 → Changed 4 s t
    → read_verdict constant t ≡ Err (refusal_for t)
none_88_refuses_four_in_90 before budget steps after kept constant s t m n e short c =
    none_refuses_four 88 before budget steps after kept constant s t m n e (part_of_90 constant m n e short c) c

-- and so decode::read refuses them
pub none_88_read_refuses_four : (before : List ℕ) (budget steps : ℕ) (after : List ℕ) → Searched 88 before budget (none steps) after
    → (kind : Checksum) (s t : List ℕ) (m n : ℕ) (r r' : Result Parts Refusal) → WasRead kind s r → r ≡ accepts_parts m n → WasRead kind t r'
    → length s ≤ 90 → Changed 4 s t → r' ≡ Err (refusal_for t)
none_88_read_refuses_four before budget steps after kept kind s t m n r r' read accepted again short c =
    again ∙ none_88_refuses_four_in_90 before budget steps after kept (constant_for kind) s t m n (sym read ∙ accepted) short c
