-- What the tests of the private functions come to, each of the part that it is given.
use Rattle.std.specs.Prelude.{List, [], ◌∷◌, map, ◌≡◌, ℕ, suc, ◌-◌, ◌≤◌, length, take, drop, Ok}
use Rattle.std.proofs.Common.{refl, sym, ap, ◌∙◌, arith}
use borrow.Author.Tests.{ltb-false}
use lib.Seq.{take-nil}
use Rattle.paper.specs.Charset.{lower, symbol}
use Rattle.paper.specs.Checksum.{polymod, expand, residue}
use Rattle.paper.proofs.Polymod.{residue_parts}
use Rattle.numbers.specs.declared.Refusal.TheVariants.{DataShort}
use Rattle.answers.proofs.Orders.{accepted_only, passed}
use Rattle.decode.specs.Asked.{payload_in, program_in, sum_rules, sum_verdict}

-- an engine that was started, took in a prefix and then characters, and showed its residue
pub engine_came : (prefix characters : List ℕ) {started after came shown : ℕ} → started ≡ 1 → after ≡ polymod started (expand (map lower prefix))
    → came ≡ polymod after (map symbol characters) → shown ≡ came → shown ≡ residue prefix (map symbol characters)
engine_came prefix characters e f g h = rw (h, g, f, e) (sym (residue_parts prefix (map symbol characters)))

-- one place further on, of a part that ends where it did
later : (k : ℕ) (l : List ℕ) → take k (drop 1 l) ≡ drop 1 (take (suc k) l)
later k [] = take-nil k
later k (x ∷ l) = refl

pub program_there : (characters : List ℕ) → 7 ≤ length characters → take (length characters - 6 - 1) (drop 1 characters) ≡ program_in characters
unfolding program_in payload_in
program_there characters h =
    later (length characters - 6 - 1) characters
    ∙ ap (λ (k : ℕ). drop 1 (take k characters)) (let e : suc (length characters - 6 - 1) ≡ length characters - 6 = omega arith in e)

pub sum_enough : (constant : ℕ) (prefix characters : List ℕ) → Ok tt ≡ sum_verdict constant prefix characters → 6 ≤ length characters
unfolding sum_verdict
sum_enough constant prefix characters e =
    ltb-false (length characters) 6
    (passed DataShort (sum_rules constant prefix characters) (accepted_only tt tt (sum_rules constant prefix characters) (sym e)).0)
