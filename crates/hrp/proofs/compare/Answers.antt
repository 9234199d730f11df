-- `compare` gives what the definition gives: the library compares the folded bytes one after the other.
use mathlib.Core.Path.{◌≡◌, refl, ◌∙◌}
use Rattle.std.proofs.Common.{rules, tests}
use Rattle.std.specs.Char.{to_ascii_lowercase}
use Rattle.std.specs.Ordering.{nat_cmp}
use Rattle.std.proofs.lemmas.Iterator.{YieldsList-from_map, YieldsList-from_slice}
use Rattle.std.proofs.lemmas.Iterator.Search.{cmp_from_yields_List}
use Rattle.hrp.proofs.Ascii.{folded_order}
use Rattle.hrp.proofs.compare.Goals as goal

pub returns : goal.returns
returns c =
    cmp_from_yields_List (λ x y. y ≡ x) _ nat_cmp _ c.cmp.ensures.ran
    (YieldsList-from_map _ to_ascii_lowercase (YieldsList-from_slice c.args.a.now cc) c.map-a.ensures.closure (λ x r q k. search (rules, tests)))
    (λ it e. YieldsList-from_map _ to_ascii_lowercase (YieldsList-from_slice c.args.b.now cc) c.map.ensures.closure (λ x r q k. search (rules, tests)))
    (λ x y. refl)
    ∙ folded_order c.args.a.now c.args.b.now
