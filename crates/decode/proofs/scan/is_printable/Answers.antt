use Rattle.std.specs.List.{list_all}
use Rattle.std.specs.Prelude.{◌&&◌}
use Rattle.std.proofs.Common.{refl, ◌∙◌, rules, tests}
use Rattle.std.proofs.lemmas.Iterator.{YieldsList-from_slice}
use Rattle.std.proofs.lemmas.Iterator.Search.{all_from_yields_List}
use Rattle.std.proofs.lemmas.List.Recursion.{same_from_clauses}
use Rattle.laws.specs.Lists.{all}
use Rattle.paper.specs.Charset.{is_printable}
use Rattle.decode.proofs.scan.is_printable.Goals as goal

pub returns : goal.returns
returns c =
    all_from_yields_List is_printable _ _ _ c.all.ensures.ran (YieldsList-from_slice c.args.prefix.now cc) (λ x b q k. search (rules, tests))
    ∙ same_from_clauses (list_all is_printable) (all is_printable) (λ x rest. is_printable x && rest) refl (λ _ _. refl) (λ _ _. refl) c.args.prefix.now
