-- The symbols as they are.
use Rattle.std.proofs.Common.{ap, ◌∙◌, rules}
use Rattle.paper.specs.Checksum.{polymod}
use Rattle.std.proofs.lemmas.List.{map-id}
use Rattle.checksum.proofs.Engine.input_symbols.Goals as goal

pub returns : goal.returns
returns c =
    c.take_in.ensures (λ symbol. symbol) (λ byte symbol given. search rules) ∙ ap (polymod c.args.self.residue) (map-id c.args.symbols.now)
