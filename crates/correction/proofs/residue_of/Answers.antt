-- `residue_of`: the engine started, fed with the prefix and then with the characters.
use mathlib.Core.Path.{◌≡◌, ap, ◌∙◌}
use mathlib.Core.List.{List, map}
use Prim.Native.Nat.{ℕ, ◌+◌, ◌-◌}
use lib.ListN.{length, take, drop}
use Rattle.laws.proofs.Parts.{rest}
use Rattle.paper.specs.Charset.{symbol}
use Rattle.paper.specs.Checksum.{residue}
use Rattle.answers.specs.Reading.{prefix_part, data_part}
use Rattle.decode.proofs.Asked.{engine_came}
use Rattle.correction.proofs.Locating.{residue_is, residue_small}
use Rattle.correction.proofs.residue_of.Goals as goal

pub returns : goal.returns
returns c =
    let s = c.args.s.now in
    let prefix = c.args.parts.prefix in
    let value : c.residue.result ≡ residue (prefix_part s) (map symbol (data_part s)) =
    engine_came (take prefix s) (take (length s - (prefix + 1)) (drop (prefix + 1) s))
    c.new.ensures c.input_prefix.ensures c.input_characters-engine.ensures c.residue.ensures
    ∙ ap (λ (l : List ℕ). residue (take prefix s) (map symbol l)) (rest s (prefix + 1))
    ∙ residue_is s c.args.parts c.requires.apart in
    record { value = value; bounded = rw value (residue_small s c.args.parts c.requires.apart) }
