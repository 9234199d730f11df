-- The expansion of a prefix in lower case: its high bits, a zero, its low bits. What carries it: the three calls, and `expand_parts`.
use Rattle.std.proofs.Common.{map, rules}
use Rattle.std.proofs.lemmas.Simd.{map-map}
use Rattle.paper.specs.Charset.{lower}
use Rattle.checksum.specs.Parameters.{high, low}
use Rattle.paper.proofs.Polymod.{expand_parts}
use Rattle.checksum.proofs.Engine.input_prefix.Goals as goal

pub returns : goal.returns
returns c =
    let highs = c.take_in-highs.ensures (λ byte. high (lower byte)) (λ byte symbol given. search rules) in
    let lows = c.take_in.ensures (λ byte. low (lower byte)) (λ byte symbol given. search rules) in
    rw (
      ← expand_parts c.args.self.residue (map lower c.args.prefix.now),
      map-map high lower c.args.prefix.now,
      map-map low lower c.args.prefix.now,
      ← highs,
      ← c.step-middle.ensures,
    )
    lows
