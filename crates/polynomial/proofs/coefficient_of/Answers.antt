-- A coefficient of a product, term by term.
use mathlib.Core.Path.{◌≡◌, ◌∙◌}
use Prim.Native.Nat.{◌+◌}
use native.Mathlib.Omega.{arith}
use Rattle.polynomial.proofs.Coefficients.{part_none, part_more, part_all, part_sum}
use Rattle.polynomial.proofs.coefficient_of.Goals as goal

pub loop-i-init : goal.loop-i-init
loop-i-init c = part_none c.args.a.now c.args.b.now c.args.k

pub loop-i-preserved : goal.loop-i-preserved
loop-i-preserved c = cc (part_more c.args.a.now c.args.b.now c.args.k c.loop-i.i)

pub returns-2 : goal.returns-2
returns-2 c =
    let all : c.loop-i.i + 1 ≡ c.args.k + 1 = omega arith in
    let more : c.add-total.result ≡ part_sum c.args.a.now c.args.b.now c.args.k (c.loop-i.i + 1) = cc (part_more c.args.a.now c.args.b.now c.args.k c.loop-i.i) in
    more ∙ part_all c.args.a.now c.args.b.now c.args.k _ all
