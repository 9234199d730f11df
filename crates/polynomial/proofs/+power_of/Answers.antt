-- A power by its half: an even one is the half's square, an odd one has one factor more.
use Rattle.std.proofs.Common.{◌≡◌, ◌∙◌, sym, ap, ℕ, suc, ◌+◌, ◌/◌, arith}
use mathlib.Core.Path.{ap₂}
use Rattle.gf32_ext.specs.Field.{product, power}
use Rattle.gf32_ext.proofs.Powers.{power_none, power_more, power_plus}
use Rattle.polynomial.proofs.+power_of.Goals as goal

squared : (x n half square : ℕ) → half ≡ power x (n / 2) → square ≡ product half half → square ≡ power x (n / 2 + n / 2)
squared x n half square h s = s ∙ ap₂ product h h ∙ sym (power_plus x (n / 2) (n / 2))

pub returns-then-n-eq0 : goal.returns-then-n-eq0
returns-then-n-eq0 t c = sym (ap (power c.args.base) c.if-n-eq0.true ∙ power_none c.args.base)

pub returns-then-n-eq0-2 : goal.returns-then-n-eq0-2
returns-then-n-eq0-2 t c =
    let twice : c.args.n / 2 + c.args.n / 2 ≡ c.args.n = omega (arith, c.if-n-eq0-2.true) in
    squared c.args.base c.args.n _ _ c.power_of-half.ensures c.multiply-even.ensures ∙ ap (power c.args.base) twice

pub returns-else-n-eq0-2 : goal.returns-else-n-eq0-2
returns-else-n-eq0-2 t c =
    let more : suc (c.args.n / 2 + c.args.n / 2) ≡ c.args.n = omega (arith, c.if-n-eq0-2.false) in
    c.multiply.ensures
    ∙ ap (product c.args.base) (squared c.args.base c.args.n _ _ c.power_of-half.ensures c.multiply-even.ensures)
    ∙ sym (power_more c.args.base (c.args.n / 2 + c.args.n / 2))
    ∙ ap (power c.args.base) more
