-- `gf32::divide` meets its promise: 27 by the definition, and other quotients go by exponents (proofs/Exponents.antt).
use mathlib.Core.Path.{sym, ap, ap₂, ◌∙◌}
use Prim.Native.Nat.{ℕ, ◌+◌, ◌-◌, ◌%◌}
use native.Mathlib.Omega.{arith}
use borrow.Author.Tests.{eq-eqb, ne_eqb}
use Rattle.std.specs.Prelude.{Ok}
use Rattle.gf32.specs.Field.{product, inverse, quotient}
use Rattle.gf32.specs.Exponents.{power_of}
use Rattle.gf32.proofs.Field.{product_mod_left, zero_product}
use Rattle.gf32.proofs.Exponents.{log_lt, quotient_by_exponents}
use Rattle.gf32.proofs.divide.Goals as goal

pub returns-then-y-eq0 : goal.returns-then-y-eq0
unfolding quotient
returns-then-y-eq0 c = rw (eq-eqb _ _ c.if-y-eq0.true)

pub returns-then-x-eq0 : goal.returns-then-x-eq0
unfolding quotient
returns-then-x-eq0 c = rw (ne_eqb _ _ c.if-y-eq0.false) (ap Ok (sym (zero_product (inverse c.args.y)) ∙ ap (λ (x : ℕ). product x (inverse c.args.y)) (sym c.if-x-eq0.true) ∙ product_mod_left c.args.x (inverse c.args.y)))

pub overflow_add-exponent : goal.overflow_add-exponent
overflow_add-exponent c = omega (arith, c.exponent.ensures, log_lt c.args.x)

pub overflow_sub-exponent : goal.overflow_sub-exponent
overflow_sub-exponent c = omega (arith, c.exponent-2.ensures, log_lt c.args.y)

pub returns : goal.returns
unfolding quotient
returns c =
    rw (ne_eqb _ _ c.if-y-eq0.false)
    (ap Ok (c.power.ensures
    ∙ ap₂ (λ (a b : ℕ). power_of ((31 + a - b) % 31)) c.exponent.ensures c.exponent-2.ensures
    ∙ quotient_by_exponents c.args.x c.args.y
    c.if-x-eq0.false
    c.if-y-eq0.false))
