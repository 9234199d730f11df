-- `gf32::multiply` meets its promise: a zero factor gives zero, and other products go by exponents (proofs/Exponents.antt).
use mathlib.Core.Path.{sym, ap, ap₂, ◌∙◌}
use Prim.Native.Nat.{ℕ, ◌+◌, ◌%◌}
use native.Mathlib.Omega.{arith}
use Rattle.gf32.specs.Field.{product}
use Rattle.gf32.specs.Exponents.{power_of}
use Rattle.gf32.proofs.Field.{product_mod_left, product_mod_right, product_zero, zero_product}
use Rattle.gf32.proofs.Exponents.{log_lt, product_by_exponents}
use Rattle.gf32.proofs.multiply.Goals as goal

pub returns-then-x-eq0 : goal.returns-then-x-eq0
returns-then-x-eq0 c = sym (zero_product c.args.y) ∙ ap (λ (x : ℕ). product x c.args.y) (sym c.if-x-eq0.true) ∙ product_mod_left c.args.x c.args.y

pub returns-then-y-eq0 : goal.returns-then-y-eq0
returns-then-y-eq0 c = sym (product_zero c.args.x) ∙ ap (product c.args.x) (sym c.if-y-eq0.true) ∙ product_mod_right c.args.x c.args.y

pub overflow_add-exponent : goal.overflow_add-exponent
overflow_add-exponent c = omega (arith, c.exponent.ensures, c.exponent-2.ensures, log_lt c.args.x, log_lt c.args.y)

pub returns : goal.returns
returns c =
    c.power.ensures
    ∙ ap₂ (λ (a b : ℕ). power_of ((a + b) % 31)) c.exponent.ensures c.exponent-2.ensures
    ∙ product_by_exponents c.args.x c.args.y
    c.if-x-eq0.false
    c.if-y-eq0.false
