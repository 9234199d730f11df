-- Horner's rule.
use mathlib.Core.Path.{◌≡◌, sym, ap, ◌∙◌}
use Prim.Native.Nat.{◌-◌, ◌<◌}
use native.Mathlib.Omega.{arith}
use lib.ListN.{length, get_or, length-reverse}
use lib.Seq.{drop-length}
use Rattle.std.proofs.lemmas.Grind.{get_or_default_zero}
use Rattle.std.proofs.lemmas.Iterator.Adapters.{YieldsList-from_rev_slice}
use Rattle.std.proofs.lemmas.Iterator.Consumers.{YieldsList-turn}
use Rattle.std.proofs.lemmas.List.{get_or-reverse, length_push}
use Rattle.gf32_ext.specs.Field.{sum}
use Rattle.polynomial.specs.Polynomials.{value_at}
use Rattle.polynomial.proofs.Values.{value_none, value_lt, value_turn}
use Rattle.polynomial.proofs.value_by.Goals as goal

pub loop-c-init : goal.loop-c-init
loop-c-init g c = λ x m. let all : length c.args.s.now - 0 ≡ length c.args.s.now = omega arith in rw all (sym (ap (λ l. value_at l x) (drop-length c.args.s.now) ∙ value_none x))

pub loop-c-preserved : goal.loop-c-preserved
loop-c-preserved g c =
    let t = YieldsList-turn (YieldsList-from_rev_slice c.args.s.now cc) c.loop-c.yielded _ c.loop-c.yielded_by _ _ c.in-Some.c c.in-Some.is c.next.ensures.steps in
    let before : length c.loop-c.yielded < length c.args.s.now = omega (arith, t.0, length-reverse c.args.s.now) in
    let place : c.in-Some.c.now ≡ get_or c.args.s.now (length c.args.s.now - 1 - length c.loop-c.yielded) 0 =
    t.1 ∙ get_or_default_zero _ _ _ t.0 ∙ get_or-reverse c.args.s.now (length c.loop-c.yielded) 0 before in
    let read : c.from.result ≡ c.in-Some.c.now = cc in
    λ x m.
    let so_far = c.loop-c.invariant x m in
    let small : c.loop-c.value < 1024 = rw so_far (value_lt _ x) in
    rw (length_push c.loop-c.yielded c.in-Some.c)
    (value_turn c.args.s.now x (length c.loop-c.yielded) c.in-Some.c.now before place so_far
    (m.times c.loop-c.value c.times_x.result small c.times_x.ensures)
    (c.add-value.ensures ∙ ap (sum c.times_x.result) read))
