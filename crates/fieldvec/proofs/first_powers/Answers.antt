-- The powers, written to the front one a turn (proofs/Build.antt).
use mathlib.Core.Path.{◌≡◌, sym, ap, ◌∙◌}
use Prim.Native.Nat.{ℕ}
use native.Mathlib.Numerals.{add-one}
use native.Mathlib.Omega.{arith}
use lib.ListN.{length, replicate, drop}
use mathlib.Core.List.{List, ◌++◌}
use lib.Seq.{length-take-le}
use Rattle.std.proofs.lemmas.Grind.{same_number_lists}
use Rattle.std.proofs.Common.{below_more, get_or-set_same, get_or-set_other}
use Rattle.laws.specs.Lists.{table}
use Rattle.laws.proofs.Tables.{tabulated}
use Rattle.gf32_ext.specs.Field.{product, power}
use Rattle.gf32_ext.proofs.Powers.{power_lt, power_none, power_more}
use Rattle.fieldvec.proofs.Build.{made, listed_front, table_length}
use Rattle.fieldvec.proofs.Stored.{narrowed_whole}
use Rattle.fieldvec.proofs.first_powers.Goals as goal

pub loop-item-init : goal.loop-item-init
loop-item-init c = (λ k h. absurd (omega arith), sym (power_none c.args.base))

pub loop-item-preserved : goal.loop-item-preserved
loop-item-preserved c = (
  below_more _ _
      (λ k h. get_or-set_other c.loop-item.front c.loop-item.item-index k c.narrowed.result 0 (λ e. absurd (omega arith)) ∙ c.loop-item.invariant.0 k h)
      (get_or-set_same c.loop-item.front c.loop-item.item-index c.narrowed.result 0 (omega arith)
      ∙ narrowed_whole c.loop-item.invariant.1 (power_lt c.args.base c.loop-item.item-index) c.narrowed.ensures),
  c.multiply-next.ensures ∙ ap (product c.args.base) c.loop-item.invariant.1 ∙ sym (power_more c.args.base c.loop-item.item-index)
      ∙ ap (power c.args.base) (sym (add-one c.loop-item.item-index)),
)

pub returns : goal.returns
returns c =
    let powers = table (power c.args.base) c.args.n in
    let places = table_length (power c.args.base) c.args.n in
    let room = length-take-le c.args.n (replicate {A = ℕ} 7 0) c.requires in
    let long : length c.loop-item.front ≡ c.args.n = c.loop-item.auto.front ∙ room in
    let written : c.loop-item.front ≡ powers =
    same_number_lists c.loop-item.front powers (long ∙ sym places)
    (λ k h. c.loop-item.invariant.0 k (omega (arith, long, room, c.loop-item-test.false)) ∙ sym (tabulated (power c.args.base) c.args.n k (omega (arith, long)))) in
    ap (λ (l : List ℕ). made (l ++ drop {A = ℕ} c.args.n (replicate 7 0)) c.args.n) written ∙ listed_front powers c.args.n places
