-- Too small a room is refused with the buffer as it was; otherwise the values stand in front.
use mathlib.Core.Path.{◌≡◌, refl, sym, ap, ◌∙◌}
use mathlib.Core.List.{List, ◌++◌, append-nil}
use Prim.Native.Nat.{ℕ}
use native.Mathlib.Omega.{arith}
use lib.ListN.{length, take, drop, drop_of_length-le}
use lib.Seq.{length-take-le}
use Rattle.iter.proofs.Answers.{no_room, room, put_more, put_all}
use Rattle.iter.proofs.write.Goals as goal

pub returns-then-out-count : goal.returns-then-out-count
returns-then-out-count g c = λ list all gives. no_room list c.args.out.now c.args.count (sym all) c.if-out-count.true

pub loop-at-init : goal.loop-at-init
loop-at-init g c = λ list all gives. refl

pub loop-at-preserved : goal.loop-at-preserved
loop-at-preserved g c =
    let l = c.loop-at in
    let count = c.args.count in
    let before = c.args.out.now in
    let long : length (take count before) ≡ count = length-take-le count before c.if-out-count.false in
    λ list all gives.
    put_more list (take count before) l.at count (sym all) (omega arith) (omega arith) l.front c.value.result (l.invariant list all gives)
    (gives l.at c.value.result (omega arith) c.value.ensures)

pub returns : goal.returns
returns g c =
    let l = c.loop-at in
    let count = c.args.count in
    let before = c.args.out.now in
    let long : length (take count before) ≡ count = length-take-le count before c.if-out-count.false in
    λ list all gives.
    let written : l.front ≡ list =
    put_all list (take count before) l.at count (sym all) (omega arith) (omega arith) l.front (l.invariant list all gives)
    ∙ ap (list ++◌) (drop_of_length-le (take count before) (omega arith))
    ∙ append-nil list
    in
    room list before count (sym all) c.if-out-count.false (l.front ++ drop count before) (ap (λ (front : List ℕ). front ++ drop count before) written)
