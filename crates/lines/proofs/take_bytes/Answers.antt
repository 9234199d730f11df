-- `take_bytes` goes through the input as the definition does.
-- The invariant: what is left of the input, from where the loop stands, gives what the whole input gives from the start.
use Rattle.lines.proofs.Steps.{digits_length, kept_turn, answered_turn, stopped, all_taken, went_here}
use native.Mathlib.Omega.{arith}
use borrow.Author.Rules.{rules}
use Rattle.lines.proofs.take_bytes.Goals as goal

pub loop-taken-preserved-then-byte-ne-LINE_END : goal.loop-taken-preserved-then-byte-ne-LINE_END
loop-taken-preserved-then-byte-ne-LINE_END c =
    let l = c.loop-taken in (
      kept_turn c.args.input.now l.kept.line.now l.kept.len l.out l.written l.taken _ l.invariant.0 c.loop-taken-test.true c.if-byte-ne-LINE_END.true
          _ _ c.keep.ensures.count c.keep.ensures.bytes,
      search rules,
      search rules,
    )

pub returns-then-out-written-clause-went_on : goal.returns-then-out-written-clause-went_on
returns-then-out-written-clause-went_on c =
    let l = c.loop-taken in
    went_here _ _ _ _ _ _ _
    (stopped c.args.input.now l.kept.line.now l.kept.len l.out l.written l.taken _ l.invariant.0 c.loop-taken-test.true c.if-byte-ne-LINE_END.false
    _ _ c.number-number.ensures c.answer_length.ensures c.if-out-written.true)

pub loop-taken-preserved : goal.loop-taken-preserved
loop-taken-preserved c =
    let l = c.loop-taken in (
      answered_turn c.args.input.now l.kept.line.now l.kept.len l.out l.written l.taken _ l.invariant.0 c.loop-taken-test.true c.if-byte-ne-LINE_END.false
          _ _ c.number-number.ensures c.answer_length.ensures c.if-out-written.false _ _ c.put-written.ensures,
      search rules,
      omega (arith, digits_length c.number-number.result),
    )

pub returns-clause-went_on : goal.returns-clause-went_on
returns-clause-went_on c =
    let l = c.loop-taken in
    went_here _ _ _ _ _ _ _
    (all_taken c.args.input.now l.kept.line.now l.kept.len l.out l.written l.taken _ l.invariant.0 c.loop-taken-test.false (search rules))
