-- `finish` keeps its promise.
-- One law of Steps for each way out: no line buffer, no line, no room, an answer.
use Rattle.lines.proofs.Steps.{finish_short, finish_none, finish_full, finish_answered}
use Rattle.lines.proofs.finish.Goals as goal

pub returns-then-line-lt-KEPT : goal.returns-then-line-lt-KEPT
returns-then-line-lt-KEPT c =
    let a = c.args in
    finish_short a.line.now a.state.len a.out.now c.if-line-lt-KEPT.true

pub returns-then-len-eq0 : goal.returns-then-len-eq0
returns-then-len-eq0 c =
    let a = c.args in
    finish_none a.line.now a.state.len a.out.now _ c.kept_count-len.ensures.value c.if-line-lt-KEPT.false
    c.if-len-eq0.true

pub returns-then-out-answer_length : goal.returns-then-out-answer_length
returns-then-out-answer_length c =
    let a = c.args in
    finish_full a.line.now a.state.len a.out.now _ c.kept_count-len.ensures.value c.if-line-lt-KEPT.false
    c.if-len-eq0.false _ _ c.number_of_line-number.ensures c.answer_length.ensures c.if-out-answer_length.true

pub returns : goal.returns
returns c =
    let a = c.args in
    finish_answered a.line.now a.state.len a.out.now _ c.kept_count-len.ensures.value c.if-line-lt-KEPT.false
    c.if-len-eq0.false _ _ c.number_of_line-number.ensures c.answer_length.ensures c.if-out-answer_length.false _ _ c.put.ensures
