-- `feed` keeps its promise.
-- A line buffer under 91 bytes is left alone; otherwise take_bytes has done what the definition says, and what it took says whether it was stuck.
use Rattle.lines.proofs.Steps.{fed_short, fed_empty, fed_stuck, fed_on}
use borrow.Author.Rules.{rules}
use Rattle.lines.proofs.feed.Goals as goal

pub returns-then-line-lt-KEPT : goal.returns-then-line-lt-KEPT
returns-then-line-lt-KEPT c =
    let a = c.args in
    fed_short a.input.now a.line.now a.state.len a.out.now c.if-line-lt-KEPT.true

pub returns-then-is_empty : goal.returns-then-is_empty
returns-then-is_empty c =
    let a = c.args in
    fed_empty a.input.now a.line.now a.state.len a.out.now _ c.kept_count-len.ensures.value c.if-line-lt-KEPT.false
    (search rules)

pub returns-then-fed-eq0 : goal.returns-then-fed-eq0
returns-then-fed-eq0 c =
    let a = c.args in
    fed_stuck a.input.now a.line.now a.state.len a.out.now _ c.kept_count-len.ensures.value c.if-line-lt-KEPT.false
    _ _ _ (search rules) c.take_bytes-fed.ensures.went_on c.if-fed-eq0.true _ (search rules)

pub returns : goal.returns
returns c =
    let a = c.args in
    fed_on a.input.now a.line.now a.state.len a.out.now _ c.kept_count-len.ensures.value c.if-line-lt-KEPT.false
    _ _ _ c.take_bytes-fed.ensures.went_on c.if-fed-eq0.false _ (search rules)
