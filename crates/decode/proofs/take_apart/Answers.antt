-- Each exit is one rule of 1 to 6, by what the code asks of the scans.
use Rattle.std.proofs.Common.{◌+◌, ◌≤◌, length, take, refl, sym, ◌∙◌, arith, rules}
use lib.Seq.{length-take-le}
use Rattle.decode.proofs.Splits.{Separated, outside_1, mixed_2, no_separator_3, passed_3, prefix_inside, separator_inside, empty_4, long_5, byte_6, taken_apart}
use Rattle.decode.proofs.take_apart.Goals as goal
use Rattle.decode.proofs.take_apart.Goals.{In-Some}

past_3 : (c : In-Some) → Separated c.args.s.now (take c.unwrap_or.result c.args.s.now) c.in-Some.separator
past_3 c =
    passed_3 _ _ c.scan_data-tail.ensures (sym c.has_outside.ensures ∙ c.if-has_outside.false) _ c.unwrap_or.ensures _ c.joined.ensures
    (sym c.has_both_cases.ensures ∙ c.if-has_both_cases.false) _ c.in-Some.is

inside : (c : In-Some) → c.in-Some.separator + 1 ≤ length c.args.s.now
inside c = separator_inside _ _ c.scan_data-tail.ensures.separator _ c.in-Some.is

pub returns-then-has_outside : goal.returns-then-has_outside
returns-then-has_outside c = outside_1 _ _ c.scan_data-tail.ensures (sym c.has_outside.ensures ∙ c.if-has_outside.true)

pub slice_bounds-prefix-end : goal.slice_bounds-prefix-end
slice_bounds-prefix-end c = sym (length-take-le _ _ (omega (arith, c.unwrap_or.ensures, prefix_inside _ _ c.scan_data-tail.ensures.separator)))

pub returns-then-has_both_cases : goal.returns-then-has_both_cases
returns-then-has_both_cases c =
    mixed_2 _ _ c.scan_data-tail.ensures (sym c.has_outside.ensures ∙ c.if-has_outside.false) _ c.unwrap_or.ensures _ c.joined.ensures
    (sym c.has_both_cases.ensures ∙ c.if-has_both_cases.true)

pub returns-in_default : goal.returns-in_default
returns-in_default c =
    no_separator_3 _ _ c.scan_data-tail.ensures (sym c.has_outside.ensures ∙ c.if-has_outside.false) _ c.unwrap_or.ensures _ c.joined.ensures
    (sym c.has_both_cases.ensures ∙ c.if-has_both_cases.false) c.in_default.is

pub returns-then-is_empty : goal.returns-then-is_empty
returns-then-is_empty c = empty_4 _ _ _ (past_3 (goal.at.returns-then-is_empty c).In-Some) (search rules)

pub returns-then-prefix-gt-MAX_LENGTH : goal.returns-then-prefix-gt-MAX_LENGTH
returns-then-prefix-gt-MAX_LENGTH c =
    long_5 _ _ _ (past_3 (goal.at.returns-then-prefix-gt-MAX_LENGTH c).In-Some) (search rules) c.if-prefix-gt-MAX_LENGTH.true

pub returns-then-not-is_printable : goal.returns-then-not-is_printable
returns-then-not-is_printable c =
    byte_6 _ _ _ (past_3 (goal.at.returns-then-not-is_printable c).In-Some) (search rules) c.if-prefix-gt-MAX_LENGTH.false _ c.is_printable.ensures
    c.if-not-is_printable.true

pub overflow_add-result : goal.overflow_add-result
overflow_add-result c = let h : c.in-Some.separator + 1 ≤ length c.args.s.now = inside (goal.at.overflow_add-result c).In-Some in search rules

pub slice_bounds-result-count : goal.slice_bounds-result-count
slice_bounds-result-count c = inside (goal.at.slice_bounds-result-count c).In-Some

pub slice_bounds-result-start : goal.slice_bounds-result-start
slice_bounds-result-start c = let h : c.in-Some.separator + 1 ≤ length c.args.s.now = inside (goal.at.slice_bounds-result-start c).In-Some in search rules

pub returns : goal.returns
returns c =
    taken_apart _ _ _ (past_3 (goal.at.returns c).In-Some) (search rules) c.if-prefix-gt-MAX_LENGTH.false _ c.is_printable.ensures c.if-not-is_printable.false
    c.args.s.ref_ptr _ refl refl refl refl
