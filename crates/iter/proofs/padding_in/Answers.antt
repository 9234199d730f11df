-- The padding of a list: none of no symbols, and otherwise that of the count and the last.
-- What carries it: the leftover bits are low bits of the last symbol.
use mathlib.Core.Path.{refl, sym, ap, ◌∙◌}
use mathlib.Core.List.{map}
use lib.ListN.{length, length-map}
use Rattle.std.specs.Option.{option_copied}
use Rattle.iter.proofs.Leftover.{none_last, last_symbol, padding_none, padding_long_lem, padding_set, padding_clear}
use Rattle.iter.proofs.padding_in.Goals as goal

pub returns-in_default : goal.returns-in_default
returns-in_default g c =
    let read = g.R.Reading.symbol_of in
    let list = c.args.list.now in
    padding_none (map read list) (length-map list read ∙ none_last list (sym c.last.ensures.value ∙ ap option_copied c.in_default.is))

pub returns-then-left-gt-MAX_PADDING : goal.returns-then-left-gt-MAX_PADDING
returns-then-left-gt-MAX_PADDING g c =
    let read = g.R.Reading.symbol_of in
    let list = c.args.list.now in
    padding_long_lem (map read list) (length list) _ (length-map list read) refl c.if-left-gt-MAX_PADDING.true

pub returns-then-read-left-ne0 : goal.returns-then-read-left-ne0
returns-then-read-left-ne0 g c =
    let read = g.R.Reading.symbol_of in
    let list = c.args.list.now in
    let same = last_symbol read list c.in-Some.last.now c.read.result (sym c.last.ensures.value ∙ ap option_copied c.in-Some.is) c.read.ensures in
    padding_set (map read list) (length list) c.read.result (length-map list read) same c.if-left-gt-MAX_PADDING.false c.if-read-left-ne0.true

pub returns : goal.returns
returns g c =
    let read = g.R.Reading.symbol_of in
    let list = c.args.list.now in
    let same = last_symbol read list c.in-Some.last.now c.read.result (sym c.last.ensures.value ∙ ap option_copied c.in-Some.is) c.read.ensures in
    padding_clear (map read list) (length list) c.read.result (length-map list read) same c.if-left-gt-MAX_PADDING.false c.if-read-left-ne0.false
