-- `check_bytes` gives what the definition gives: each exit cites the law of the offence that it met.
use mathlib.Core.Path.{refl, sym, ◌∙◌}
use Rattle.answers.specs.Rules.{offence}
use Rattle.hrp.proofs.Prefix.{offence_0, offence_2, offence_6}
use Rattle.hrp.proofs.Walk.{none_left, not_printable, mixed}
use Rattle.hrp.proofs.check_bytes.Goals as goal

pub loop-byte-init : goal.loop-byte-init
unfolding offence
loop-byte-init c = (refl, refl)

pub returns-then-not-is_ascii_graphic : goal.returns-then-not-is_ascii_graphic
returns-then-not-is_ascii_graphic c =
    let l = c.loop-byte in
    sym (offence_6 _ c.requires.0 c.requires.1
    (not_printable _ l.byte-index l.upper l.lower l.invariant.0 c.loop-byte-test.true
    (sym c.is_ascii_graphic.ensures.value ∙ c.if-not-is_ascii_graphic.true)))

pub returns-then-lower : goal.returns-then-lower
returns-then-lower c =
    let l = c.loop-byte in
    sym (offence_2 _ c.requires.0 c.requires.1
    (mixed _ l.byte-index l.upper l.lower l.invariant.0 l.invariant.1 c.loop-byte-test.true
    (sym c.is_ascii_graphic.ensures.value ∙ c.if-not-is_ascii_graphic.false)
    (rw (← c.is_ascii_uppercase-upper.ensures.value, ← c.is_ascii_lowercase-lower.ensures.value, c.if-upper.true, c.if-lower.true) refl)))

pub returns : goal.returns
returns c =
    let l = c.loop-byte in
    sym (offence_0 _ c.requires.0 c.requires.1 (none_left _ l.byte-index l.upper l.lower l.invariant.0 c.loop-byte-test.false))
