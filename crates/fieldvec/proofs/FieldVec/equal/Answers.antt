-- `FieldVec::equal` meets its promise, exit by exit.
use mathlib.Core.Path.{sym, ap, ap₂, ◌∙◌}
use native.Mathlib.Omega.{arith}
use Rattle.std.specs.Prelude.{Ok}
use Rattle.fieldvec.specs.Lists.{alike}
use Rattle.fieldvec.proofs.Laws.{shown_ok, exit, compared_outside, compared_whole, compared_other}
use Rattle.fieldvec.proofs.FieldVec.equal.Goals as goal

pub returns-in_err-elements : goal.returns-in_err-elements
returns-in_err-elements c =
    let out = exit c.args.self.now _ c.from_residual.result c.from_residual.ensures.1 c.in_err-elements.ensures in
    out.1 ∙ sym (compared_outside c.args.self.now out.0 c.args.other.now)

pub returns-in_err-elements-2 : goal.returns-in_err-elements-2
returns-in_err-elements-2 c =
    let shown = shown_ok c.args.self.now _ c.in_ok-elements.ensures in
    let r = c.from_residual-in_err-elements-2 in
    let out = exit c.args.other.now _ r.result r.ensures.1 c.in_err-elements-2.ensures in
    out.1 ∙ sym (compared_other c.args.self.now (omega arith) shown.0 c.args.other.now out.0)

pub returns : goal.returns
returns c =
    let shown = shown_ok c.args.self.now _ c.in_ok-elements.ensures in
    let other = shown_ok c.args.other.now _ c.in_ok-elements-2.ensures in
    ap Ok (c.matches.ensures ∙ ap₂ alike shown.1 other.1) ∙ sym (compared_whole c.args.self.now (omega arith) shown.0 c.args.other.now other.0)
