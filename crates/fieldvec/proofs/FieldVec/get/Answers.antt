-- `FieldVec::get` meets its promise, exit by exit.
use mathlib.Core.Path.{sym, ap, ◌∙◌}
use native.Mathlib.Omega.{arith}
use Rattle.std.specs.Prelude.{Ok}
use Rattle.fieldvec.proofs.Laws.{shown_ok, exit, got_outside, got_at, got_past}
use Rattle.fieldvec.proofs.FieldVec.get.Goals as goal

pub returns-in_err-elements : goal.returns-in_err-elements
returns-in_err-elements c =
    let out = exit c.args.self.now _ c.from_residual.result c.from_residual.ensures.1 c.in_err-elements.ensures in
    out.1 ∙ sym (got_outside c.args.self.now out.0 c.args.at)

pub returns-in-Some : goal.returns-in-Some
returns-in-Some c =
    let shown = shown_ok c.args.self.now _ c.in_ok-elements.ensures in
    let found = rw shown.1 at c.in-Some.ensures.lookup.3 in
    ap Ok c.widened.ensures ∙ got_at c.args.self.now (omega arith) shown.0 c.args.at c.in-Some.element.now found.0 (found.1 0)

pub returns-in-None : goal.returns-in-None
returns-in-None c =
    let shown = shown_ok c.args.self.now _ c.in_ok-elements.ensures in
    sym (got_past c.args.self.now (omega arith) shown.0 c.args.at (rw shown.1 at c.in-None.ensures.lookup.3))
