-- `gf32_ext::divide` meets its promise: the product with the inverse (proofs/Norm.antt).
use mathlib.Core.Path.{ap, ◌∙◌}
use Rattle.std.specs.Prelude.{Ok}
use Rattle.std.proofs.lemmas.Result.{err_from_is_err_and}
use Rattle.gf32_ext.proofs.Norm.{none_by_inverse, found_by_inverse}
use Rattle.gf32_ext.proofs.divide.Goals as goal

pub returns-in_err-inverse : goal.returns-in_err-inverse
returns-in_err-inverse c =
    let p = err_from_is_err_and c.from_residual.result c.from_residual.ensures.1 in
    rw (p.1, p.2) (none_by_inverse c.args.x c.args.y c.in_err-inverse.field-0.0 c.in_err-inverse.ensures)

pub returns : goal.returns
returns c = ap Ok c.multiply.ensures ∙ found_by_inverse c.args.x c.args.y c.in_ok-inverse.field-0 c.in_ok-inverse.ensures
