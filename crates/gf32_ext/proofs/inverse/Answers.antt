-- `gf32_ext::inverse` meets its promise: the conjugate over the norm (proofs/Norm.antt).
use mathlib.Core.Path.{◌≡◌, ap, ◌∙◌}
use Rattle.std.specs.Prelude.{Ok}
use Rattle.std.proofs.lemmas.Result.{err_from_is_err_and}
use Rattle.gf32_ext.proofs.Norm.{reciprocal, none_by_norm, found_by_norm}
use Rattle.gf32_ext.proofs.inverse.Goals as goal

pub returns-in_err-scale : goal.returns-in_err-scale
returns-in_err-scale c =
    let p = err_from_is_err_and c.from_residual.result c.from_residual.ensures.1 in
    rw (p.1, p.2) (none_by_norm c.args.y c.in_err-scale.field-0.0 (let none = c.in_err-scale.ensures in cc))

pub returns : goal.returns
returns c =
    let packed : c.pack.result ≡ reciprocal c.args.y c.in_ok-scale.scale = cc in
    ap Ok packed ∙ found_by_norm c.args.y c.in_ok-scale.scale (let found = c.in_ok-scale.ensures in cc)
