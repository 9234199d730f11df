-- `locate` meets its promise: what taking apart refuses is refused, as reading would.
use Rattle.checksum.specs.Parameters.{constant_for}
use Rattle.std.proofs.lemmas.Result.{err_from_is_err_and}
use Rattle.correction.proofs.Locating.{split_keeps, prefix_inside}
use Rattle.correction.proofs.locate.Goals as goal

pub returns-in_err-parts : goal.returns-in_err-parts
returns-in_err-parts c =
    let p = err_from_is_err_and c.from_residual.result c.from_residual.ensures.1 in
    rw (p.1, p.2) (split_keeps (constant_for c.args.checksum) c.args.s.now c.in_err-parts.field-0.0 c.in_err-parts.ensures)

pub residue_of-requires-clause-inside : goal.residue_of-requires-clause-inside
residue_of-requires-clause-inside c = prefix_inside c.args.s.now c.in_ok-parts.parts c.in_ok-parts.ensures
