use Rattle.std.proofs.Common.{refl}
use Rattle.std.proofs.lemmas.Result.{err_from_is_err_and}
use Rattle.decode.proofs.Generic.{read_split_refused, read_long, read_sum_refused, checksum_off}
use Rattle.decode.proofs.read_halves.Goals as goal

pub returns-in_err-halves : goal.returns-in_err-halves
returns-in_err-halves c =
    let p = err_from_is_err_and c.from_residual.result c.from_residual.ensures.1 in
    rw (p.1, p.2) (read_split_refused _ _ _ c.in_err-halves.ensures)

pub returns-then-s-gt-CODE_LENGTH : goal.returns-then-s-gt-CODE_LENGTH
returns-then-s-gt-CODE_LENGTH c = read_long _ _ _ _ c.in_ok-halves.ensures c.if-s-gt-CODE_LENGTH.true

pub returns-in_err-check : goal.returns-in_err-check
returns-in_err-check c =
    let p = err_from_is_err_and c.from_residual-in_err-check.result c.from_residual-in_err-check.ensures.1 in
    rw (p.1, p.2) (read_sum_refused _ _ _ _ c.in_ok-halves.ensures c.if-s-gt-CODE_LENGTH.false _ c.in_err-check.ensures)

pub returns : goal.returns
returns c = checksum_off _ _ _ _ c.in_ok-halves.ensures c.if-s-gt-CODE_LENGTH.false c.in_ok-check.ensures _ refl refl refl
