use Rattle.std.proofs.Common.{◌∙◌}
use Rattle.std.proofs.lemmas.Result.{err_from_is_err_and}
use Rattle.decode.proofs.Segwit.{address_judged, program_whole}
use Rattle.decode.proofs.Rooms.{address_refused, address_written}
use Rattle.decode.proofs.read_address.Goals as goal

pub returns-in_err-address : goal.returns-in_err-address
returns-in_err-address c =
    let p = err_from_is_err_and c.from_residual-in_err-address.result c.from_residual-in_err-address.ensures.1 in
    rw (p.1, p.2) (address_refused _ _ _ (c.in_err-address.ensures ∙ address_judged _ _ _ c.in_ok-halves.ensures))

pub returns-in_err-characters_to_bytes : goal.returns-in_err-characters_to_bytes
returns-in_err-characters_to_bytes c =
    let p = err_from_is_err_and c.from_residual-in_err-characters_to_bytes.result c.from_residual-in_err-characters_to_bytes.ensures.1 in
    rw (p.1, p.2)
    (address_written _ _ _ (c.in_ok-address.ensures ∙ address_judged _ _ _ c.in_ok-halves.ensures)
    _ (program_whole _ _ _ c.in_ok-halves.ensures _ c.program_of.ensures) _ _ c.in_err-characters_to_bytes.ensures)

pub returns : goal.returns
returns c =
    address_written _ _ _ (c.in_ok-address.ensures ∙ address_judged _ _ _ c.in_ok-halves.ensures)
    _ (program_whole _ _ _ c.in_ok-halves.ensures _ c.program_of.ensures) _ _ c.in_ok-characters_to_bytes.ensures
