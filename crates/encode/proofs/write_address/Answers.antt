-- `write_address` keeps its promise: what is accepted fits.
use mathlib.Core.Path.{sym, ◌∙◌}
use native.Mathlib.Omega.{arith}
use lib.ListN.{length}
use lib.Seq.{length-take-le}
use Rattle.encode.proofs.Accepted.{address_accepted}
use Rattle.encode.proofs.Answers.{accepted}
use Rattle.encode.proofs.write_address.Goals as goal

pub slice_bounds-put_address-end : goal.slice_bounds-put_address-end
slice_bounds-put_address-end c =
    let a = c.args in
    let fit = (address_accepted a.prefix.now a.version a.program.now (length a.out.now) _).0 (sym c.in_ok-length.ensures) in
    omega (arith, fit.enough, fit.count)

pub slice_bounds-put_address-end-2 : goal.slice_bounds-put_address-end-2
slice_bounds-put_address-end-2 c =
    let a = c.args in
    let fit = (address_accepted a.prefix.now a.version a.program.now (length a.out.now) _).0 (sym c.in_ok-length.ensures) in
    sym (length-take-le _ a.out.now (omega (arith, fit.enough, fit.count)))

pub put_address-requires : goal.put_address-requires
put_address-requires c =
    let a = c.args in
    let fit = (address_accepted a.prefix.now a.version a.program.now (length a.out.now) _).0 (sym c.in_ok-length.ensures) in
    (length-take-le _ a.out.now (omega (arith, fit.enough, fit.count)) ∙ sym fit.count, omega (arith, fit.known))

pub returns : goal.returns
returns c =
    let a = c.args in
    accepted _ _ a.out.now _ c.in_ok-length.ensures _ c.put_address.ensures
