-- `write_bytes` keeps its promise: what is accepted fits.
use mathlib.Core.Path.{sym, ◌∙◌}
use native.Mathlib.Omega.{arith}
use lib.ListN.{length}
use lib.Seq.{length-take-le}
use Rattle.checksum.specs.Parameters.{constant_for}
use Rattle.encode.proofs.Accepted.{bytes_accepted}
use Rattle.encode.proofs.Answers.{accepted}
use Rattle.encode.proofs.write_bytes.Goals as goal

pub slice_bounds-put_bytes-end : goal.slice_bounds-put_bytes-end
slice_bounds-put_bytes-end c =
    let a = c.args in
    let answer = c.in_ok-length.ensures (constant_for a.checksum) in
    let fit = (bytes_accepted (constant_for a.checksum) a.prefix.now a.bytes.now (length a.out.now) _).0 (sym answer) in
    omega (arith, fit.enough, fit.count)

pub slice_bounds-put_bytes-end-2 : goal.slice_bounds-put_bytes-end-2
slice_bounds-put_bytes-end-2 c =
    let a = c.args in
    let answer = c.in_ok-length.ensures (constant_for a.checksum) in
    let fit = (bytes_accepted (constant_for a.checksum) a.prefix.now a.bytes.now (length a.out.now) _).0 (sym answer) in
    sym (length-take-le _ a.out.now (omega (arith, fit.enough, fit.count)))

pub put_bytes-requires : goal.put_bytes-requires
put_bytes-requires c =
    let a = c.args in
    let answer = c.in_ok-length.ensures (constant_for a.checksum) in
    let fit = (bytes_accepted (constant_for a.checksum) a.prefix.now a.bytes.now (length a.out.now) _).0 (sym answer) in
    length-take-le _ a.out.now (omega (arith, fit.enough, fit.count)) ∙ sym fit.count

pub returns : goal.returns
returns c =
    let a = c.args in
    let answer = c.in_ok-length.ensures (constant_for a.checksum) in
    accepted _ _ a.out.now _ answer _ c.put_bytes.ensures
