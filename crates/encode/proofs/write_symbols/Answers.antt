-- `write_symbols` keeps its promise: what is accepted fits.
use mathlib.Core.Path.{sym, ◌∙◌}
use native.Mathlib.Omega.{arith}
use lib.ListN.{length}
use lib.Seq.{length-take-le}
use Rattle.checksum.specs.Parameters.{constant_for}
use Rattle.encode.proofs.Accepted.{symbols_accepted}
use Rattle.encode.proofs.Answers.{accepted}
use Rattle.encode.proofs.write_symbols.Goals as goal

pub slice_bounds-put_symbols-end : goal.slice_bounds-put_symbols-end
slice_bounds-put_symbols-end c =
    let a = c.args in
    let answer = c.in_ok-length.ensures (constant_for a.checksum) in
    let fit = (symbols_accepted (constant_for a.checksum) a.prefix.now a.symbols.now (length a.out.now) _).0 (sym answer) in
    omega (arith, fit.enough, fit.count)

pub slice_bounds-put_symbols-end-2 : goal.slice_bounds-put_symbols-end-2
slice_bounds-put_symbols-end-2 c =
    let a = c.args in
    let answer = c.in_ok-length.ensures (constant_for a.checksum) in
    let fit = (symbols_accepted (constant_for a.checksum) a.prefix.now a.symbols.now (length a.out.now) _).0 (sym answer) in
    sym (length-take-le _ a.out.now (omega (arith, fit.enough, fit.count)))

pub put_symbols-requires : goal.put_symbols-requires
put_symbols-requires c =
    let a = c.args in
    let answer = c.in_ok-length.ensures (constant_for a.checksum) in
    let fit = (symbols_accepted (constant_for a.checksum) a.prefix.now a.symbols.now (length a.out.now) _).0 (sym answer) in
    (length-take-le _ a.out.now (omega (arith, fit.enough, fit.count)) ∙ sym fit.count, fit.small)

pub returns : goal.returns
returns c =
    let a = c.args in
    let answer = c.in_ok-length.ensures (constant_for a.checksum) in
    accepted _ _ a.out.now _ answer _ c.put_symbols.ensures
