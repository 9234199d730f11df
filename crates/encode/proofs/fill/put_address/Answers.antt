-- The version and the program's symbols are laid into the buffer, and `finish` makes the address of them.
use mathlib.Core.Path.{ap}
use Rattle.std.specs.Prelude.{is_ok}
use Rattle.encode.proofs.Laying.{address_counted, address_ready, address_finished}
use Rattle.encode.proofs.fill.put_address.Goals as goal

pub unwrap-count-requires : goal.unwrap-count-requires
unwrap-count-requires c =
    let a = c.args in
    ap is_ok
    (address_counted a.prefix.now a.version a.program.now a.out.now c.requires.0 c.bytes_to_symbols.result c.bytes_to_symbols.new.out c.bytes_to_symbols.ensures)

pub finish-requires : goal.finish-requires
finish-requires c =
    let a = c.args in
    address_ready a.prefix.now a.version a.program.now a.out.now c.requires.0
    c.bytes_to_symbols.result c.bytes_to_symbols.new.out c.bytes_to_symbols.ensures _ c.unwrap-count.ensures c.requires.1

pub returns : goal.returns
returns c =
    let a = c.args in
    address_finished a.prefix.now a.version a.program.now a.out.now c.requires.0
    c.bytes_to_symbols.result c.bytes_to_symbols.new.out c.bytes_to_symbols.ensures _ c.unwrap-count.ensures
    c.for_version.result c.for_version.ensures _ c.finish.ensures
