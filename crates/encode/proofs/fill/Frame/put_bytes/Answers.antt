-- The symbols of the bytes are laid into the buffer, and `finish` makes the string of them.
use mathlib.Core.Path.{ap}
use Prim.Native.Nat.{◌+◌}
use lib.ListN.{length}
use Rattle.std.specs.Prelude.{is_ok}
use Rattle.paper.specs.Bits.{to_symbols}
use Rattle.checksum.specs.Parameters.{constant_for}
use Rattle.iter.proofs.Lengths.{symbols_below}
use Rattle.encode.proofs.Laying.{laid_regrouped, regrouped_ok, regrouped_count, laid_ready, laid_finished}
use native.Mathlib.Omega.{arith}
use Rattle.encode.proofs.fill.Frame.put_bytes.Goals as goal

pub unwrap-count-requires : goal.unwrap-count-requires
unwrap-count-requires c =
    let a = c.args in
    let start = length a.self.prefix.now + 1 in
    ap is_ok (regrouped_ok start (to_symbols a.bytes.now) a.out.now _ c.bytes_to_symbols.new.out (omega arith) c.bytes_to_symbols.ensures)

pub finish-requires : goal.finish-requires
finish-requires c =
    let a = c.args in
    let start = length a.self.prefix.now + 1 in
    let symbols = to_symbols a.bytes.now in
    let tail = c.bytes_to_symbols.new.out in
    let count = regrouped_count start symbols a.out.now _ tail (omega arith) c.bytes_to_symbols.ensures _ c.unwrap-count.ensures in
    let laid = laid_regrouped start symbols a.out.now _ tail (omega arith) c.bytes_to_symbols.ensures in
    laid_ready a.self.prefix.now symbols a.out.now _ count c.requires _ laid (symbols_below a.bytes.now)

pub returns : goal.returns
returns c =
    let a = c.args in
    let start = length a.self.prefix.now + 1 in
    let symbols = to_symbols a.bytes.now in
    let tail = c.bytes_to_symbols.new.out in
    let count = regrouped_count start symbols a.out.now _ tail (omega arith) c.bytes_to_symbols.ensures _ c.unwrap-count.ensures in
    let laid = laid_regrouped start symbols a.out.now _ tail (omega arith) c.bytes_to_symbols.ensures in
    laid_finished a.self.prefix.now symbols a.out.now _ count c.requires _ laid (constant_for a.self.checksum) _ c.finish.ensures
