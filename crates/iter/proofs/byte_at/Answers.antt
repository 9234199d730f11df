-- The byte at a place of a list that symbols are read from. What carries it: `byte_from`, the byte in three symbols.
use mathlib.Core.Path.{ap}
use mathlib.Core.List.{map}
use Prim.Native.Nat.{ℕ, ◌%◌}
use native.Mathlib.Omega.{arith}
use Rattle.iter.proofs.Characters.{read_length}
use Rattle.iter.proofs.Places.{byte_from}
use Rattle.iter.proofs.byte_at.Goals as goal

pub returns : goal.returns
returns g c =
    let read = g.R.Reading.symbol_of in
    let list = c.args.list.now in
    let low = λ (v : ℕ). v % 32 in
    rw (c.from.ensures, c.from-2.ensures, c.from-3.ensures)
    (byte_from (map read list) c.args.at (omega (arith, read_length read list))
    c.nth-x.result c.nth-y.result c.nth-z.result
    (ap low c.nth-x.ensures) (ap low c.nth-y.ensures) (ap low c.nth-z.ensures))
