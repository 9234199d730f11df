-- Symbols read from other numbers, as from characters.
use mathlib.Core.Path.{◌≡◌, sym, ap, ◌∙◌}
use mathlib.Core.List.{List, map}
use Prim.Native.Nat.{ℕ, ◌*◌, ◌/◌, ◌<◌}
use lib.ListN.{length, get_or, length-map}
use Rattle.laws.proofs.Front.{get_d_map}
use Rattle.paper.specs.Charset.{symbol}
use Rattle.paper.specs.Bits.{to_bytes}
use Rattle.gf32.specs.Classes.{symbol_in}
use Rattle.gf32.specs.Promises.{ClassesGiven}
use Rattle.gf32.proofs.ClassLaws.{class_read}
use Rattle.iter.proofs.Lengths.{bytes_length}

-- the symbol at a place, by the class of the character there
pub symbol_at_lem : (characters classes : List ℕ) (at : ℕ) → ClassesGiven classes → at < length characters → get_or characters at 0 < 256
    → symbol_in (get_or classes (get_or characters at 0) 0) ≡ get_or (map symbol characters) at 0
symbol_at_lem characters classes at given h byte =
    class_read classes (get_or characters at 0) given byte ∙ sym (get_d_map 0 symbol characters at h)

-- as many bytes as for symbols
pub read_length : (read : ℕ → ℕ) (list : List ℕ) → length (to_bytes (map read list)) ≡ length (to_bytes list)
read_length read list = bytes_length (map read list) ∙ ap (λ (n : ℕ). n * 5 / 8) (length-map list read) ∙ sym (bytes_length list)

pub characters_length : (characters : List ℕ) → length (to_bytes (map symbol characters)) ≡ length (to_bytes characters)
characters_length characters = read_length symbol characters
