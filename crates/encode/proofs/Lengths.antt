-- How long a written string is: the prefix, the symbols, and seven more for the separator and the checksum. The checksum is six symbols.
use mathlib.Core.Path.{◌≡◌, refl, ap, ap₂, ◌∙◌}
use mathlib.Core.List.{List, ◌∷◌, ◌++◌, map}
use Prim.Native.Nat.{ℕ, suc, ◌+◌, ◌<◌}
use native.Mathlib.Omega.{arith}
use lib.ListN.{length, length-append, length-map}
use Rattle.laws.specs.Lists.{Every}
use Rattle.paper.specs.Charset.{lower, letter}
use Rattle.paper.specs.Checksum.{checksum}
use Rattle.paper.specs.Bits.{to_symbols}
use Rattle.answers.specs.Writing.{written_string, written_address}
use Rattle.checksum.proofs.Six.{six_small}

pub check_length : (constant : ℕ) (prefix symbols : List ℕ) → length (checksum constant prefix symbols) ≡ 6
unfolding checksum
check_length constant prefix symbols = refl

pub check_small : (constant : ℕ) (prefix symbols : List ℕ) → Every (λ v. v < 32) (checksum constant prefix symbols)
unfolding checksum
check_small constant prefix symbols = six_small _

pub written_length : (constant : ℕ) (prefix symbols : List ℕ) → length (written_string constant prefix symbols) ≡ length prefix + 7 + length symbols
unfolding written_string
written_length constant prefix symbols =
    length-append (map lower prefix) (49 ∷ map letter (symbols ++ checksum constant prefix symbols))
    ∙ ap₂ (λ (m n : ℕ). m + suc n) (length-map prefix lower)
    (length-map (symbols ++ checksum constant prefix symbols) letter
    ∙ length-append symbols (checksum constant prefix symbols)
    ∙ ap (λ (n : ℕ). length symbols + n) (check_length constant prefix symbols))
    ∙ omega arith

pub address_length : (prefix : List ℕ) (version : ℕ) (program : List ℕ)
    → length (written_address prefix version program) ≡ length prefix + 7 + (1 + length (to_symbols program))
unfolding written_address
address_length prefix version program = written_length _ prefix (version ∷ to_symbols program) ∙ omega arith
