-- decode::read_symbols: for each refusal when exactly it comes, as `answers` says it of the other readers, and the verdict computed on strings of document 01
-- and of the papers.
use mathlib.Core.Path.{◌≡◌, refl}
use mathlib.Core.Logic.{◌↔◌}
use mathlib.Core.List.{List, [], ◌∷◌, ◌++◌}
use Prim.Native.Nat.{ℕ}
use lib.Dec.{T}
use lib.ListN.{length}
use Rattle.std.specs.Prelude.{Ok, Err}
use Rattle.laws.specs.Text.{bytes}
use Rattle.numbers.specs.declared.Refusal.{Refusal}
use Rattle.numbers.specs.declared.Refusal.TheVariants.{OutsideCharset, MixedCase, NoSeparator, PrefixEmpty, PrefixLong, PrefixByte, StringLong, DataShort, ChecksumWrong, RoomSmall}
use Rattle.paper.specs.Checksum.{bech32, bech32m}
use Rattle.answers.specs.Order.{refusals_of, FirstGives}
use Rattle.answers.specs.Reading.{payload_symbols, reading_rules}
use Rattle.answers.proofs.Computing.{computing}
use Rattle.answers.proofs.Orders.{given_nowhere, given_once, nowhere, exactly_gives}
use Rattle.decode.specs.Symbols.{reading_symbols_rules, read_symbols_verdict}

module _ (constant : ℕ) (s : List ℕ) (room : ℕ) where
  -- document 01's order
  pub reading_symbols_order : refusals_of (reading_symbols_rules constant s room) ≡ refusals_of (reading_rules constant s) ++ RoomSmall ∷ []
  reading_symbols_order = refl

  reading_symbols_refused : (n : Refusal) → T (given_once n (reading_symbols_rules constant s room))
      → (read_symbols_verdict constant s room ≡ Err n) ↔ FirstGives n (reading_symbols_rules constant s room)
  unfolding read_symbols_verdict
  reading_symbols_refused n t =
      exactly_gives (length (payload_symbols s)) n (reading_symbols_rules constant s room) t

  pub reading_symbols_1 : (read_symbols_verdict constant s room ≡ Err OutsideCharset) ↔ FirstGives OutsideCharset (reading_symbols_rules constant s room)
  reading_symbols_1 = reading_symbols_refused OutsideCharset tt

  pub reading_symbols_2 : (read_symbols_verdict constant s room ≡ Err MixedCase) ↔ FirstGives MixedCase (reading_symbols_rules constant s room)
  reading_symbols_2 = reading_symbols_refused MixedCase tt

  pub reading_symbols_3 : (read_symbols_verdict constant s room ≡ Err NoSeparator) ↔ FirstGives NoSeparator (reading_symbols_rules constant s room)
  reading_symbols_3 = reading_symbols_refused NoSeparator tt

  pub reading_symbols_4 : (read_symbols_verdict constant s room ≡ Err PrefixEmpty) ↔ FirstGives PrefixEmpty (reading_symbols_rules constant s room)
  reading_symbols_4 = reading_symbols_refused PrefixEmpty tt

  pub reading_symbols_5 : (read_symbols_verdict constant s room ≡ Err PrefixLong) ↔ FirstGives PrefixLong (reading_symbols_rules constant s room)
  reading_symbols_5 = reading_symbols_refused PrefixLong tt

  pub reading_symbols_6 : (read_symbols_verdict constant s room ≡ Err PrefixByte) ↔ FirstGives PrefixByte (reading_symbols_rules constant s room)
  reading_symbols_6 = reading_symbols_refused PrefixByte tt

  pub reading_symbols_7 : (read_symbols_verdict constant s room ≡ Err StringLong) ↔ FirstGives StringLong (reading_symbols_rules constant s room)
  reading_symbols_7 = reading_symbols_refused StringLong tt

  pub reading_symbols_8 : (read_symbols_verdict constant s room ≡ Err DataShort) ↔ FirstGives DataShort (reading_symbols_rules constant s room)
  reading_symbols_8 = reading_symbols_refused DataShort tt

  pub reading_symbols_9 : (read_symbols_verdict constant s room ≡ Err ChecksumWrong) ↔ FirstGives ChecksumWrong (reading_symbols_rules constant s room)
  reading_symbols_9 = reading_symbols_refused ChecksumWrong tt

  pub reading_symbols_17 : (read_symbols_verdict constant s room ≡ Err RoomSmall) ↔ FirstGives RoomSmall (reading_symbols_rules constant s room)
  reading_symbols_17 = reading_symbols_refused RoomSmall tt

  -- and no other refusal comes
  pub reading_symbols_never : (n : Refusal) → T (given_nowhere n (reading_symbols_rules constant s room)) → read_symbols_verdict constant s room ≡ Err n → ⊥
  unfolding read_symbols_verdict
  reading_symbols_never n t e =
      nowhere (length (payload_symbols s)) n (reading_symbols_rules constant s room) t e

-- ---- cases

-- room for the 33 symbols, and for 32
pub room_33 : read_symbols_verdict bech32 (bytes "bc1qar0srrr7xfkvy5l643lydnw9re59gtzzwf5mdq") 33 ≡ Ok 33
unfolding computing read_symbols_verdict
room_33 = refl

pub room_32 : read_symbols_verdict bech32 (bytes "bc1qar0srrr7xfkvy5l643lydnw9re59gtzzwf5mdq") 32 ≡ Err RoomSmall
unfolding computing read_symbols_verdict
room_32 = refl

-- 9 before 17
pub damaged : read_symbols_verdict bech32 (bytes "bc1qar0srrr7xfkvy5l643lydnw9re59gtzzffffff") 0 ≡ Err ChecksumWrong
unfolding computing read_symbols_verdict
damaged = refl

pub other_checksum : read_symbols_verdict bech32m (bytes "abcd14g08d6qejxtdg4y5r3zarvary0c5xw7kxugcx9") 32 ≡ Err ChecksumWrong
unfolding computing read_symbols_verdict
other_checksum = refl

-- no symbols but the checksum's need no room
pub none_held : read_symbols_verdict bech32m (bytes "a1lqfn3a") 0 ≡ Ok 0
unfolding computing read_symbols_verdict
none_held = refl

-- BIP-350: a string that holds every symbol, from 31 down to 0
pub all_held : payload_symbols (bytes "abcdef1l7aum6echk45nj3s0wdvt2fg8x9yrzpqzd3ryx")
    ≡ 31 ∷ 30 ∷ 29 ∷ 28 ∷ 27 ∷ 26 ∷ 25 ∷ 24 ∷ 23 ∷ 22 ∷ 21 ∷ 20 ∷ 19 ∷ 18 ∷ 17 ∷ 16 ∷ 15 ∷ 14 ∷ 13 ∷ 12 ∷ 11 ∷ 10 ∷ 9 ∷ 8 ∷ 7 ∷ 6 ∷ 5 ∷ 4 ∷ 3 ∷ 2 ∷ 1 ∷ 0 ∷ []
unfolding computing
all_held = refl

pub all_read : read_symbols_verdict bech32m (bytes "abcdef1l7aum6echk45nj3s0wdvt2fg8x9yrzpqzd3ryx") 32 ≡ Ok 32
unfolding computing read_symbols_verdict
all_read = refl
