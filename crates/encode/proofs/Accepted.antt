-- When a writer accepts, and what it then says it writes: the conditions of each order, by order and equality. Writing accepts exactly if the
-- prefix is legal, the content is, and the whole is within its limit and the room.
use mathlib.Core.Path.{◌≡◌, refl, sym, ◌∙◌}
use mathlib.Core.Logic.{◌↔◌}
use mathlib.Core.Bool.{Bool, true, false}
use mathlib.Core.List.{List}
use Prim.Native.Nat.{ℕ, ◌+◌, ◌≤◌, ◌<◌}
use borrow.Author.Tests.{ltb-false, le-ltb}
use lib.Dec.{ltb}
use lib.ListN.{length}
use Rattle.laws.specs.Pick.{pick}
use Rattle.laws.specs.Lists.{Every}
use Rattle.paper.specs.Bits.{to_symbols}
use Rattle.answers.specs.Rules.{prefix_verdict, version_verdict, length_verdict}
use Rattle.answers.specs.Writing.{symbol_large, write_verdict, write_bytes_verdict, write_address_verdict}
use Rattle.numbers.proofs.Numbers.{ok_injective, err_apart}
use Rattle.hrp.specs.Prefix.{Legal}
use Rattle.hrp.proofs.Prefix.{prefix_accepted}
use Rattle.segwit.specs.Lengths.{LegalLength}
use Rattle.segwit.proofs.Rules.{version_accepted, length_accepted}
use Rattle.encode.specs.Sizes.{size_verdict}
use Rattle.encode.proofs.Large.{all_small, none_large}
use Rattle.encode.proofs.Orders.{followed, symbols_order, address_order}
use Rattle.numbers.specs.declared.Refusal.{Refusal}
use Rattle.numbers.specs.declared.Refusal.TheVariants.{StringLong, AddressLong, RoomSmall, SymbolLarge}
use Rattle.std.specs.Prelude.{Result, Ok, Err, ⊤}

-- a string of these symbols is written: n bytes of it
pub record SymbolsFit (prefix symbols : List ℕ) (room n : ℕ) : Type 0 where
  pub legal : Legal prefix
  pub small : Every (λ v. v < 32) symbols
  pub not_long : length prefix + 7 + length symbols ≤ 1023
  pub enough : length prefix + 7 + length symbols ≤ room
  pub count : length prefix + 7 + length symbols ≡ n

-- an address is written: n bytes of it
pub record AddressFits (prefix : List ℕ) (version : ℕ) (program : List ℕ) (room n : ℕ) : Type 0 where
  pub legal : Legal prefix
  pub known : version ≤ 16
  pub size : LegalLength version (length program)
  pub not_long : length prefix + 7 + (1 + length (to_symbols program)) ≤ 90
  pub enough : length prefix + 7 + (1 + length (to_symbols program)) ≤ room
  pub count : length prefix + 7 + (1 + length (to_symbols program)) ≡ n

-- ---- what an accepted order says of its parts

after_accepted : (v : Result ⊤ Refusal) (w : Result ℕ Refusal) (n : ℕ) → followed v w ≡ Ok n → (v ≡ Ok tt) × (w ≡ Ok n)
after_accepted (Ok x) w n e = (refl, e)
after_accepted (Err m) w n e = absurd (err_apart n m e)

test_accepted : (t : Bool) (m : Refusal) (w : Result ℕ Refusal) (n : ℕ) → pick t (Err m) w ≡ Ok n → (t ≡ false) × (w ≡ Ok n)
test_accepted true m w n e = absurd (err_apart n m e)
test_accepted false m w n e = (refl, e)

size_accepted : (limit : ℕ) (too_long : Refusal) (room m n : ℕ) → size_verdict limit too_long room m ≡ Ok n → (m ≤ limit) × (m ≤ room) × (m ≡ n)
unfolding size_verdict
size_accepted limit too_long room m n e =
    let first = test_accepted (ltb limit m) too_long _ n e in
    let second = test_accepted (ltb room m) RoomSmall _ n first.1 in
    (ltb-false limit m first.0, ltb-false room m second.0, ok_injective m n second.1)

accepted_size : (limit : ℕ) (too_long : Refusal) (room m n : ℕ) → m ≤ limit → m ≤ room → m ≡ n → size_verdict limit too_long room m ≡ Ok n
unfolding size_verdict
accepted_size limit too_long room m n h k e = rw (le-ltb limit m h, le-ltb room m k, e)

-- ---- symbols

module _ (constant : ℕ) (prefix symbols : List ℕ) (room n : ℕ) where
  written_fits : write_verdict constant prefix symbols room ≡ Ok n → SymbolsFit prefix symbols room n
  written_fits e =
      let first = after_accepted (prefix_verdict prefix) _ n (sym (symbols_order constant prefix symbols room) ∙ e) in
      let second = test_accepted (symbol_large symbols) SymbolLarge _ n first.1 in
      let third = size_accepted 1023 StringLong room (length prefix + 7 + length symbols) n second.1 in
      record {
        legal = (prefix_accepted prefix).0 first.0;
        small = all_small symbols second.0;
        not_long = third.0;
        enough = third.1;
        count = third.2;
      }

  fit_written : SymbolsFit prefix symbols room n → write_verdict constant prefix symbols room ≡ Ok n
  fit_written f =
      symbols_order constant prefix symbols room
      ∙ rw ((prefix_accepted prefix).1 f.legal, none_large symbols f.small)
      (accepted_size 1023 StringLong room (length prefix + 7 + length symbols) n f.not_long f.enough f.count)

  -- generic writing of symbols
  pub symbols_accepted : (write_verdict constant prefix symbols room ≡ Ok n) ↔ SymbolsFit prefix symbols room n
  symbols_accepted = (written_fits, fit_written)

-- generic writing of bytes
pub bytes_accepted : (constant : ℕ) (prefix bytes : List ℕ) (room n : ℕ)
    → (write_bytes_verdict constant prefix bytes room ≡ Ok n) ↔ SymbolsFit prefix (to_symbols bytes) room n
unfolding write_bytes_verdict
bytes_accepted constant prefix bytes room n = symbols_accepted constant prefix (to_symbols bytes) room n

-- ---- addresses

module _ (prefix : List ℕ) (version : ℕ) (program : List ℕ) (room n : ℕ) where
  address_fits : write_address_verdict prefix version program room ≡ Ok n → AddressFits prefix version program room n
  address_fits e =
      let first = after_accepted (prefix_verdict prefix) _ n (sym (address_order prefix version program room) ∙ e) in
      let second = after_accepted (version_verdict version) _ n first.1 in
      let third = after_accepted (length_verdict version (length program)) _ n second.1 in
      let fourth = size_accepted 90 AddressLong room (length prefix + 7 + (1 + length (to_symbols program))) n third.1 in
      record {
        legal = (prefix_accepted prefix).0 first.0;
        known = (version_accepted version).0 second.0;
        size = (length_accepted version (length program)).0 third.0;
        not_long = fourth.0;
        enough = fourth.1;
        count = fourth.2;
      }

  fits_address : AddressFits prefix version program room n → write_address_verdict prefix version program room ≡ Ok n
  fits_address f =
      address_order prefix version program room
      ∙ rw ((prefix_accepted prefix).1 f.legal, (version_accepted version).1 f.known, (length_accepted version (length program)).1 f.size)
      (accepted_size 90 AddressLong room (length prefix + 7 + (1 + length (to_symbols program))) n f.not_long f.enough f.count)

  -- segwit writing
  pub address_accepted : (write_address_verdict prefix version program room ≡ Ok n) ↔ AddressFits prefix version program room n
  address_accepted = (address_fits, fits_address)
