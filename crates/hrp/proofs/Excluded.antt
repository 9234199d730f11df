-- Wrong answers that the promises rule out, each on a concrete input.
use mathlib.Core.Path.{◌≡◌, ap, sym}
use Rattle.numbers.proofs.Numbers.{err_apart}
use mathlib.Core.Bool.{true, false}
use mathlib.Core.List.{List, [], ◌∷◌}
use Prim.Native.Nat.{ℕ}
use native.Mathlib.Omega.{arith}
use lib.ListN.{get_or, replicate}
use Rattle.laws.specs.Text.{bytes}
use Rattle.numbers.specs.Numbers.{number_in}
use Rattle.answers.specs.Numbers.{count_in}
use Rattle.answers.specs.Rules.{offence, prefix_verdict}
use Rattle.answers.specs.Reading.{room_small, written_into}
use Rattle.hrp.specs.Compare.{same_case_aside, order_case_aside}
use Rattle.hrp.specs.Networks.{network_of, segwit_prefix}
use Rattle.hrp.specs.Numbers.{value_of_network, value_of_order}
use Rattle.hrp.specs.Promises.{Checked, Folded, Compared, Matched, NetworkFound, SegwitPrefixAsked}
use Rattle.hrp.specs.declared.Network.TheVariants.{Mainnet, Testnet}
use Rattle.std.specs.Prelude.{Some, None}
use Rattle.std.specs.declared.cmp.Ordering.TheVariants.{Less, Equal, Greater}
use Rattle.numbers.specs.declared.Refusal.TheVariants.{MixedCase, PrefixLong, PrefixByte, RoomSmall}
use Rattle.std.specs.Prelude.{Ok, Err}

-- ---- hrp::check

-- 83 bytes refused, 84 accepted
pub not_83_refused : Checked (replicate 83 97) (Err PrefixLong) → ⊥
unfolding prefix_verdict offence
not_83_refused p = err_apart tt PrefixLong p

pub not_84_accepted : Checked (replicate 84 97) (Ok tt) → ⊥
unfolding prefix_verdict offence
not_84_accepted p = err_apart tt PrefixLong (sym p)

-- a byte outside 33 to 126 refused as mixed case, two small letters taken for mixed case
pub not_a_byte_as_case : Checked (bytes "a b") (Err MixedCase) → ⊥
unfolding prefix_verdict offence
not_a_byte_as_case p = let e : ◌≡◌ {A = ℕ} 2 6 = ap number_in p in omega arith

pub not_one_case_mixed : Checked (bytes "ab") (Err MixedCase) → ⊥
unfolding prefix_verdict offence
not_one_case_mixed p = err_apart tt MixedCase p

-- another byte than the first that offends
pub not_a_later_byte : Checked (bytes "aB ") (Err PrefixByte) → ⊥
unfolding prefix_verdict offence
not_a_later_byte p = let e : ◌≡◌ {A = ℕ} 6 2 = ap number_in p in omega arith

pub not_a_later_letter : Checked (bytes " aB") (Err MixedCase) → ⊥
unfolding prefix_verdict offence
not_a_later_letter p = let e : ◌≡◌ {A = ℕ} 2 6 = ap number_in p in omega arith

-- ---- hrp::to_lower: 17 where the room is just enough, the room as what was written, capitals kept

pub not_just_enough_refused : Folded (bytes "BC") (9 ∷ 9 ∷ []) (Err RoomSmall) (9 ∷ 9 ∷ []) → ⊥
unfolding written_into room_small
not_just_enough_refused p = err_apart 2 RoomSmall p.answer

pub not_the_room_as_count : (after : List ℕ) → Folded (bytes "BC") (9 ∷ 9 ∷ 9 ∷ []) (Ok 3) after → ⊥
unfolding written_into room_small
not_the_room_as_count after p = let e : ◌≡◌ {A = ℕ} 3 2 = ap count_in p.answer in omega arith

pub not_capitals : Folded (bytes "BC") (9 ∷ 9 ∷ []) (Ok 2) (bytes "BC") → ⊥
unfolding written_into room_small
not_capitals p = let e : ◌≡◌ {A = ℕ} 66 98 = ap (λ (l : List ℕ). get_or l 0 0) p.buffer in omega arith

-- ---- hrp::compare: less and greater exchanged, equal bytes taken for greater, capitals before small letters, a longer one the same

pub not_turned : Compared (bytes "tb") (bytes "bc") Less → ⊥
unfolding order_case_aside
not_turned p = let e : ◌≡◌ {A = ℕ} 1 2 = ap value_of_order p in omega arith

pub not_equal_as_greater : Compared (bytes "bc") (bytes "bc") Greater → ⊥
unfolding order_case_aside
not_equal_as_greater p = let e : ◌≡◌ {A = ℕ} 2 0 = ap value_of_order p in omega arith

pub not_capitals_first : Compared (bytes "BC") (bytes "bc") Less → ⊥
unfolding order_case_aside
not_capitals_first p = let e : ◌≡◌ {A = ℕ} 1 0 = ap value_of_order p in omega arith

pub not_longer_equal : Compared (bytes "bc") (bytes "bcrt") Equal → ⊥
unfolding order_case_aside
not_longer_equal p = let e : ◌≡◌ {A = ℕ} 0 1 = ap value_of_order p in omega arith

-- ---- hrp::same: what comes earlier taken for the same, nothing the same as itself

pub not_less_as_same : Matched (bytes "bc") (bytes "tb") true → ⊥
unfolding same_case_aside
not_less_as_same p = let e : true ≡ false = p in let z : ◌≡◌ {A = ℕ} 0 1 = cc in omega arith

pub not_never_the_same : Matched (bytes "BC") (bytes "bc") false → ⊥
unfolding same_case_aside
not_never_the_same p = let e : false ≡ true = p in let z : ◌≡◌ {A = ℕ} 0 1 = cc in omega arith

-- ---- hrp::network_of: another text for the main network, bcrt taken for a test network, all unknown

pub not_bd : NetworkFound (bytes "bd") (Some Mainnet) → ⊥
unfolding network_of same_case_aside
not_bd p = let e : ◌≡◌ {A = ℕ} 1 0 = ap value_of_network p in omega arith

pub not_regtest_as_testnet : NetworkFound (bytes "bcrt") (Some Testnet) → ⊥
unfolding network_of same_case_aside
not_regtest_as_testnet p = let e : ◌≡◌ {A = ℕ} 2 3 = ap value_of_network p in omega arith

pub not_always_unknown : NetworkFound (bytes "TB") None → ⊥
unfolding network_of same_case_aside
not_always_unknown p = let e : ◌≡◌ {A = ℕ} 0 2 = ap value_of_network p in omega arith

-- ---- hrp::is_valid_segwit: bcrt taken for one of the two, tb not

pub not_regtest : SegwitPrefixAsked (bytes "bcrt") true → ⊥
unfolding segwit_prefix same_case_aside
not_regtest p = let e : true ≡ false = p in let z : ◌≡◌ {A = ℕ} 0 1 = cc in omega arith

pub not_without_testnet : SegwitPrefixAsked (bytes "tb") false → ⊥
unfolding segwit_prefix same_case_aside
not_without_testnet p = let e : false ≡ true = p in let z : ◌≡◌ {A = ℕ} 0 1 = cc in omega arith
