-- The locator on concrete strings: BIP-173's shortest valid string with one symbol changed; a residue whose three values have one ratio, but no
-- symbol explains it; one of which two values alone are those of a change; and wrong answers that the promise rules out.
use mathlib.Core.Path.{◌≡◌, refl, sym, ◌∙◌}
use Prim.Native.Nat.{ℕ, ◌<◌}
use native.Mathlib.Omega.{arith}
use Rattle.std.specs.Prelude.{Result, Ok, Err}
use Rattle.numbers.specs.declared.Refusal.{Refusal}
use Rattle.numbers.specs.declared.Refusal.TheVariants.{PrefixEmpty, NoSinglePlace}
use Rattle.laws.specs.Text.{bytes}
use Rattle.laws.specs.Xor.{◌⊕◌, columns}
use Rattle.laws.specs.Times.{times}
use Rattle.paper.specs.Checksum.{bech32, change_at}
use Rattle.gf32.specs.Field.{products, times_a, sum as sum32, product as product32}
use Rattle.gf32_ext.specs.Field.{sum, product, power, inverse, quotient}
use Rattle.detection.specs.Roots.{turn, value_of, value}
use Rattle.answers.proofs.Computing.{computing}
use Rattle.checksum.specs.declared.Checksum.TheVariants.{Bech32}
use Rattle.correction.specs.Locator.{explains, place_verdict, locate_verdict}
use Rattle.correction.specs.Promises.{WasLocated}
use Rattle.correction.specs.Values.{ValuesOf}
use Rattle.correction.proofs.Verdicts.{place_missing}
use Rattle.correction.proofs.OneChange.{small_change, one_ratio as third_fits}

-- the last symbol, and the fourth from the end
pub last_changed : locate_verdict bech32 (bytes "a12uel5q") ≡ Ok 0
unfolding computing locate_verdict place_verdict explains change_at
last_changed = refl

pub fourth_changed : locate_verdict bech32 (bytes "a12uql5l") ≡ Ok 3
unfolding computing locate_verdict place_verdict explains change_at
fourth_changed = refl

-- an accepted string, and one that is refused for something else
pub accepted_none : locate_verdict bech32 (bytes "a12uel5l") ≡ Err NoSinglePlace
unfolding computing locate_verdict place_verdict explains change_at
accepted_none = refl

pub other_number : locate_verdict bech32 (bytes "12uel5l") ≡ Err PrefixEmpty
unfolding computing locate_verdict place_verdict explains change_at
other_number = refl

-- ---- one ratio, and no symbol: the Rust panics here. The values 961, 794 and 984 have the ratio 837, and what is left of the first without its
-- 24th power is 988, which is no symbol.

seen : locate_verdict bech32 (bytes "a10f58vz") ≡ place_verdict 1 190243612
unfolding computing locate_verdict
seen = refl

values : ValuesOf 190243612 1 (record { at_24 = 961; at_25 = 794; at_26 = 984 })
unfolding value value_of turn times columns ◌⊕◌
values = record { at_24 = refl; at_25 = refl; at_26 = refl }

one_ratio : quotient 794 961 ≡ Ok 837
unfolding quotient inverse sum product sum32 product32 products times_a ◌⊕◌
one_ratio = refl

no_symbol : quotient 961 (power 837 24) ≡ Ok 988
unfolding quotient inverse power sum product sum32 product32 products times_a ◌⊕◌
no_symbol = refl

pub not_in_the_field : locate_verdict bech32 (bytes "a10f58vz") ≡ Err NoSinglePlace
not_in_the_field =
    seen ∙ place_missing 1 190243612 (λ p h x. let small : 988 < 32 = small_change values x (sym one_ratio) 988 (sym no_symbol) in omega arith)

-- ---- two values as after a change of the last symbol by 1, and a third that is not: 1, 1 and 2

seen_too : locate_verdict bech32 (bytes "a16tj9ex") ≡ place_verdict 1 561375672
unfolding computing locate_verdict
seen_too = refl

two_alike : ValuesOf 561375672 1 (record { at_24 = 1; at_25 = 1; at_26 = 2 })
unfolding value value_of turn times columns ◌⊕◌
two_alike = record { at_24 = refl; at_25 = refl; at_26 = refl }

ratio_of_two : (quotient 1 1 ≡ Ok 1) × (product 1 1 ≡ 1)
unfolding quotient inverse sum product sum32 product32 products times_a ◌⊕◌
ratio_of_two = (refl, refl)

pub not_explained : locate_verdict bech32 (bytes "a16tj9ex") ≡ Err NoSinglePlace
not_explained =
    seen_too ∙ place_missing 1 561375672
    (λ p h x. let wrong : ◌≡◌ {A = ℕ} 1 2 = sym ratio_of_two.1 ∙ third_fits two_alike x (sym ratio_of_two.0) in omega arith)

-- a locator that looks at two values alone
pub not_by_two_values : WasLocated Bech32 (bytes "a16tj9ex") (Ok 0) → ⊥
not_by_two_values p = cc (p, not_explained)

-- no answer is right for two places, so no constant one is
pub not_constant : (r : Result ℕ Refusal) → WasLocated Bech32 (bytes "a12uel5q") r → WasLocated Bech32 (bytes "a12uql5l") r → ⊥
not_constant r p q = cc (p, q, last_changed, fourth_changed)

pub not_always_last : WasLocated Bech32 (bytes "a12uql5l") (Ok 0) → ⊥
not_always_last p = cc (p, fourth_changed)

-- a place where any element of the field counts as a symbol
pub not_for_any_element : (place : ℕ) → WasLocated Bech32 (bytes "a10f58vz") (Ok place) → ⊥
not_for_any_element place p = cc (p, not_in_the_field)

-- 21 for a string that is refused for something else
pub not_21_for_others : WasLocated Bech32 (bytes "12uel5l") (Err NoSinglePlace) → ⊥
not_21_for_others p = cc (p, other_number)

-- a locator that never names a place
pub not_always_21 : WasLocated Bech32 (bytes "a12uel5q") (Err NoSinglePlace) → ⊥
not_always_21 p = cc (p, last_changed)
