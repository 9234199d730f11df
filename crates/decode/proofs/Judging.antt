-- Segwit reading after 10 and 1 to 6 as the code does it: stage by stage, each handing on what it gives. It comes to the judgement by the rules.
use Rattle.std.specs.Prelude.{List, [], ◌∷◌, ◌++◌, map, ◌≡◌, ℕ, ◌-◌, ◌≤◌, eqb, length, Result, Ok, Err, ⊤}
use Rattle.std.proofs.Common.{refl, sym, ◌∙◌, arith}
use native.Mathlib.Decide.{ℕ_discrete}
use lib.Seq.{length-take-le}
use borrow.Author.Tests.{eqb-false, ltb-false, eq-eqb, ne_eqb}
use Rattle.paper.specs.Charset.{symbol}
use Rattle.paper.specs.Checksum.{constant_of}
use Rattle.paper.specs.Bits.{to_bytes}
use Rattle.numbers.specs.declared.Refusal.{Refusal}
use Rattle.numbers.specs.declared.Refusal.TheVariants.{NoData}
use Rattle.answers.specs.Order.{Rule, ◌gives◌, first_of}
use Rattle.answers.specs.Rules.{padding_verdict, length_verdict}
use Rattle.answers.specs.Reading.{as_address}
use Rattle.answers.specs.declared.Address.{Address}
use Rattle.answers.proofs.Orders.{accepted_only}
use Rattle.checksum.specs.Parameters.{constant_for, checksum_for}
use Rattle.checksum.proofs.Constants.{constant_of_version}
use Rattle.iter.proofs.Characters.{characters_length}
use Rattle.decode.specs.Asked.{padding_rules, length_rules, sum_rules, sum_verdict, version_in, version_rules, version_given, payload_in, program_in, judgement}
use Rattle.decode.proofs.Stages.{◌>>=◌, asked_next, staged, rest_decides}
use Rattle.decode.proofs.Asked.{sum_enough}

-- 11 again: none but the checksum
unfoldable pub payload_verdict : List ℕ → Result ⊤ Refusal
payload_verdict characters = first_of (eqb (length characters) 6 gives NoData ∷ []) tt

-- 11 and 12, 8 and 9, 11 again, 13 and 14, 15 and 16
unfoldable pub in_stages : List ℕ → List ℕ → Result Address Refusal
in_stages prefix characters = do
  version ← version_given characters
  _ ← sum_verdict (constant_for (checksum_for version)) prefix characters
  _ ← payload_verdict characters
  _ ← padding_verdict (map symbol (program_in characters))
  _ ← length_verdict version (length (to_bytes (program_in characters)))
  Ok (as_address version (length (to_bytes (program_in characters))))

module _ (prefix characters : List ℕ) where
  abbrev symbols : List ℕ
  symbols = map symbol (program_in characters)

  abbrev accepted : Address
  accepted = as_address (version_in characters) (length (to_bytes symbols))

  -- the rules from each stage on
  abbrev after_payload : List Rule
  after_payload = padding_rules symbols ++ length_rules (version_in characters) symbols

  abbrev after_sum : List Rule
  after_sum = eqb (length (payload_in characters)) 0 gives NoData ∷ after_payload

  abbrev after_version : List Rule
  after_version = sum_rules (constant_of (version_in characters)) prefix characters ++ after_sum

  -- the rules that are left decide
  abbrev pub Here : List Rule → Type 0
  Here rules = first_of rules accepted ≡ judgement prefix characters

  start : Here (version_rules characters ++ after_version)
  unfolding judgement
  start = refl

  length_is : length (to_bytes (program_in characters)) ≡ length (to_bytes symbols)
  length_is = sym (characters_length (program_in characters))

  payload_is : 6 ≤ length characters → length (payload_in characters) ≡ length characters - 6
  unfolding payload_in
  payload_is six = length-take-le (length characters - 6) characters (omega arith)

  -- the characters are the checksum alone
  nothing_else : 6 ≤ length characters → eqb (length characters) 6 ≡ eqb (length (payload_in characters)) 0
  nothing_else six = by_length (ℕ_discrete (length characters) 6)
    where
      by_length : Dec (length characters ≡ 6) → eqb (length characters) 6 ≡ eqb (length (payload_in characters)) 0
      by_length (yes e) = rw (eq-eqb (length characters) 6 e, eq-eqb (length (payload_in characters)) 0 (omega (arith, payload_is six))) refl
      by_length (no other) = rw (ne_eqb (length characters) 6 other, ne_eqb (length (payload_in characters)) 0 (λ e. other (omega (arith, payload_is six)))) refl

  -- ---- the stages, from the last

  in_lengths : (length_verdict (version_in characters) (length (to_bytes symbols)) >>= (λ _. Ok accepted))
      ≡ first_of (length_rules (version_in characters) symbols) accepted
  unfolding length_verdict
  in_lengths = staged tt accepted (length_rules (version_in characters) symbols) [] _ (λ none. refl)

  in_padding : (padding_verdict symbols >>= (λ _. length_verdict (version_in characters) (length (to_bytes symbols)) >>= (λ _. Ok accepted)))
      ≡ first_of after_payload accepted
  unfolding padding_verdict
  in_padding = staged tt accepted (padding_rules symbols) (length_rules (version_in characters) symbols) _ (λ none. in_lengths)

  pub judged : in_stages prefix characters ≡ judgement prefix characters
  unfolding in_stages version_given sum_verdict payload_verdict
  judged =
      (rw length_is
      (staged (version_in characters) accepted (version_rules characters) after_version _ (λ none.
      rw (constant_of_version (version_in characters))
      (staged tt accepted (sum_rules (constant_of (version_in characters)) prefix characters) after_sum _ (λ none.
      rw (nothing_else (ltb-false (length characters) 6 none.0))
      (staged tt accepted (eqb (length (payload_in characters)) 0 gives NoData ∷ []) after_payload _ (λ none. in_padding)))))))
      ∙ start

  pub by_stages : {r : Result Address Refusal} → r ≡ in_stages prefix characters → r ≡ judgement prefix characters
  by_stages e = e ∙ judged

  -- ---- what is left to decide once a stage has passed

  module _ (v : ℕ) (first : Ok v ≡ version_given characters) where
    after_version_lem : Here after_version
    unfolding version_given
    after_version_lem = rest_decides (version_rules characters) after_version accepted (accepted_only (version_in characters) v (version_rules characters) (sym first)).0 ∙ start

    module _ (checked : Ok tt ≡ sum_verdict (constant_of (version_in characters)) prefix characters) where
      after_sum_lem : Here after_sum
      unfolding sum_verdict
      after_sum_lem =
          rest_decides (sum_rules (constant_of (version_in characters)) prefix characters) after_sum accepted
          (accepted_only tt tt (sum_rules (constant_of (version_in characters)) prefix characters) (sym checked)).0
          ∙ after_version_lem

      enough : 6 ≤ length characters
      enough = sum_enough (constant_of (version_in characters)) prefix characters checked

      pub payload_missing_lem : length characters ≡ 6 → Err NoData ≡ judgement prefix characters
      payload_missing_lem e = let six : 6 ≤ length characters = enough in rw (eq-eqb (length (payload_in characters)) 0 (omega (arith, payload_is six))) at after_sum_lem

      after_payload_lem : (length characters ≡ 6 → ⊥) → Here after_payload
      after_payload_lem some =
          let six : 6 ≤ length characters = enough in
          rw (ne_eqb (length (payload_in characters)) 0 (λ e. some (omega (arith, payload_is six)))) at after_sum_lem

-- what an accepted judgement says of the characters
pub judged_enough : (prefix characters : List ℕ) (a : Address) → Ok a ≡ judgement prefix characters → 7 ≤ length characters
unfolding in_stages payload_verdict
judged_enough prefix characters a said =
    let e : Ok a ≡ in_stages prefix characters = said ∙ sym (judged prefix characters) in
    let first = asked_next (version_given characters) _ a e in
    let second = asked_next (sum_verdict (constant_for (checksum_for first.0)) prefix characters) _ a first.2 in
    let third = asked_next (payload_verdict characters) _ a second.2 in
    let six : 6 ≤ length characters = sum_enough _ prefix characters (sym second.1) in
    let more : length characters ≡ 6 → ⊥ = eqb-false (length characters) 6 (accepted_only tt tt (eqb (length characters) 6 gives NoData ∷ []) third.1).0.0 in
    omega arith
