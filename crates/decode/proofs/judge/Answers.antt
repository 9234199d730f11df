-- `judge` meets its contract, exit by exit: it goes by stages (proofs/Judging.antt).
use Rattle.std.proofs.Common.{arith, rules}
use Rattle.std.proofs.lemmas.Grind.{common_steps}
use Rattle.decode.proofs.Judging.{in_stages, payload_verdict, by_stages}
use Rattle.decode.proofs.judge.Goals as goal

pub returns-in_err-version : goal.returns-in_err-version
unfolding in_stages payload_verdict
returns-in_err-version c = by_stages _ _ (search rules)

pub returns-in_err-check : goal.returns-in_err-check
unfolding in_stages payload_verdict
returns-in_err-check c = by_stages _ _ (search rules)

pub returns-then-characters-eq-CHECKSUM_LENGTH : goal.returns-then-characters-eq-CHECKSUM_LENGTH
unfolding in_stages payload_verdict
returns-then-characters-eq-CHECKSUM_LENGTH c = by_stages _ _ (search rules)

pub returns-in_err-padding_of_characters : goal.returns-in_err-padding_of_characters
unfolding in_stages payload_verdict
returns-in_err-padding_of_characters c = by_stages _ _ (grind (arith, common_steps))

pub returns-in_err-check_program_length : goal.returns-in_err-check_program_length
unfolding in_stages payload_verdict
returns-in_err-check_program_length c = by_stages _ _ (grind (arith, common_steps))

pub returns : goal.returns
unfolding in_stages payload_verdict
returns c = by_stages _ _ (search rules)
