-- `search::search_counted` meets its contract: what the walk comes to is what the search promises (proofs/Ran.antt).
use Rattle.std.proofs.Common.{◌≤◌, arith}
use Rattle.std.proofs.lemmas.Result.{err_from_is_err_and}
use Rattle.search.proofs.Ran.{ran_none, ran_refused, ran_shown, searched_small, searched_ran}
use Rattle.search.proofs.search_counted.Goals as goal

pub returns-then-scratch-lt-SCRATCH_WORDS : goal.returns-then-scratch-lt-SCRATCH_WORDS
returns-then-scratch-lt-SCRATCH_WORDS c = rw c.requires (searched_small _ _ _ (omega arith, omega arith) (omega arith))

pub returns-in_default : goal.returns-in_default
returns-in_default c =
    let some : 1 ≤ c.args.window = omega arith in
    let walked = rw (c.in_default.is, c.requires) at c.in_ok-rest.ensures.walked in
    searched_ran _ _ _ (some, omega arith) (omega arith) _ _ (ran_none _ _ some _ walked) (c.fill.ensures.after (λ y e. e))

pub returns-in_err-rest : goal.returns-in_err-rest
returns-in_err-rest c =
    let exit = err_from_is_err_and c.from_residual.result c.from_residual.ensures.1 in
    let some : 1 ≤ c.args.window = omega arith in
    let walked = rw c.requires at c.in_err-rest.ensures.walked in
    rw (exit.1, exit.2)
    (searched_ran _ _ _ (some, omega arith) (omega arith) _ _ (ran_refused _ _ some _ _ walked) (c.fill.ensures.after (λ y e. e)))

pub returns : goal.returns
returns c =
    let some : 1 ≤ c.args.window = omega arith in
    let walked = rw (c.in-Some.is, c.requires) at c.in_ok-rest.ensures.walked in
    searched_ran _ _ _ (some, omega arith) (omega arith) _ _ (ran_shown _ _ some _ _ _ walked c.in_front.ensures) (c.fill.ensures.after (λ y e. e))
