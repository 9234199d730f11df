-- What is left to show of `search::walk` and `search::try_symbols`, which call each other: proofs/Turns.antt and proofs/Symbols.antt say what
-- each way out of their loops comes to.
use Rattle.std.proofs.Common.{◌≡◌, ℕ, ◌+◌, ◌-◌, refl, sym, subst, arith, None, Ok}
use Rattle.std.proofs.lemmas.Result.{err_from_is_err_and}
use Rattle.laws.specs.Xor.{◌⊕◌}
use Rattle.paper.specs.Checksum.{step}
use Rattle.search.specs.Walk.{Tried}
use Rattle.search.proofs.Residue.{step_zero_lt, live_symbol}
use Rattle.search.proofs.Turns.{passed_none, passed_more, ends_none, ends_spent, ends_last, ends_shown, ends_refused}
use Rattle.search.proofs.Symbols.{tried_none, tested_more, tests_shown, tests_refused}
use Rattle.search.proofs.+try_symbols_walk.Goals as goal

-- ---- the loop over the symbols

pub try_symbols-walk-requires : goal.try_symbols-walk-requires
unfolding ◌⊕◌
try_symbols-walk-requires t c =
    rw c.from.ensures
    (omega arith, (omega arith, omega arith, live_symbol c.args.residue c.loop-symbol.symbol c.requires.2 c.requires.3 c.loop-symbol-test.true))

pub try_symbols-returns-in_err-rest-clause-tried : goal.try_symbols-returns-in_err-rest-clause-tried
unfolding ◌⊕◌
try_symbols-returns-in_err-rest-clause-tried t c =
    let exit = err_from_is_err_and c.from_residual.result c.from_residual.ensures.1 in
    let walked = rw (c.from.ensures, c.loop-symbol.invariant.1) at c.in_err-rest.ensures.walked in
    rw (exit.1, exit.2) (tests_refused c.loop-symbol.invariant.0 c.loop-symbol-test.true _ _ walked)

pub try_symbols-returns-in-Some-clause-tried : goal.try_symbols-returns-in-Some-clause-tried
unfolding ◌⊕◌
try_symbols-returns-in-Some-clause-tried t c =
    let walked = rw (c.in-Some.is, c.from.ensures, c.loop-symbol.invariant.1) at c.in_ok-rest.ensures.walked in
    tests_shown c.loop-symbol.invariant.0 c.loop-symbol-test.true _ _ _ walked c.in_front.ensures

pub try_symbols-loop-symbol-preserved : goal.try_symbols-loop-symbol-preserved
unfolding ◌⊕◌
try_symbols-loop-symbol-preserved t c =
    let walked = rw (c.in_default.is, c.from.ensures, c.loop-symbol.invariant.1) at c.in_ok-rest.ensures.walked in
    (tested_more c.loop-symbol.invariant.0 c.loop-symbol-test.true _ walked, cc)

-- ---- the loop over the places

pub walk-places-init : goal.walk-places-init
walk-places-init t c = (passed_none c.args.changes c.args.start c.args.places c.args.steps.now.used c.requires.2, refl)

pub walk-returns-in_err-spend-clause-walked : goal.walk-returns-in_err-spend-clause-walked
walk-returns-in_err-spend-clause-walked t c =
    let exit = err_from_is_err_and c.from_residual.result c.from_residual.ensures.1 in
    let within = c.places.steps.within in
    let spent = c.in_err-spend.ensures.spent in
    rw (exit.1, exit.2, spent.0, spent.2)
    (ends_spent c.requires.0 c.places.invariant.0 (omega arith) (λ none. omega arith) (omega (arith, spent.1)))

pub walk-returns-then-residue-lt32-clause-walked : goal.walk-returns-then-residue-lt32-clause-walked
walk-returns-then-residue-lt32-clause-walked t c =
    let stepped = c.step_zero-residue.ensures in
    let within = c.places.steps.within in
    let spent = c.in_ok-spend.ensures.spent in
    rw spent.1
    (ends_last c.requires.0 c.places.invariant.0 (omega arith) (λ none. omega arith)
    c.single.result (omega (arith, spent.0)) (rw stepped at c.if-residue-lt32.true) (rw stepped at c.single.ensures))

pub walk-try_symbols-requires : goal.walk-try_symbols-requires
walk-try_symbols-requires t c =
    (omega arith, (omega arith, omega arith, c.if-residue-lt32.false, omega (arith, c.step_zero-residue.ensures, step_zero_lt c.places.residue)))

pub walk-returns-in_err-pattern-clause-walked : goal.walk-returns-in_err-pattern-clause-walked
walk-returns-in_err-pattern-clause-walked t c =
    let exit = err_from_is_err_and c.from_residual-in_err-pattern.result c.from_residual-in_err-pattern.ensures.1 in
    let stepped = c.step_zero-residue.ensures in
    let within = c.places.steps.within in
    let tried = rw (stepped, c.in_ok-spend.ensures.spent.1, c.spend.ensures.same_budget, c.places.invariant.1) at c.in_err-pattern.ensures.tried in
    rw (exit.1, exit.2)
    (ends_refused c.requires.0 c.places.invariant.0 (omega arith) (λ none. omega arith) _ _ (rw stepped at c.if-residue-lt32.false) tried)

pub walk-returns-in-Some-clause-walked : goal.walk-returns-in-Some-clause-walked
walk-returns-in-Some-clause-walked t c =
    let stepped = c.step_zero-residue.ensures in
    let within = c.places.steps.within in
    let tried = rw (c.in-Some.is, stepped, c.in_ok-spend.ensures.spent.1, c.spend.ensures.same_budget, c.places.invariant.1) at c.in_ok-pattern.ensures.tried in
    ends_shown c.requires.0 c.places.invariant.0 (omega arith) (λ none. omega arith) _ _ (rw stepped at c.if-residue-lt32.false) tried

pub walk-places-preserved-then-changes-eq1 : goal.walk-places-preserved-then-changes-eq1
walk-places-preserved-then-changes-eq1 t c =
    let stepped = c.step_zero-residue.ensures in
    let steps = c.places.steps in
    let spent = c.in_ok-spend.ensures.spent in
    let place = c.places.place - 1 in
    let last : c.args.changes - 1 ≡ 0 = omega arith in
    let tried = subst (λ (w : ℕ). Tried w (step c.places.residue 0) place (steps.used + 1) c.args.steps.now.budget (Ok None) (steps.used + 1)) (sym last)
    (tried_none (step c.places.residue 0) place (steps.used + 1) c.args.steps.now.budget
    (rw stepped at c.if-residue-lt32.false) (step_zero_lt c.places.residue) (omega (arith, spent.0))) in
    (rw (stepped, spent.1) (passed_more c.requires.0 c.places.invariant.0 (omega (arith, steps.within)) (λ none. omega arith) _ tried), cc)

pub walk-places-preserved : goal.walk-places-preserved
walk-places-preserved t c =
    let stepped = c.step_zero-residue.ensures in
    let within = c.places.steps.within in
    let tried = rw (c.in_default.is, stepped, c.in_ok-spend.ensures.spent.1, c.spend.ensures.same_budget, c.places.invariant.1) at c.in_ok-pattern.ensures.tried in
    (rw stepped (passed_more c.requires.0 c.places.invariant.0 (omega arith) (λ none. omega arith) _ tried), cc)

pub walk-returns-clause-walked : goal.walk-returns-clause-walked
walk-returns-clause-walked t c =
    let within = c.places.steps.within in
    ends_none c.requires.0 c.places.invariant.0 (omega arith) (omega (arith, c.places-test.false))
