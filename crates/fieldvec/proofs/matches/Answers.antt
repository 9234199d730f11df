-- Two lists are alike if they are as long and every pair of their elements is the same.
use mathlib.Core.Path.{sym, ◌∙◌}
use Prim.Native.Nat.{ℕ, ◌%◌}
use borrow.Author.Tests.{ne_eqb, tests}
use borrow.Author.Rules.{rules}
use lib.Dec.{eqb}
use Rattle.std.proofs.lemmas.Iterator.{YieldsList-from_slice, YieldsList-from_zip}
use Rattle.std.proofs.lemmas.Iterator.Search.{all_from_yields_List}
use Rattle.fieldvec.proofs.Laws.{alike_unlike, alike_pairs}
use Rattle.fieldvec.proofs.matches.Goals as goal

pub returns-then-s-t : goal.returns-then-s-t
returns-then-s-t c =
    all_from_yields_List (λ (p : ℕ × ℕ). eqb (p.0 % 1024) (p.1 % 1024)) c.all.new.self _ _ c.all.ensures.ran
    (YieldsList-from_zip (YieldsList-from_slice c.args.s.now cc) (YieldsList-from_slice c.args.t.now cc))
    (λ x b q k. search (rules, tests))
    ∙ sym (alike_pairs c.args.s.now c.args.t.now c.if-s-t.true)

pub returns-else-s-t : goal.returns-else-s-t
returns-else-s-t c = ne_eqb _ _ c.if-s-t.false ∙ sym (alike_unlike c.args.s.now c.args.t.now c.if-s-t.false)
