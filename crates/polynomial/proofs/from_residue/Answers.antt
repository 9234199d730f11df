-- `from_residue` meets its promise: six symbols, the lowest first, and a zero.
use mathlib.Core.Path.{◌≡◌, refl, ap, ◌∙◌}
use mathlib.Core.List.{reverse}
use Prim.Native.Nat.{ℕ, zero, suc, ◌*◌, ◌/◌, ◌%◌, ◌^◌, ◌<◌}
use native.Mathlib.Omega.{arith}
use borrow.Author.Rules.{rules}
use borrow.Author.Tests.{tests}
use lib.Dec.{ltb}
use lib.ListN.{get_or}
use Rattle.laws.specs.Pick.{pick}
use Rattle.paper.specs.Checksum.{six_symbols}
use Rattle.fieldvec.proofs.Build.{listed_filled}
use Rattle.polynomial.specs.Polynomials.{residue_polynomial}
use Rattle.fieldvec.proofs.Made.{from_fn_at}
use Rattle.polynomial.proofs.from_residue.Goals as goal

symbol_at : (r k : ℕ) → k < 7 → pick (ltb k 6) (r / 2 ^ (5 * k) % 32) 0 ≡ get_or (reverse (six_symbols r)) k 0
symbol_at r zero h = let same : r / 1 ≡ r = omega arith in ap (λ (n : ℕ). n % 32) same
symbol_at r (suc zero) h = refl
symbol_at r (suc (suc zero)) h = refl
symbol_at r (suc (suc (suc zero))) h = refl
symbol_at r (suc (suc (suc (suc zero)))) h = refl
symbol_at r (suc (suc (suc (suc (suc zero))))) h = refl
symbol_at r (suc (suc (suc (suc (suc (suc zero)))))) h = refl
symbol_at r (suc (suc (suc (suc (suc (suc (suc k))))))) h = absurd (omega arith)

pub returns : goal.returns
unfolding residue_polynomial
returns c =
    let at = from_fn_at _ (λ i. pick (ltb i 6) (c.args.residue / 2 ^ (5 * i) % 32) 0) _ (λ i r q e. search (rules, tests)) c.from_fn-items.result 7 c.from_fn-items.ensures.items in
    listed_filled c.from_fn-items.result (reverse (six_symbols c.args.residue)) c.from_fn-items.ensures.items.long (omega arith) (λ k h. at k h ∙ symbol_at c.args.residue k h)
