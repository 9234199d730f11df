-- `convolution` meets its promise, exit by exit.
use mathlib.Core.Path.{sym, ap, ap₂, ◌∙◌}
use Prim.Native.Nat.{◌≤◌}
use native.Mathlib.Omega.{arith}
use lib.ListN.{length}
use Rattle.std.specs.Prelude.{Ok}
use Rattle.fieldvec.proofs.Laws.{shown_ok, exit, elements_short}
use Rattle.fieldvec.specs.Lists.{elements, listed}
use Rattle.polynomial.specs.Products.{convolved}
use Rattle.polynomial.specs.Answers.{about, convolution_of}
use Rattle.polynomial.proofs.About.{about_outside, about_whole}
use Rattle.polynomial.proofs.Coefficients.{convolved_none, convolved_made}
use Rattle.polynomial.proofs.convolution.Goals as goal

pub returns-in_err-a : goal.returns-in_err-a
unfolding convolution_of
returns-in_err-a c =
    let out = exit c.args.p.now _ c.from_residual.result c.from_residual.ensures.1 c.in_err-a.ensures in
    out.1 ∙ sym (about_outside c.args.p.now (λ a. about c.args.q.now (λ b. Ok (listed (convolved a b)))) out.0)

pub returns-in_err-b : goal.returns-in_err-b
unfolding convolution_of
returns-in_err-b c =
    let shown = shown_ok c.args.p.now _ c.in_ok-a.ensures in
    let r = c.from_residual-in_err-b in
    let out = exit c.args.q.now _ r.result r.ensures.1 c.in_err-b.ensures in
    out.1
    ∙ sym (about_whole c.args.p.now (λ a. about c.args.q.now (λ b. Ok (listed (convolved a b)))) shown.0
    ∙ about_outside c.args.q.now (λ b. let a = elements c.args.p.now in Ok (listed (convolved a b))) out.0)

pub coefficients_from-requires : goal.coefficients_from-requires
coefficients_from-requires c =
    let q = shown_ok c.args.q.now _ c.in_ok-b.ensures in
    let room : length c.in_ok-b.b.now ≤ 7 = rw q.1 (elements_short c.args.q.now q.0) in
    (omega (arith, room), omega (arith, room))

pub returns-then-b-d : goal.returns-then-b-d
unfolding convolution_of
returns-then-b-d c =
    let p = shown_ok c.args.p.now _ c.in_ok-a.ensures in
    let q = shown_ok c.args.q.now _ c.in_ok-b.ensures in
    ap Ok (sym (ap listed (convolved_none c.in_ok-a.a.now c.in_ok-b.b.now (rw c.degree_of-d.ensures at c.if-b-d.true))) ∙ ap₂ (λ a b. listed (convolved a b)) p.1 q.1)
    ∙ sym (about_whole c.args.p.now (λ a. about c.args.q.now (λ b. Ok (listed (convolved a b)))) p.0
    ∙ about_whole c.args.q.now (λ b. let a = elements c.args.p.now in Ok (listed (convolved a b))) q.0)

pub returns : goal.returns
unfolding convolution_of
returns c =
    let p = shown_ok c.args.p.now _ c.in_ok-a.ensures in
    let q = shown_ok c.args.q.now _ c.in_ok-b.ensures in
    let made = convolved_made c.in_ok-a.a.now c.in_ok-b.b.now c.coefficients_from.result c.degree_of-d.result c.degree_of-d.ensures c.if-b-d.false c.coefficients_from.ensures in
    ap Ok (made ∙ ap₂ (λ a b. listed (convolved a b)) p.1 q.1)
    ∙ sym (about_whole c.args.p.now (λ a. about c.args.q.now (λ b. Ok (listed (convolved a b)))) p.0
    ∙ about_whole c.args.q.now (λ b. let a = elements c.args.p.now in Ok (listed (convolved a b))) q.0)
