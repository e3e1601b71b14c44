use Rattle.std.proofs.Common.{arith, ◌≡◌, ◌+◌, ℕ, get_or, true, subst, sym, ◌∙◌}
use Rattle.tag_schemes.specs.Suppliers.{may_stand}
use Rattle.tag_schemes.proofs.SupplierFacts.{stands_more}
use Rattle.tag_schemes.proofs.supplier.first_wrong.Goals as goal

pub loop-place-preserved : goal.loop-place-preserved
loop-place-preserved c =
    let same : c.loop-place.place ≡ 0 + c.loop-place.place = omega arith in
    let stands = sym c.may_stand.ensures ∙ c.if-not-may_stand.false in
    stands_more 0 c.loop-place.place c.args.code.now (omega (arith, c.loop-place-test.true, c.told-code)) c.loop-place.invariant
    (subst (λ (k : ℕ). may_stand k (get_or c.args.code.now c.loop-place.place 0) ≡ true) same stands)
