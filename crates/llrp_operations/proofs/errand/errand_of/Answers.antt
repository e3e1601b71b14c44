use Rattle.std.proofs.Common.{◌≡◌, ℕ, List, Option, length, refl, sym, subst, rules}
use Rattle.std.specs.Prelude.{Vec}
use Rattle.std.specs.declared.alloc.Global.{Global}
use Rattle.std.proofs.lemmas.Result.{IfOk-weaker}
use Rattle.llrp_operations.specs.declared.errand.OwnErrand.{OwnErrand}
use Rattle.llrp_operations.specs.Calls.Errands.{AreAsked, IsErrand, antenna_of}
use Rattle.llrp_operations.specs.Private.Texts.{SaysGiven, SaysTag}
use Rattle.llrp_operations.proofs.ErrandLemmas.{errand_is}
use Rattle.llrp_operations.proofs.errand.errand_of.Goals as goal

pub returns-clause-errand : goal.returns-clause-errand
returns-clause-errand c =
    let w = c.args.words in
    let os = c.in_ok-operations.operations.items in
    let tag = subst (λ (o : Option (Vec ℕ Global)). SaysTag w.tag.now o) c.in-Some.is c.in_ok-epc.ensures in
    let given = subst (λ (o : Option (Vec ℕ Global)). SaysGiven w.epc o) c.in-Some-2.is c.in_ok-given.ensures in
    let with_given = subst (λ (g : List ℕ). AreAsked w c.as_slice.result.now g os) c.as_slice-2.ensures.value c.in_ok-operations.ensures.asked in
    let asked = subst (λ (e : List ℕ). AreAsked w e c.in-Some-2.given.items os) c.as_slice.ensures.value with_given in
    let antenna : c.unwrap_or.result ≡ antenna_of w.antenna = search rules in
    let count : c.len-asked.result ≡ length os = search rules in
    IfOk-weaker c.check.result _ _ (λ own is. subst (λ (o : OwnErrand). IsErrand w o) (sym is) (errand_is w _ os tag given antenna asked count c.in_ok-sent.ensures refl refl)) c.check.ensures.same
