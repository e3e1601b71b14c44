use Rattle.std.proofs.Common.{List, ℕ, sym, ap, subst, ◌∙◌, arith}
use Rattle.std.specs.List.{join_with_byte}
use Rattle.tag_epc.specs.declared.epc.Parts.{Parts}
use Rattle.tag_epc.specs.LawfulWord.{IsLawfulEpc, kind_of_parts}
use Rattle.tag_uri.specs.TagText.{HasTagFault}
use Rattle.tag_uri.proofs.ComponentLemmas.{joined}
use Rattle.tag_schemes.specs.LawfulWord.{HasSerial}
use Rattle.tag_schemes.specs.declared.scheme.Scheme.TheVariants.{Sgcn}
use Rattle.tag_schemes.specs.Private.Coupons.{coupon_components, last_of}
use Rattle.tag_schemes.specs.Texts.{HasCouponFault}
use Rattle.tag_schemes.proofs.TextFacts.{coupon, four_short}
use Rattle.tag_schemes.proofs.read_text.read_coupon.Goals as goal

pub document_text-text-requires : goal.document_text-text-requires
document_text-text-requires c = omega (arith, four_short c.args.rest.now c.in-Some.filter.now c.in-Some.company.now c.in-Some.reference.now c.in-Some.serial.now c.in-Some.ensures.some, c.requires)

pub coupon_of-requires-clause-kind : goal.coupon_of-requires-clause-kind
coupon_of-requires-clause-kind c =
    let has = coupon c.in-Ok.epc c.as_str.result.now c.args.rest.now c.in-Some.filter.now c.in-Some.company.now c.in-Some.reference.now c.in-Some.serial.now (subst (λ (p : Parts). IsLawfulEpc p) c.parts.ensures.parts c.parts.ensures.lawful) c.in-Some.ensures.some (c.as_str.ensures.value ∙ c.document_text-text.ensures) c.in-Ok.ensures.ok in
    ap kind_of_parts c.parts.ensures.parts ∙ has.kind

pub coupon_of-requires-clause-serial : goal.coupon_of-requires-clause-serial
coupon_of-requires-clause-serial c =
    let has = coupon c.in-Ok.epc c.as_str.result.now c.args.rest.now c.in-Some.filter.now c.in-Some.company.now c.in-Some.reference.now c.in-Some.serial.now (subst (λ (p : Parts). IsLawfulEpc p) c.parts.ensures.parts c.parts.ensures.lawful) c.in-Some.ensures.some (c.as_str.ensures.value ∙ c.document_text-text.ensures) c.in-Ok.ensures.ok in
    subst (λ (p : Parts). HasSerial Sgcn (last_of p)) (sym c.parts.ensures.parts) has.serial

pub returns-in-Ok-clause-ok : goal.returns-in-Ok-clause-ok
returns-in-Ok-clause-ok c =
    let has = coupon c.in-Ok.epc c.as_str.result.now c.args.rest.now c.in-Some.filter.now c.in-Some.company.now c.in-Some.reference.now c.in-Some.serial.now (subst (λ (p : Parts). IsLawfulEpc p) c.parts.ensures.parts c.parts.ensures.lawful) c.in-Some.ensures.some (c.as_str.ensures.value ∙ c.document_text-text.ensures) c.in-Ok.ensures.ok in
    sym (joined c.args.rest.now) ∙ ap (join_with_byte 46) (c.in-Some.ensures.some ∙ has.texts ∙ ap coupon_components (sym c.parts.ensures.parts) ∙ sym c.coupon_of.ensures.components)

pub returns-in-Err-clause-err : goal.returns-in-Err-clause-err
returns-in-Err-clause-err c =
    subst (λ (cs : List (List ℕ)). HasCouponFault cs c.in-Err.fault) (sym c.in-Some.ensures.some) (subst (λ (t : List ℕ). HasTagFault t c.in-Err.fault) (c.as_str.ensures.value ∙ c.document_text-text.ensures) c.in-Err.ensures.err)
