use Rattle.std.proofs.Common.{◌≡◌, ◌∙◌, Bool, List, ℕ, ◌<◌, ◌^◌, true, false, codes, subst, sym, rules}
use Rattle.tag_forms.specs.Forms.{begins}
use Rattle.tag_schemes.specs.AllTexts.{IsTextInAll, HasFaultInAll}
use Rattle.llrp_labels.specs.LabelledLines.{IsTextAmong}
use Rattle.llrp_labels.proofs.plain.uri_fault.Goals as goal

pub returns-then-not-starts_with : goal.returns-then-not-starts_with
returns-then-not-starts_with c = λ on uri.
    let found : begins c.args.last.now (codes "urn:epc:") ≡ true = uri.1 in
    let none : begins c.args.last.now (codes "urn:epc:") ≡ false = sym c.starts_with.ensures.value ∙ c.if-not-starts_with.true in
    cc

pub returns-in_default : goal.returns-in_default
returns-in_default c = λ on uri. c.in_default.ensures.cases.0 uri.0

pub returns-in-Ok-word_in_all : goal.returns-in-Ok-word_in_all
returns-in-Ok-word_in_all c = λ on uri.
    let word = c.in-Ok-word_in_all.field-0 in
    let below : word < 2 ^ 96 = search rules in
    let text : IsTextInAll word c.args.last.now = subst (λ (t : List ℕ). IsTextInAll word t) c.in-Ok.ensures.cases.0 c.in-Ok-word_in_all.ensures.ok in
    c.requires word below (subst (λ (b : Bool). IsTextAmong b word c.args.last.now) (sym on) text)

pub returns-in-Err : goal.returns-in-Err
returns-in-Err c = (
  c.if-not-schemes.false,
  (c.in-Ok.ensures.cases.1, sym c.starts_with.ensures.value ∙ c.if-not-starts_with.false),
  subst (λ (t : List ℕ). HasFaultInAll t c.in-Err.fault) c.in-Ok.ensures.cases.0 c.in-Err.ensures.err,
)
