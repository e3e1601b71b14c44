use Rattle.std.proofs.Common.{◌++◌, List, ℕ, sym, ◌∙◌, subst}
use Rattle.tag_uri.specs.TagText.{HasTagFault}
use Rattle.tag_keys.specs.Private.Pieces.{one_text}
use Rattle.tag_keys.proofs.KeyLaws.{read_epc}
use Rattle.tag_keys.proofs.read_key_text.read_key.Goals as goal

pub returns-in-Ok-parts_of_tag-clause-ok : goal.returns-in-Ok-parts_of_tag-clause-ok
returns-in-Ok-parts_of_tag-clause-ok c =
    (read_epc c.args.spelling c.args.filter c.args.company_digits c.in-Ok-parts_of_tag.parts c.args.text.now c.in-Ok.key.kind c.in-Ok.key.company.now (c.in-Ok.key.lead.now ++ c.in-Ok.key.rest.now) (one_text c.in-Ok.key.serial)
    c.in-Ok-parts_of_tag.ensures.lawful c.requires.filter c.in-Ok.ensures.ok (sym c.tag_of_key-tag.ensures ∙ sym c.as_str.ensures.value ∙ c.in-Ok-parts_of_tag.ensures.ok)).text_is

pub returns-in-Ok-parts_of_tag-clause-asked : goal.returns-in-Ok-parts_of_tag-clause-asked
returns-in-Ok-parts_of_tag-clause-asked c =
    let a = read_epc c.args.spelling c.args.filter c.args.company_digits c.in-Ok-parts_of_tag.parts c.args.text.now c.in-Ok.key.kind c.in-Ok.key.company.now (c.in-Ok.key.lead.now ++ c.in-Ok.key.rest.now) (one_text c.in-Ok.key.serial)
    c.in-Ok-parts_of_tag.ensures.lawful c.requires.filter c.in-Ok.ensures.ok (sym c.tag_of_key-tag.ensures ∙ sym c.as_str.ensures.value ∙ c.in-Ok-parts_of_tag.ensures.ok) in
    (a.filter_is, a.digits_are)

pub returns-in-Err-parts_of_tag-clause-err : goal.returns-in-Err-parts_of_tag-clause-err
returns-in-Err-parts_of_tag-clause-err c = (
  c.in-Ok.ensures.short,
  record {
    kind = c.in-Ok.key.kind;
    company = c.in-Ok.key.company.now;
    reference = c.in-Ok.key.lead.now ++ c.in-Ok.key.rest.now;
    serials = one_text c.in-Ok.key.serial;
    reads = c.in-Ok.ensures.ok;
    refused = subst (λ (t : List ℕ). HasTagFault t c.in-Err-parts_of_tag.fault) (c.as_str.ensures.value ∙ c.tag_of_key-tag.ensures) c.in-Err-parts_of_tag.ensures.err;
  },
)
