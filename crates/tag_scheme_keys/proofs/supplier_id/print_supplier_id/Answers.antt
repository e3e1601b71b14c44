use Rattle.std.proofs.Common.{◌≤◌, ◌+◌, ◌++◌, ◌∙◌, length, ap, arith, rules}
use Rattle.std.specs.Prelude.{codes}
use Rattle.tag_uri.specs.TagText.{tag_start}
use Rattle.tag_uri.proofs.TextLaws.{begins}
use Rattle.tag_scheme_keys.proofs.SupplierIds.{rest_is, short, supplier_id_made, supplier_tag_is, tag_rest, two_or_more}
use Rattle.tag_scheme_keys.proofs.supplier_id.print_supplier_id.Goals as goal

pub unreachable-requires : goal.unreachable-requires
unreachable-requires c = c.in_default.ensures.cases _ (c.as_str.ensures.value ∙ c.print_supplier-tag.ensures ∙ supplier_tag_is c.args.epc)

pub first_of-requires : goal.first_of-requires
first_of-requires c =
    let is = begins (tag_start ++ codes "usdod-96:") c.as_str.result.now c.in-Some.components.now c.in-Some.ensures.cases in
    two_or_more c.args.epc c.in-Some.components.now c.requires (tag_rest c.args.epc c.as_str.result.now c.in-Some.components.now (c.as_str.ensures.value ∙ c.print_supplier-tag.ensures) is)

pub push_str-requires-2 : goal.push_str-requires-2
push_str-requires-2 c =
    let is = begins (tag_start ++ codes "usdod-96:") c.as_str.result.now c.in-Some.components.now c.in-Some.ensures.cases in
    let numbers = tag_rest c.args.epc c.as_str.result.now c.in-Some.components.now (c.as_str.ensures.value ∙ c.print_supplier-tag.ensures) is in
    let long = ap length (rest_is c.args.epc c.in-Some.components.now c.first_of.result.0.now c.first_of.result.1.now c.requires numbers c.first_of.ensures) in
    let fits : length c.push_str.new.self.bytes + length c.first_of.result.1.now ≤ 72 = omega (arith, long, short c.args.epc c.requires, c.push_str.ensures.len, ap length c.new-text.ensures) in
    search (rules, fits)

pub returns : goal.returns
returns c =
    let is = begins (tag_start ++ codes "usdod-96:") c.as_str.result.now c.in-Some.components.now c.in-Some.ensures.cases in
    let numbers = tag_rest c.args.epc c.as_str.result.now c.in-Some.components.now (c.as_str.ensures.value ∙ c.print_supplier-tag.ensures) is in
    supplier_id_made c.args.epc _ _ _ c.first_of.result.1.now c.new-text.ensures c.push_str.ensures.bytes c.push_str-2.ensures.bytes (rest_is c.args.epc c.in-Some.components.now c.first_of.result.0.now c.first_of.result.1.now c.requires numbers c.first_of.ensures)
