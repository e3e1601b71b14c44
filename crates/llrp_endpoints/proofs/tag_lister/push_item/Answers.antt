use Rattle.std.proofs.Common.{◌∙◌, ap}
use Rattle.std.proofs.lemmas.Result.{on_ok_weaker}
use Rattle.llrp_schema.specs.Schema.{number_of}
use Rattle.llrp_schema.specs.declared.kinds.Kind.TheVariants.{Message}
use Rattle.llrp_schema.specs.declared.kinds.MsgKind.{MsgKind}
use Rattle.llrp_endpoints.proofs.TagListing.{report_listed}
use Rattle.llrp_endpoints.proofs.tag_lister.push_item.Goals as goal

pub returns : goal.returns
returns c =
    on_ok_weaker c.push_report.result
    (λ w. report_listed c.args.form c.args.item c.in-Msg.message c.number.result c.number-report.result c.as_slice.result.now c.args.text.now _ c.in-Msg.is (c.number.ensures ∙ ap (λ (k : MsgKind). number_of (Message k)) c.kind.ensures) c.number-report.ensures c.if-number-report.false (c.as_slice.ensures ∙ c.children.ensures) w)
    c.push_report.ensures
