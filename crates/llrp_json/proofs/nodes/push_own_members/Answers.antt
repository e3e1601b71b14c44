use Rattle.std.proofs.Common.{◌∙◌, List, ap, map, subst, sym}
use Rattle.std.proofs.lemmas.Result.{on_ok_weaker}
use Rattle.std.specs.List.{AllByRecursion}
use Rattle.llrp_schema.specs.Calls.Schema.{field_rule}
use Rattle.llrp_schema.specs.Schema.{FieldRule, fields_of, tail_of}
use Rattle.llrp_schema.specs.declared.kinds.Kind.TheVariants.{Parameter}
use Rattle.llrp_schema.specs.declared.kinds.ParamKind.{ParamKind}
use Rattle.llrp_json.specs.Private.Nodes.{IsPrintable}
use Rattle.llrp_json.proofs.NodeObjects.{kind_printable, own_added}
use Rattle.llrp_json.proofs.nodes.push_own_members.Goals as goal

pub push_fields-requires-clause-printable : goal.push_fields-requires-clause-printable
push_fields-requires-clause-printable c = subst (λ (x : List FieldRule). AllByRecursion IsPrintable x) (sym c.fields.ensures) (kind_printable (Parameter c.kind.result))

pub returns : goal.returns
returns c =
    on_ok_weaker c.push_whole_tail.result
    (λ e. own_added c.args.node.now c.kind-2.result (map field_rule c.fields.result.now) c.fields-2.result.now c.as_slice.result.now c.tail.result c.args.text.now _ _ _ c.kind-2.ensures (c.fields.ensures ∙ ap (λ (k : ParamKind). fields_of (Parameter k)) c.kind.ensures) c.fields-2.ensures
    (c.tail.ensures ∙ ap (λ (k : ParamKind). tail_of (Parameter k)) c.kind.ensures) (c.as_slice.ensures.value ∙ c.tail-2.ensures) c.in_ok-push_parameter.ensures c.in_ok-push_fields.ensures e)
    c.push_whole_tail.ensures
