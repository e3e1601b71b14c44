use Rattle.std.proofs.Common.{ap, ◌∙◌, refl, arith}
use Rattle.llrp_schema.specs.declared.kinds.MsgKind.{MsgKind}
use Rattle.llrp_schema.specs.declared.kinds.Kind.TheVariants.{Message}
use Rattle.llrp_schema.specs.Schema.{fields_of, tail_of}
use Rattle.llrp_tree.proofs.SpelledLemmas.{message_fit}
use Rattle.llrp_explain.proofs.WalkLemmas.{whole_added}
use Rattle.llrp_explain.proofs.walk.push_message.Goals as goal

pub push_nodes-requires : goal.push_nodes-requires
push_nodes-requires c = record { deep = omega (arith, message_fit 0 c.args.message.now c.as_slice.result.now refl (c.as_slice.ensures ∙ c.children.ensures) c.lawful.ensures.children) }

pub returns : goal.returns
returns c =
    whole_added c.push_nodes.result c.args.message.now c.version.result c.length.result c.id.result c.kind-2.result _ c.fields-2.result.now c.tail-2.result.now c.tail.result c.as_slice.result.now c.args.lines.now c.push_header.new.lines c.push_fields.new.lines c.push_tail.new.lines c.push_nodes.new.lines
    c.version.ensures c.kind-2.ensures c.length.ensures c.id.ensures (c.fields.ensures ∙ ap (λ (k : MsgKind). fields_of (Message k)) c.kind.ensures) c.fields-2.ensures (c.tail.ensures ∙ ap (λ (k : MsgKind). tail_of (Message k)) c.kind.ensures) c.tail-2.ensures (c.as_slice.ensures ∙ c.children.ensures)
    c.in_ok-push_header.ensures c.in_ok-push_fields.ensures c.in_ok-push_tail.ensures c.push_nodes.ensures
