use Rattle.std.proofs.Common.{sym, ap, ◌∙◌}
use Rattle.std.specs.Prelude.{not}
use Rattle.json.specs.Value.{members_view, value_view}
use Rattle.llrp_json_read.proofs.KindNames.{object_there, message_named, message_unnamed}
use Rattle.llrp_json_read.proofs.nodes.message_kind.Goals as goal

pub returns-in-Some : goal.returns-in-Some
returns-in-Some c =
    let there = object_there (λ members. members_view members.now) c.members_of.result (value_view c.args.object.now) c.members_of.ensures (c.is_none.ensures ∙ ap not c.if-is_none.false) in
    message_named c.args.set c.in-Some.kind (value_view c.args.object.now) c.as_bytes.result.now c.in_ok-name.name.now there c.in_ok-name.ensures c.as_bytes.ensures.value (sym c.in-Some.ensures)

pub returns-in-None : goal.returns-in-None
returns-in-None c =
    let there = object_there (λ members. members_view members.now) c.members_of.result (value_view c.args.object.now) c.members_of.ensures (c.is_none.ensures ∙ ap not c.if-is_none.false) in
    message_unnamed c.args.set (value_view c.args.object.now) c.as_bytes.result.now c.in_ok-name.name.now _ there c.in_ok-name.ensures c.as_bytes.ensures.value (sym c.in-None.ensures) c.at_member.ensures
