use Rattle.std.proofs.Common.{Option, ap, refl, ◌∙◌}
use Rattle.std.specs.Prelude.{is_none}
use Rattle.llrp_schema.specs.declared.kinds.Kind.TheVariants.{Message}
use Rattle.llrp_tree.specs.declared.node.NodeFault.{NodeFault}
use Rattle.llrp_listing.proofs.Putting.{own_message, passed, puts_message, puts_nothing, small_version}
use Rattle.llrp_listing.proofs.encode.line_octets.put_any_message.Goals as goal

pub append_message-requires-clause-version : goal.append_message-requires-clause-version
append_message-requires-clause-version c = small_version c.args.kind c.args.version c.args.id c.args.values.now c.args.tail.now c.requires

pub append_message-requires-clause-values : goal.append_message-requires-clause-values
append_message-requires-clause-values c = (passed (Message c.args.kind) c.args.values.now c.args.tail.now c.own_fault-fault.result c.own_fault-fault.ensures c.in-None.is).0

pub returns-in_ok-append_message-in-None : goal.returns-in_ok-append_message-in-None
returns-in_ok-append_message-in-None c = λ number.
    let p = c.in_ok-append_message-in-None.ensures in
    puts_message c.args.kind c.args.version c.args.id c.args.values.now c.args.tail.now p.start c.args.room.now.items c.append_message.new.room.items number c.own_fault-fault.result c.message_octets-octets.result _ c.requires c.own_fault-fault.ensures c.message_octets-octets.ensures refl p.octets p.appended

pub returns-in-Some : goal.returns-in-Some
returns-in-Some c = λ number.
    puts_nothing _ c.args.room.now.items number c.own_fault-fault.result c.message_octets-octets.result _ c.requires (c.own_fault-fault.ensures ∙ own_message c.args.kind c.args.version c.args.id c.args.values.now c.args.tail.now c.requires) c.message_octets-octets.ensures refl (ap (λ (f : Option NodeFault). is_none f) c.in-Some.is)
