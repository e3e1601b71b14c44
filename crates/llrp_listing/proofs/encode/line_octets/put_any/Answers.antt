use Rattle.std.proofs.Common.{Option, ap, refl, ◌∙◌}
use Rattle.std.specs.Prelude.{is_none}
use Rattle.llrp_schema.specs.declared.kinds.Kind.TheVariants.{Parameter}
use Rattle.llrp_schema.specs.Schema.{tail_of}
use Rattle.llrp_tree.specs.declared.node.NodeFault.{NodeFault}
use Rattle.llrp_listing.proofs.Putting.{own_parameter, passed, puts_nothing, puts_parameter, text_fits, words_fit}
use Rattle.llrp_listing.proofs.encode.line_octets.put_any.Goals as goal

pub append_parameter-requires-clause-values : goal.append_parameter-requires-clause-values
append_parameter-requires-clause-values c = (passed (Parameter c.args.kind) c.args.values.now c.args.tail.now c.own_fault-fault.result c.own_fault-fault.ensures c.in-None.is).0

pub append_parameter-requires-clause-words : goal.append_parameter-requires-clause-words
append_parameter-requires-clause-words c = words_fit (tail_of (Parameter c.args.kind)) c.args.values.now c.args.tail.now (passed (Parameter c.args.kind) c.args.values.now c.args.tail.now c.own_fault-fault.result c.own_fault-fault.ensures c.in-None.is).1

pub append_parameter-requires-clause-text : goal.append_parameter-requires-clause-text
append_parameter-requires-clause-text c = text_fits (tail_of (Parameter c.args.kind)) c.args.values.now c.args.tail.now (passed (Parameter c.args.kind) c.args.values.now c.args.tail.now c.own_fault-fault.result c.own_fault-fault.ensures c.in-None.is).1

pub returns-in_ok-append_parameter-in-None : goal.returns-in_ok-append_parameter-in-None
returns-in_ok-append_parameter-in-None c = λ number.
    let p = c.in_ok-append_parameter-in-None.ensures in
    puts_parameter c.args.kind c.args.values.now c.args.tail.now p.start c.args.room.now.items c.append_parameter.new.room.items number c.own_fault-fault.result c.parameter_octets-octets.result _ c.requires c.own_fault-fault.ensures c.parameter_octets-octets.ensures refl p.octets p.appended

pub returns-in-Some : goal.returns-in-Some
returns-in-Some c = λ number.
    puts_nothing _ c.args.room.now.items number c.own_fault-fault.result c.parameter_octets-octets.result _ c.requires (c.own_fault-fault.ensures ∙ own_parameter c.args.kind c.args.values.now c.args.tail.now c.requires) c.parameter_octets-octets.ensures refl (ap (λ (f : Option NodeFault). is_none f) c.in-Some.is)
