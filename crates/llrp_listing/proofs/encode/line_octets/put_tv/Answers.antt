use Rattle.std.proofs.Common.{[], ◌∷◌, Option, ap, refl, sym, ◌∙◌}
use Rattle.std.specs.Prelude.{is_none}
use Rattle.std.proofs.lemmas.List.{append-nil}
use Rattle.llrp_tree.specs.declared.node.NodeFault.{NodeFault}
use Rattle.llrp_listing.proofs.Putting.{own_parameter, puts_nothing, puts_parameter}
use Rattle.llrp_listing.proofs.TvLines.{few_octets, one_test, only_field, value_below}
use Rattle.llrp_listing.proofs.encode.line_octets.put_tv.Goals as goal

pub tv_front-front-requires-clause-rule : goal.tv_front-front-requires-clause-rule
tv_front-front-requires-clause-rule c = only_field c.args.kind c.fields.result.now _ c.requires.tv c.fields.ensures c.in-len1.len_at_least c.in-len1.len_below

pub tv_front-front-requires-clause-value : goal.tv_front-front-requires-clause-value
tv_front-front-requires-clause-value c =
    let o = only_field c.args.kind c.fields.result.now _ c.requires.tv c.fields.ensures c.in-len1.len_at_least c.in-len1.len_below in
    value_below c.args.kind _ c.args.value c.value_fault-fault.result o c.value_fault-fault.ensures c.in-None.is

pub returns-in_ok-append_front-in-None : goal.returns-in_ok-append_front-in-None
returns-in_ok-append_front-in-None c = λ number.
    let o = only_field c.args.kind c.fields.result.now _ c.requires.tv c.fields.ensures c.in-len1.len_at_least c.in-len1.len_below in
    puts_parameter c.args.kind (c.args.value ∷ []) [] _ c.args.room.now.items c.append_front.new.room.items number c.value_fault-fault.result _ _ c.requires.said (one_test c.args.kind _ c.args.value c.value_fault-fault.result o c.value_fault-fault.ensures) (few_octets c.args.kind _ o) refl c.tv_front-front.ensures.spelled (c.in_ok-append_front-in-None.ensures ∙ sym (append-nil _))

pub returns-in-Some : goal.returns-in-Some
returns-in-Some c = λ number.
    let o = only_field c.args.kind c.fields.result.now _ c.requires.tv c.fields.ensures c.in-len1.len_at_least c.in-len1.len_below in
    puts_nothing _ c.args.room.now.items number c.value_fault-fault.result _ _ c.requires.said (one_test c.args.kind _ c.args.value c.value_fault-fault.result o c.value_fault-fault.ensures ∙ own_parameter c.args.kind (c.args.value ∷ []) [] c.requires.said) (few_octets c.args.kind _ o) refl (ap (λ (f : Option NodeFault). is_none f) c.in-Some.is)
