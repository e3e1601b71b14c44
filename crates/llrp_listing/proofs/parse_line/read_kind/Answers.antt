use Rattle.std.proofs.Common.{◌∙◌, ap, arith, sym}
use Rattle.llrp_schema.specs.Calls.Schema.{message_named_in, param_named_in}
use Rattle.llrp_listing.proofs.LineWords.{message_named, parameter_named, no_message, no_parameter}
use Rattle.llrp_listing.proofs.parse_line.read_kind.Goals as goal

pub returns-in-Some : goal.returns-in-Some
returns-in-Some c =
    let named = message_named c.as_bytes-octets.result.now c.in-Some.kind c.in-Some.ensures in
    (c.if-level-eq0.true, (named.0, sym c.as_bytes-octets.ensures.value ∙ named.1))

pub returns-in-None : goal.returns-in-None
returns-in-None c = no_message c.args.level c.args.name.now c.if-level-eq0.true (c.in-None.ensures ∙ ap (message_named_in c.args.set) c.as_bytes-octets.ensures.value)

pub returns-in-Some-param_with_name_in : goal.returns-in-Some-param_with_name_in
returns-in-Some-param_with_name_in c =
    let named = parameter_named c.as_bytes-octets.result.now c.in-Some-param_with_name_in.kind c.in-Some-param_with_name_in.ensures in
    (omega arith, (named.0, sym c.as_bytes-octets.ensures.value ∙ named.1))

pub returns-in-None-param_with_name_in : goal.returns-in-None-param_with_name_in
returns-in-None-param_with_name_in c = no_parameter c.args.level c.args.name.now (omega arith) (c.in-None-param_with_name_in.ensures ∙ ap (param_named_in c.args.set) c.as_bytes-octets.ensures.value)
