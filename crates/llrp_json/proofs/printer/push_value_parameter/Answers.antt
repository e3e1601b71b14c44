use Rattle.std.proofs.Common.{◌<◌, ◌^◌, ℕ, sym, subst}
use Rattle.std.proofs.lemmas.Result.{on_ok_weaker}
use Rattle.llrp_stream.proofs.ValuePart.{has_field, field_width}
use Rattle.llrp_json.proofs.ValueParameters.{opened_parameter, signed_width, value_named}
use Rattle.llrp_json.proofs.printer.push_value_parameter.Goals as goal

pub bounds-fields-0 : goal.bounds-fields-0
bounds-fields-0 c = has_field c.args.kind c.requires.tv c.fields.result.now c.fields.ensures

pub push_value-requires-clause-fits : goal.push_value-requires-clause-fits
push_value-requires-clause-fits c = subst (λ (n : ℕ). c.args.value < 2 ^ n) (sym (field_width c.args.kind c.requires.tv c.fields.result.now _ c.fields.ensures)) c.requires.fits

pub push_value-requires-clause-signed : goal.push_value-requires-clause-signed
push_value-requires-clause-signed c = signed_width c.args.kind c.requires.tv c.fields.result.now _ c.fields.ensures

pub push_opening-requires-clause-named : goal.push_opening-requires-clause-named
push_opening-requires-clause-named c = value_named c.args.kind c.requires.tv c.fields.result.now _ c.fields.ensures

pub returns : goal.returns
returns c =
    let number = c.in_ok-push_value.ensures in
    on_ok_weaker c.push_text.result
    (λ e. opened_parameter c.args.kind c.requires.tv c.fields.result.now _ c.fields.ensures c.args.value number.0 _ _ _ _ number.1 c.in_ok-push_opening.ensures number.2 e)
    c.push_text.ensures
