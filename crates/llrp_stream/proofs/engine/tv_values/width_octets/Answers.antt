use Rattle.std.proofs.Common.{◌/◌, ℕ, ap}
use Rattle.llrp_stream.proofs.ValuePart.{has_field, field_width}
use Rattle.llrp_stream.proofs.engine.tv_values.width_octets.Goals as goal

pub bounds-fields-0 : goal.bounds-fields-0
bounds-fields-0 c = has_field c.args.kind c.requires c.fields.result.now c.fields.ensures

pub returns : goal.returns
returns c = ap (λ (n : ℕ). n / 8) (field_width c.args.kind c.requires c.fields.result.now _ c.fields.ensures)
