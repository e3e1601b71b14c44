use Rattle.std.proofs.Common.{◌∙◌, sym, arith}
use Rattle.llrp_json.proofs.StandardShapes.{short_number}
use Rattle.llrp_json.proofs.names.standard_parameter.Goals as goal

pub overflow_cast-number : goal.overflow_cast-number
overflow_cast-number c = let small = short_number c.args.kind (sym c.is_tv.ensures ∙ c.if-is_tv.true) in omega (arith, small, c.number-number.ensures)
