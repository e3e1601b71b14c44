-- The kinds whose names have this length hold the one that has the name.
use Rattle.std.proofs.Common.{◌∙◌}
use Rattle.llrp_schema.specs.declared.kinds.Kind.TheVariants.{Parameter}
use Rattle.llrp_schema.specs.Schema.{name_of, param_kinds}
use Rattle.llrp_schema.specs.Calls.Schema.{param_named_in}
use Rattle.llrp_schema.proofs.SchemaLemmas.{find_of_length}
use Rattle.llrp_schema.proofs.by_name.param_with_name.Goals as goal

pub returns : goal.returns
unfolding param_named_in
returns c = c.first_parameter.ensures ∙ find_of_length (λ kind. name_of (Parameter kind)) c.args.name.now c.parameters_of_length.result.now param_kinds c.parameters_of_length.ensures
