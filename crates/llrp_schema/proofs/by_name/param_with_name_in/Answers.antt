-- The kinds whose names have this length hold the one that has the name.
use Rattle.std.proofs.Common.{ap, sym, ◌∙◌}
use Rattle.llrp_schema.specs.declared.kinds.Kind.TheVariants.{Parameter}
use Rattle.llrp_schema.specs.Schema.{name_of, whole_param_kinds}
use Rattle.llrp_schema.specs.Calls.Schema.{param_named_in}
use Rattle.llrp_schema.proofs.SchemaLemmas.{find_of_length}
use Rattle.llrp_schema.proofs.by_name.param_with_name_in.Goals as goal

pub returns-in-Standard : goal.returns-in-Standard
unfolding param_named_in
returns-in-Standard c =
    c.first_parameter.ensures
    ∙ find_of_length (λ kind. name_of (Parameter kind)) c.args.name.now c.whole_parameters_of_length.result.now whole_param_kinds c.whole_parameters_of_length.ensures
    ∙ ap (λ p. param_named_in p c.args.name.now) (sym c.in-Standard.is)
