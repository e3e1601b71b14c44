use Rattle.std.proofs.Common.{List, nat_eq, ap, ◌∙◌}
use Rattle.std.specs.Prelude.{find}
use Rattle.std.specs.Cmp.Lexicographic.{pointwise}
use Rattle.llrp_enumerations.specs.Calls.Enumerations.{EnumeratedField, enumeration_in}
use Rattle.llrp_enumerations.proofs.names.enumeration_of.Goals as goal

pub returns : goal.returns
returns c = c.field_named.ensures ∙ ap (λ (fs : List EnumeratedField). enumeration_in (find (λ f. pointwise nat_eq f.name c.args.field.now) fs)) c.enumerated_fields.ensures
