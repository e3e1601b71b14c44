use Rattle.std.proofs.Common.{◌≡◌}
use Rattle.std.proofs.lemmas.List.Elements.{All-replicate}
use Rattle.llrp_schema.specs.declared.kinds.Kind.TheVariants.{Parameter}
use Rattle.llrp_schema.specs.Schema.{set_of_kind}
use Rattle.llrp_listing.proofs.encode.guess.Guess.new.Goals as goal

pub invariant_of-result : goal.invariant_of-result
invariant_of-result c =
    let parameter = c.some_parameter-parameter.ensures in
    (All-replicate (λ kind. set_of_kind (Parameter kind) ≡ c.args.set) 177 c.some_parameter-parameter.result parameter, parameter, c.some_message.ensures)
