use Rattle.std.proofs.Common.{◌≡◌, ◌∙◌, sym}
use Rattle.std.proofs.lemmas.List.Elements.{All-set}
use Rattle.llrp_schema.specs.declared.kinds.Kind.TheVariants.{Parameter}
use Rattle.llrp_schema.specs.Schema.{set_of_kind}
use Rattle.llrp_listing.proofs.encode.guess.Guess.note_parameter.Goals as goal

pub invariant_of-self : goal.invariant_of-self
invariant_of-self c =
    let there : set_of_kind (Parameter c.args.kind) ≡ c.self.inside.set = c.requires ∙ sym c.self.view_is in
    (All-set (λ kind. set_of_kind (Parameter kind) ≡ c.self.inside.set) c.self.inside.after _ c.args.kind there c.self.invariant.0, there, c.self.invariant.2)
