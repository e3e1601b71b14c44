use Rattle.std.proofs.Common.{◌∙◌, ap, rules}
use Rattle.std.specs.Prelude.{filter}
use Rattle.std.proofs.lemmas.Fn.{filter_same}
use Rattle.llrp_schema.specs.declared.kinds.ParamKind.TheVariants.{RoSpec}
use Rattle.llrp_session.specs.RoSpec.{is_kind}
use Rattle.llrp_session.proofs.client.compare_tables.rospecs_of.Goals as goal

pub returns : goal.returns
returns c =
    c.new.ensures ∙ filter_same _ (is_kind RoSpec) _ (λ v b f k. search rules) _ _ c.retain.ensures.filtered
    ∙ ap (filter (is_kind RoSpec)) (c.into_vec-nodes.ensures ∙ c.into_children.ensures)
