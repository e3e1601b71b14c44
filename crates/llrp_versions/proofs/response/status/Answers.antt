use Rattle.std.proofs.Common.{[], ◌∷◌, ◌∙◌}
use Rattle.llrp_schema.specs.declared.kinds.ParamKind.TheVariants.{WholeLlrpStatus}
use Rattle.llrp_session.proofs.LawfulParts.{no_fault}
use Rattle.llrp_versions.proofs.response.status.Goals as goal

pub unreachable-requires : goal.unreachable-requires
unreachable-requires c = no_fault WholeLlrpStatus (c.args.code ∷ []) c.new-tail.result c.new-children.result [] _ (c.new-tail.ensures ∙ c.new.ensures.items) (c.new-children.ensures ∙ c.new-2.ensures.items) c.requires c.in-Err.ensures.fault
