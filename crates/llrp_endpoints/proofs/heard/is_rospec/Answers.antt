use Rattle.std.proofs.Common.{◌∙◌}
use Rattle.llrp_schema.specs.declared.kinds.ParamKind.TheVariants.{RoSpec}
use Rattle.llrp_tree.proofs.KindLemmas.{same_by_number}
use Rattle.llrp_endpoints.proofs.heard.is_rospec.Goals as goal

pub returns : goal.returns
returns c = c.eq.ensures ∙ same_by_number RoSpec c.args.kind
