use Rattle.std.proofs.Common.{◌∙◌, map, ap, sym, Option}
use Rattle.llrp_tree.specs.Tree.{MessageTree}
use Rattle.llrp_endpoints.specs.Asides.{instead}
use Rattle.llrp_endpoints.proofs.WholePlans.{none_instead}
use Rattle.llrp_endpoints.proofs.asides.said_for.Goals as goal

pub returns-in-None : goal.returns-in-None
returns-in-None c = sym (ap (λ (w : Option MessageTree). map (instead w) c.args.messages.items) c.in-None.is ∙ none_instead c.args.messages.items)
