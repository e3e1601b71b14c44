use Rattle.llrp_endpoints.proofs.ClientSideLemmas.{client_new}
use Rattle.llrp_endpoints.proofs.both_ends.client_side.ClientSide.new.Goals as goal

pub returns-clause-stands : goal.returns-clause-stands
returns-clause-stands c = λ e log p q. client_new e log c.args.limit c.args.plan c.new.result _ _ p q c.new.ensures c.new-2.ensures.items c.new-3.ensures.items
