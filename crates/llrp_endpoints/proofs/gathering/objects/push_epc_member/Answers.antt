use Rattle.std.proofs.Common.{◌∙◌, ap, not}
use Rattle.llrp_endpoints.proofs.ObjectLemmas.{no_epc}
use Rattle.llrp_endpoints.proofs.gathering.objects.push_epc_member.Goals as goal

pub returns-then-is_none : goal.returns-then-is_none
returns-then-is_none c = no_epc _ _ c.epc_of.result c.args.text.now c.epc_of.ensures (c.is_none.ensures ∙ ap not c.if-is_none.true)
