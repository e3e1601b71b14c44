use Rattle.std.proofs.Common.{codes}
use Rattle.llrp_listing.proofs.SplitWords.{not_equal}
use Rattle.llrp_endpoints.proofs.ScriptLines.{no_action}
use Rattle.llrp_endpoints.proofs.script.action_of.Goals as goal

pub returns-else-eq-2 : goal.returns-else-eq-2
returns-else-eq-2 c = λ a r h. no_action a c.args.text.now c.in_ok-word.word.now c.in_ok-word.sighting.now c.in_ok-word.ensures
    (not_equal c.args.text.now c.as_slice.result.now (codes "tick") c.as_slice.ensures c.if-eq.ensures)
    (not_equal c.in_ok-word.word.now c.as_slice-2.result.now (codes "seen") c.as_slice-2.ensures c.if-eq-2.ensures) h
