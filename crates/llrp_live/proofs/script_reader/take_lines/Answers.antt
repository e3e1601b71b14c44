use Rattle.llrp_live.specs.Private.Reading.{taken}
use Rattle.llrp_live.proofs.LineLemmas.{took_more, took_none}
use Rattle.llrp_live.proofs.script_reader.take_lines.Goals as goal

pub each-init : goal.each-init
each-init c = took_none _ _

pub each-preserved : goal.each-preserved
each-preserved c = took_more _ _ c.in-Some.first.now c.in-Some.below.now c.in-Some.after.now _ (taken c.each.lines.items c.each.sent.items c.each.reached) (taken c.take_block.new.lines.items c.take_block.new.sent.items c.take_block.new.reached) c.each.invariant c.in-Some.ensures c.in_ok-take_block.ensures
