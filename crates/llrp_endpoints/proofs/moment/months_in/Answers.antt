use Rattle.std.proofs.Common.{arith}
use Rattle.llrp_endpoints.proofs.MomentLemmas.{months_none, months_more, year_is_whole}
use Rattle.llrp_endpoints.proofs.moment.months_in.Goals as goal

pub loop-months-init : goal.loop-months-init
loop-months-init c = let none = months_none c.args.year in omega arith

pub loop-months-preserved : goal.loop-months-preserved
loop-months-preserved c = let more = months_more c.args.year c.loop-months.months in omega arith

pub unreachable-requires : goal.unreachable-requires
unreachable-requires c = year_is_whole c.args.year c.args.days c.loop-months.months c.loop-months.rest c.requires c.loop-months.invariant (omega arith) (omega arith)
