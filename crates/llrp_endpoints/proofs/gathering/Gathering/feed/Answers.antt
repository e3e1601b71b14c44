use Rattle.std.proofs.Common.{◌++◌}
use Rattle.llrp_endpoints.specs.Gathering.{beginning}
use Rattle.llrp_endpoints.proofs.GatheringFeeds.{feeds_phase}
use Rattle.llrp_endpoints.proofs.gathering.Gathering.feed.Goals as goal

pub returns-clause-feeds : goal.returns-clause-feeds
returns-clause-feeds c = λ limit plan bytes rest d s.
    feeds_phase (beginning limit plan) (bytes ++ c.args.piece.now) d c.take_all-outcome.new.self _ c.args.out.now.items c.take_all-outcome.new.out.items c.args.report.now.items c.take_all-outcome.new.report.items c.take_all-outcome.result
    (c.take_all-outcome.ensures (beginning limit plan) bytes rest d s.stands)

pub returns-clause-feeds_from : goal.returns-clause-feeds_from
returns-clause-feeds_from c = λ b bytes rest d s.
    feeds_phase b (bytes ++ c.args.piece.now) d c.take_all-outcome.new.self _ c.args.out.now.items c.take_all-outcome.new.out.items c.args.report.now.items c.take_all-outcome.new.report.items c.take_all-outcome.result (c.take_all-outcome.ensures b bytes rest d s.stands)
