use Rattle.std.proofs.Common.{refl}
use Rattle.llrp_live.proofs.LiveLemmas.{phased}
use Rattle.llrp_live.proofs.reader.LiveReader.feed.Goals as goal

pub returns-clause-feeds : goal.returns-clause-feeds
returns-clause-feeds c = λ b before bytes items h.
    phased c.args.now c.args.piece.now b before bytes items c.args.self.now c.take_all-outcome.new.self _ c.args.out.now.items c.take_all-outcome.new.out.items c.take_all-outcome.result
    (c.take_all-outcome.ensures b before bytes items h) refl refl c.phase_after-self.ensures refl refl refl
