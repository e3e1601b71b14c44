use Rattle.std.proofs.Common.{refl}
use Rattle.llrp_endpoints.proofs.ServingPieces.{fed}
use Rattle.llrp_endpoints.proofs.serving.Serving.feed.Goals as goal

pub returns-clause-feeds : goal.returns-clause-feeds
returns-clause-feeds c = λ reader entries bytes messages h.
    fed reader entries bytes messages c.args.piece.now c.take_all-outcome.new.self (record { reader = c.take_all-outcome.new.self.reader; decoder = c.take_all-outcome.new.self.decoder; phase = c.phase_after-self.result }) _ _ c.take_all-outcome.result
    (c.take_all-outcome.ensures reader entries bytes messages h.stands) refl refl c.phase_after-self.ensures
