use Rattle.std.proofs.Common.{refl}
use Rattle.llrp_endpoints.proofs.ServingPieces.{started, not_started}
use Rattle.llrp_endpoints.proofs.serving.Serving.start.Goals as goal
use Rattle.llrp_endpoints.proofs.serving.Serving.start.Goals.{in-Ok, in-Err}

pub returns-clause-starts : goal.returns-clause-starts
returns-clause-starts c = elim c.match-outcome.branch [
  | in-Ok w ↦ λ reader entries f. rw (w.outcome-is, w.in-Ok.is) (started reader entries c.args.self.now _ _ _ f (w.in-Ok.ensures.ok reader entries f.new) refl w.self-is)
  | in-Err w ↦ λ reader entries f. rw w.outcome-is (not_started reader entries (record { reader = c.connect-outcome.new.self; decoder = c.args.self.now.decoder; phase = c.match-outcome.self }) w.in-Err.error _ _ (w.in-Err.ensures.err reader entries f.new) w.self-is)
]
