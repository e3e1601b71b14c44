use Rattle.std.proofs.Common.{ℕ, List, subst}
use Rattle.llrp.specs.Calls.Refusals.{Hears}
use Rattle.llrp.proofs.listening.Listening.read_on.Goals as goal

pub returns-clause-hears : goal.returns-clause-hears
returns-clause-hears g c = subst (λ (x : List ℕ). Hears x c.args.self.now.faults c.hear.new.self.faults) c.split_at.ensures.front c.hear.ensures.hears
