use Rattle.std.proofs.Common.{rules}
use Rattle.llrp_sides.proofs.stretch.verdict_at.Goals as goal

pub returns-then-eq : goal.returns-then-eq
returns-then-eq c = search rules
