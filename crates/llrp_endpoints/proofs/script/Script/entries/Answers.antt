use Rattle.std.proofs.Common.{rules}
use Rattle.llrp_endpoints.proofs.script.Script.entries.Goals as goal

pub returns-clause-entries : goal.returns-clause-entries
returns-clause-entries c = search rules
