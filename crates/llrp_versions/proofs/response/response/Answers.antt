use Rattle.std.proofs.Common.{rules}
use Rattle.llrp_versions.proofs.LawfulResponses.{no_fault_in}
use Rattle.llrp_versions.proofs.response.response.Goals as goal

pub unreachable-requires : goal.unreachable-requires
unreachable-requires c = no_fault_in c.args.request.now c.version-version.result c.args.kind c.args.fields.now c.args.code c.new.result _ c.version-version.ensures (search rules) c.requires.message c.in-Err.ensures.fault
