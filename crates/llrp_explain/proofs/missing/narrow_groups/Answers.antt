use Rattle.llrp_schema.specs.Schema.{groups_of}
use Rattle.llrp_explain.proofs.MissingLemmas.{narrow}
use Rattle.llrp_explain.proofs.missing.narrow_groups.Goals as goal

pub returns-clause-narrow : goal.returns-clause-narrow
returns-clause-narrow c = narrow c.groups.result.now (groups_of c.args.kind) c.groups.ensures (c.groups_are_narrow.ensures.least c.args.kind)
