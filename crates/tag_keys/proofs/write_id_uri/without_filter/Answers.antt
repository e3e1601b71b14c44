use Rattle.tag_keys.proofs.BuildLemmas.{others_joined, all_joined}
use Rattle.tag_keys.proofs.write_id_uri.without_filter.Goals as goal

pub returns-in-Partitioned-clause-joined : goal.returns-in-Partitioned-clause-joined
returns-in-Partitioned-clause-joined c = others_joined c.args.parts _ _ _ _ _ _ c.behind_first.ensures.others.0 c.args.numbers.now _ c.in-Partitioned.is c.requires.numbers c.behind_first.ensures.others.1

pub returns-in-General-clause-joined : goal.returns-in-General-clause-joined
returns-in-General-clause-joined c = all_joined c.args.parts _ _ _ c.args.numbers.now c.in-General.is c.requires.numbers
