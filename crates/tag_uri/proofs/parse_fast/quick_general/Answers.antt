use Rattle.tag_uri.proofs.QuickLemmas.{general_read}
use Rattle.tag_uri.proofs.parse_fast.quick_general.Goals as goal

pub returns-clause-text : goal.returns-clause-text
returns-clause-text c =
    general_read c.in-Some-plain_between.manager c.in-Some-plain_between-2.object_class c.in-Some-plain_between-3.serial c.args.from c.in-Some.first c.in-Some-dot_from.second c.args.text.now
    c.in-Some-plain_between.ensures c.in-Some.ensures.dot c.in-Some-plain_between-2.ensures c.in-Some-dot_from.ensures.dot c.in-Some-plain_between-3.ensures
