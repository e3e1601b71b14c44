use Rattle.llrp_schema.specs.declared.kinds.Kind.TheVariants.{Message}
use Rattle.llrp_schema.specs.Schema.{fields_of}
use Rattle.llrp_tree.proofs.LawLemmas.{range_fits}
use Rattle.llrp_tree.proofs.SpellingLemmas.{appends_same}
use Rattle.llrp_tree.proofs.SpelledLemmas.{same_message}
use Rattle.llrp_tree.proofs.heads.start_of_message.Goals as goal

pub message_start-requires-clause-values : goal.message_start-requires-clause-values
message_start-requires-clause-values c =
    rw (c.kind.ensures, c.fields.ensures) (range_fits (fields_of (Message c.args.message.now.kind)) c.args.message.now.fields c.lawful.ensures.obeys.ranges)

pub returns-clause-spelled : goal.returns-clause-spelled
returns-clause-spelled c =
    appends_same _ _ _ _ c.message_start.ensures.spelled
    (same_message _ _ _ _ _ _ _ _ _ _ c.version.ensures c.kind.ensures c.length.ensures c.id.ensures c.fields.ensures)
