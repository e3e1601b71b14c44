use Rattle.std.proofs.Common.{◌∙◌, arith}
use Rattle.llrp_schema.specs.declared.kinds.Kind.TheVariants.{Parameter}
use Rattle.llrp_schema.specs.Schema.{fields_of}
use Rattle.llrp_tree.proofs.LawLemmas.{range_fits}
use Rattle.llrp_tree.proofs.LengthLemmas.{tail_within}
use Rattle.llrp_tree.proofs.SpellingLemmas.{appends_same}
use Rattle.llrp_tree.proofs.SpelledLemmas.{same_parameter}
use Rattle.llrp_tree.proofs.heads.start_of.Goals as goal

pub parameter_start-requires-clause-values : goal.parameter_start-requires-clause-values
parameter_start-requires-clause-values c =
    rw (c.kind.ensures, c.fields.ensures) (range_fits (fields_of (Parameter c.args.node.now.kind)) c.args.node.now.fields c.lawful.ensures.0.obeys.ranges)

pub parameter_start-requires-clause-words : goal.parameter_start-requires-clause-words
parameter_start-requires-clause-words c e =
    rw (c.as_slice.ensures.value, c.tail.ensures) (omega (arith, c.lawful.ensures.0.long, tail_within (Parameter c.args.node.now.kind) c.args.node.now.tail))

pub parameter_start-requires-clause-text : goal.parameter_start-requires-clause-text
parameter_start-requires-clause-text c e =
    rw (c.as_slice.ensures.value, c.tail.ensures) (omega (arith, c.lawful.ensures.0.long, tail_within (Parameter c.args.node.now.kind) c.args.node.now.tail))

pub returns-clause-spelled : goal.returns-clause-spelled
returns-clause-spelled c =
    appends_same _ _ _ _ c.parameter_start.ensures.spelled
    (same_parameter _ _ _ _ _ _ _ _ c.kind.ensures c.length.ensures c.fields.ensures (c.as_slice.ensures.value ∙ c.tail.ensures))
