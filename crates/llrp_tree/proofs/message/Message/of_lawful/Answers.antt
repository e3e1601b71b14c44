use Rattle.std.proofs.Common.{arith}
use Rattle.llrp_schema.specs.declared.kinds.Kind.TheVariants.{Message}
use Rattle.llrp_tree.proofs.LawLemmas.{range_length}
use Rattle.llrp_schema.proofs.TableLaws.{few_plain_fields}
use Rattle.llrp_tree.proofs.message.Message.of_lawful.Goals as goal

pub kept-kept-requires : goal.kept-kept-requires
kept-kept-requires c = omega (arith, range_length _ _ c.requires.obeys.ranges, few_plain_fields (Message c.args.kind))
