use Rattle.std.proofs.Common.{rules, refl, arith}
use Rattle.std.proofs.lemmas.Grind.{common_steps}
use Rattle.tag_bits.specs.Digits.{digits}
use Rattle.llrp_tree.proofs.SpellingLemmas.{none_below}
use Rattle.llrp_tree.proofs.heads.+pack.Goals as goal

pub returns-in-empty-clause-spelled : goal.returns-in-empty-clause-spelled
unfolding digits
returns-in-empty-clause-spelled t c = rw (none_below c.args.rules.now c.in-empty.len_below) refl

pub joined-requires-clause-value : goal.joined-requires-clause-value
joined-requires-clause-value c = search rules

pub returns-then-rule-clause-spelled : goal.returns-then-rule-clause-spelled
returns-then-rule-clause-spelled c = grind (arith, common_steps)
