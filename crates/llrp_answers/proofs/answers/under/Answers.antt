use Rattle.std.proofs.Common.{◌∙◌, ap, arith}
use Rattle.llrp_tree.specs.Tree.{MessageTree, trees}
use Rattle.llrp_answers.proofs.AnswerLemmas.{made_of, other_id}
use Rattle.std.proofs.Common.{rules}
use Rattle.llrp_answers.proofs.answers.under.Goals as goal

pub of_lawful-requires : goal.of_lawful-requires
of_lawful-requires c = other_id c.args.message.now c.version-version.result c.args.id c.kind-kind.result c.fields.result.now c.new-tail.result c.into_children-children.result c.version-version.ensures c.kind-kind.ensures c.fields.ensures (search rules) (c.into_children-children.ensures ∙ ap (λ (m : MessageTree). trees m.children) c.in_ok-try_clone.ensures) (omega arith) c.lawful.ensures

pub returns : goal.returns
returns c = c.of_lawful.ensures.value ∙ made_of c.args.message.now c.version-version.result c.args.id c.kind-kind.result c.fields.result.now c.new-tail.result c.into_children-children.result c.version-version.ensures c.kind-kind.ensures c.fields.ensures (search rules) (c.into_children-children.ensures ∙ ap (λ (m : MessageTree). trees m.children) c.in_ok-try_clone.ensures)
