use Rattle.std.proofs.Common.{◌∙◌, ap, arith}
use Rattle.llrp_tree.specs.Tree.{MessageTree, trees}
use Rattle.llrp_endpoints.proofs.WholePlans.{made_of, other_id}
use Rattle.llrp_endpoints.proofs.asides.with_id.Goals as goal

pub of_lawful-requires : goal.of_lawful-requires
of_lawful-requires c = other_id c.args.message.now c.version-version.result c.args.id c.kind-kind.result c.fields.result.now c.in_ok-tail.tail c.into_children-children.result c.version-version.ensures c.kind-kind.ensures c.fields.ensures (c.in_ok-tail.ensures ∙ c.tail.ensures) (c.into_children-children.ensures ∙ ap (λ (m : MessageTree). trees m.children) c.in_ok-try_clone.ensures) (omega arith) c.lawful.ensures

pub returns : goal.returns
returns c = c.of_lawful.ensures.value ∙ made_of c.args.message.now c.version-version.result c.args.id c.kind-kind.result c.fields.result.now c.in_ok-tail.tail c.into_children-children.result c.version-version.ensures c.kind-kind.ensures c.fields.ensures (c.in_ok-tail.ensures ∙ c.tail.ensures) (c.into_children-children.ensures ∙ ap (λ (m : MessageTree). trees m.children) c.in_ok-try_clone.ensures)
