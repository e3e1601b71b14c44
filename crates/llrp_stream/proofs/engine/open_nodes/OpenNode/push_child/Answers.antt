use Rattle.std.proofs.Common.{List, ap, ◌∙◌}
use Rattle.llrp_tree.specs.Tree.{Forest, Tree, add, forest}
use Rattle.llrp_tree.proofs.TreeLemmas.{forest-push}
use Rattle.llrp_stream.specs.Building.{OpenParts}
use Rattle.llrp_stream.proofs.engine.open_nodes.OpenNode.push_child.Goals as goal

pub returns-clause-ok : goal.returns-clause-ok
returns-clause-ok c =
    let grown = ap (λ (ts : List Tree). forest ts) c.in_ok-push.ensures.items ∙ forest-push c.self.inside.children.items c.args.child in
    let was = c.self.view_is in
    ap (λ (f : Forest). record { kind = c.self.inside.kind; fields = c.self.inside.fields.items; tail = c.self.inside.tail.items; children = f }) grown ∙ ap (λ (n : OpenParts). record n { children = add n.children c.args.child }) was
