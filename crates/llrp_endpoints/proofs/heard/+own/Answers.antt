use Rattle.std.proofs.Common.{◌≡◌, ◌∙◌, not, List, Option, None, sym, ap, subst, arith}
use Rattle.std.specs.Prelude.{IfOk}
use Rattle.llrp_schema.specs.Schema.{groups_of}
use Rattle.llrp_schema.specs.declared.kinds.Kind.TheVariants.{Parameter}
use Rattle.llrp_tree.specs.Tree.{Tree, forest}
use Rattle.llrp_tree.specs.Lawful.{levels}
use Rattle.llrp_tree.proofs.TreeLemmas.{forest-trees}
use Rattle.llrp_endpoints.specs.Heard.{else_kept, kept_where, lawful_where, own_kind, own_row}
use Rattle.llrp_endpoints.proofs.OwnParts.{in_place, no_row, placed_there, row_goes_on, row_kept, levels_of}
use Rattle.llrp_endpoints.proofs.heard.+own.Goals.{own_nodes-in-Some+in_ok-push, own_nodes-in_default}
use Rattle.llrp_endpoints.proofs.heard.+own.Goals as goal

pub own_node-own_nodes-requires : goal.own_node-own_nodes-requires
own_node-own_nodes-requires t c =
    let row = c.as_slice.ensures ∙ c.children.ensures in
    let same = ap (λ (ts : List Tree). levels (forest ts)) row ∙ ap levels (forest-trees c.args.node.now.children) in
    (omega (arith, same), tt)

pub own_node-returns-in-Some-lawful_node : goal.own_node-returns-in-Some-lawful_node
own_node-returns-in-Some-lawful_node t c =
    let node = c.args.node.now in
    let kind = c.in-Some.kind in
    let e = ap own_kind (sym c.kind.ensures) ∙ sym c.own_kind.ensures ∙ c.in-Some.is in
    let placed = placed_there (groups_of c.args.parent) kind c.place.result c.place.ensures.some (c.is_none.ensures ∙ ap not c.if-is_none.false) in
    let row = c.as_slice.ensures ∙ c.children.ensures in
    let is = c.in_ok-children.ensures ∙ ap (λ (ts : List Tree). own_row (groups_of (Parameter kind)) (forest ts)) row ∙ ap (own_row (groups_of (Parameter kind))) (forest-trees node.children) in
    ap (else_kept kind c.fields.result.now) (sym c.in-Some-lawful_node.is ∙ c.lawful_node.ensures ∙ ap (λ (ts : List Tree). lawful_where kind c.fields.result.now c.in_ok-tail.tail (forest ts)) c.new.ensures)
    ∙ in_place (groups_of c.args.parent) node kind c.fields.result.now c.in_ok-tail.tail (forest c.in_ok-children.children.items) e placed c.fields.ensures (c.in_ok-tail.ensures ∙ c.as_slice-2.ensures.value ∙ c.tail.ensures) is

pub own_node-returns-in-None : goal.own_node-returns-in-None
own_node-returns-in-None t c =
    let node = c.args.node.now in
    let kind = c.in-Some.kind in
    let e = ap own_kind (sym c.kind.ensures) ∙ sym c.own_kind.ensures ∙ c.in-Some.is in
    let placed = placed_there (groups_of c.args.parent) kind c.place.result c.place.ensures.some (c.is_none.ensures ∙ ap not c.if-is_none.false) in
    let row = c.as_slice.ensures ∙ c.children.ensures in
    let is = c.in_ok-children.ensures ∙ ap (λ (ts : List Tree). own_row (groups_of (Parameter kind)) (forest ts)) row ∙ ap (own_row (groups_of (Parameter kind))) (forest-trees node.children) in
    let kept = ap (kept_where kind) (c.fields-in-None.ensures ∙ sym c.fields.ensures)
    ∙ ap (else_kept kind c.fields.result.now) (sym c.in-None.is ∙ c.lawful_node.ensures ∙ ap (λ (ts : List Tree). lawful_where kind c.fields.result.now c.in_ok-tail.tail (forest ts)) c.new.ensures)
    ∙ in_place (groups_of c.args.parent) node kind c.fields.result.now c.in_ok-tail.tail (forest c.in_ok-children.children.items) e placed c.fields.ensures (c.in_ok-tail.ensures ∙ c.as_slice-2.ensures.value ∙ c.tail.ensures) is in
    subst (λ (t : Option Tree). IfOk c.kept_rospec.result (λ own. own ≡ t)) kept c.kept_rospec.ensures

pub own_nodes-loop-node-init : goal.own_nodes-loop-node-init
own_nodes-loop-node-init t c = ap forest c.new-row.ensures.items ∙ sym (no_row (groups_of c.args.parent))

pub own_nodes-own_node-requires : goal.own_nodes-own_node-requires
own_nodes-own_node-requires t c =
    let deep = levels_of c.args.nodes.now c.loop-node.node-index c.node-item.result c.node-item.result c.loop-node-test.true c.node-item.is in
    (omega (arith, deep), tt)

pub own_nodes-loop-node-preserved : goal.own_nodes-loop-node-preserved
own_nodes-loop-node-preserved t c = elim c.match-branch-2.branch [
  | own_nodes-in-Some+in_ok-push w ↦
      rw (w.row-is, w.in_ok-push.ensures.items)
      (row_kept (groups_of c.args.parent) c.args.nodes.now c.loop-node.node-index c.node-item.result c.loop-node.row.items w.in-Some.own c.loop-node-test.true c.node-item.is c.loop-node.invariant (sym w.in-Some.is ∙ c.in_ok-own.ensures))
  | own_nodes-in_default w ↦
      rw w.row-is (row_goes_on (groups_of c.args.parent) c.args.nodes.now c.loop-node.node-index c.node-item.result c.loop-node.row.items None c.loop-node-test.true c.node-item.is c.loop-node.invariant (sym w.in_default.is ∙ c.in_ok-own.ensures))
]
