use Rattle.std.proofs.Common.{◌≡◌, ◌+◌, None, refl, sym, ap, ◌∙◌, arith}
use Rattle.llrp_schema.specs.declared.kinds.Kind.{Kind}
use Rattle.llrp_schema.specs.declared.kinds.Kind.TheVariants.{Parameter}
use Rattle.llrp_schema.specs.declared.kinds.ParamKind.{ParamKind}
use Rattle.llrp_schema.specs.Schema.{tail_of}
use Rattle.llrp_tree.specs.Lawful.{AreLawful, body_octets, head_octets, octets}
use Rattle.llrp_tree.specs.Calls.Lawful.{own_octets}
use Rattle.llrp_tree.proofs.LawLemmas.{lawful_from}
use Rattle.llrp_listing.specs.declared.encode.open_lines.LineRecord.{LineRecord}
use Rattle.llrp_listing.specs.Private.OpenNodes.{IsHeld, OpenNode, kind_fault, node_fault, node_octets}
use Rattle.llrp_listing.proofs.NodeFaults.{tail_octets}
use Rattle.llrp_listing.proofs.encode.close_line.add_child.Goals as goal

is_lawful : (held : LineRecord) (n : OpenNode) (kind : ParamKind) → IsHeld held n → n.line.kind ≡ Parameter kind → node_fault n.line n.children ≡ None → AreLawful kind n.line.numbers n.line.tail n.children
is_lawful held n kind h is fine =
    lawful_from kind n.line.numbers n.line.tail n.children (tail_octets (tail_of n.line.kind) n.line.tail h.said.tail)
    (sym (ap (λ (k : Kind). kind_fault k n.line.numbers n.line.tail n.children) is) ∙ fine)

octets_of : (n : OpenNode) (kind : ParamKind) → n.line.kind ≡ Parameter kind → node_octets n ≡ head_octets kind + body_octets (Parameter kind) n.line.tail + octets n.children
octets_of n kind is = ap (λ (k : Kind). own_octets k n.line.tail + octets n.children) is

pub returns-clause-held : goal.returns-clause-held
returns-clause-held c = λ n p h is fine old.
    let counted = c.count_child-count.ensures p.line p.children n.line.numbers n.line.tail n.children old.kind old.fault old.seen in
    record {
      kind = old.kind;
      number = old.number;
      fault = counted.fault;
      seen = counted.seen;
      levels = c.max.ensures ∙ rw (old.levels, h.levels) refl;
      octets = omega (arith, c.saturating_add.ensures, old.octets, h.octets, octets_of n c.args.kind is);
      said = old.said;
      lawful = (old.lawful, is_lawful c.args.child.now n c.args.kind h is fine, h.lawful);
    }
