-- Each child is a step of the open trees that are possible here.
use Rattle.std.proofs.Common.{rules, ◌≡◌, Bool, ◌+◌, ◌*◌, inr, List, ◌∷◌, map, arith, sym, ap, ◌∙◌, subst}
use Rattle.std.proofs.lemmas.Result.{err_from_is_err_and}
use Rattle.tag_bits.specs.Digits.{digits_of_bytes}
use Rattle.llrp_schema.specs.Schema.{GroupRule, fields_of, tail_of}
use Rattle.llrp_schema.specs.Calls.Schema.{group_rule}
use Rattle.llrp_tree.specs.Tree.{Tree, forest}
use Rattle.llrp_tree.specs.Checks.{none_missing}
use Rattle.llrp_tree.specs.Spelling.{spread}
use Rattle.llrp_tree.specs.OpenTree.{Begun}
use Rattle.llrp_tree.specs.Calls.OpenTree.{as_read}
use Rattle.llrp_tree.specs.Private.Standing.{BeginsBehind, Closes}
use Rattle.llrp_tree.specs.Calls.Standing.{begin_node}
use Rattle.std.specs.Prelude.{if◌then◌else◌}
use Rattle.llrp_tree.specs.Lawful.{head_octets}
use Rattle.llrp_tree.proofs.ChildOctets.{child_octets}
use Rattle.llrp_tree.proofs.BodyLemmas.{open_body, rest_due, with_siblings, child_stands, child_lawful, child_pushed, missing_tells, closes_here}
use Rattle.llrp_tree.proofs.decode.body.+read.Goals as goal

pub read_body-returns-in_err-child-clause-read : goal.read_body-returns-in_err-child-clause-read
read_body-returns-in_err-child-clause-read t c = λ h outer k l st.
    let p = err_from_is_err_and c.from_residual-in_err-child.result c.from_residual-in_err-child.ensures.1 in
    rw (p.1, p.2) (c.in_err-child.ensures.begun h outer (spread (fields_of c.args.kind) c.read_fields.new.values.items) (as_read (tail_of c.args.kind) c.in_ok-tail.tail.octets) k l (rest_due h (8 * c.args.stop) c.args.kind c.read_fields.new.values.items c.in_ok-tail.tail.octets (forest c.as_slice-in-children.result.now) k) (with_siblings (digits_of_bytes c.args.frame.now) h (8 * c.args.stop) c.args.kind c.read_fields.new.values.items c.in_ok-tail.tail.octets c.children.children.items c.as_slice-in-children.result.now outer (8 * c.children.at) c.as_slice-in-children.ensures.value (c.children.invariant.read h outer k l st)))

pub read_body-read_tv-requires-clause-begins : goal.read_body-read_tv-requires-clause-begins
read_body-read_tv-requires-clause-begins t c =
    let w = c.requires.begins in
    let o = c.in_ok-child.ensures.begun w.head w.outer (spread (fields_of c.args.kind) c.read_fields.new.values.items) (as_read (tail_of c.args.kind) c.in_ok-tail.tail.octets) w.of_kind w.at_level (rest_due w.head (8 * c.args.stop) c.args.kind c.read_fields.new.values.items c.in_ok-tail.tail.octets (forest c.as_slice-in-children.result.now) w.of_kind) (with_siblings (digits_of_bytes c.args.frame.now) w.head (8 * c.args.stop) c.args.kind c.read_fields.new.values.items c.in_ok-tail.tail.octets c.children.children.items c.as_slice-in-children.result.now w.outer (8 * c.children.at) c.as_slice-in-children.ensures.value (c.children.invariant.read w.head w.outer w.of_kind w.at_level w.stands)) in
    let here : Begun = begin_node w.head (8 * c.args.stop) (spread (fields_of c.args.kind) c.read_fields.new.values.items) (as_read (tail_of c.args.kind) c.in_ok-tail.tail.octets) (forest c.as_slice-in-children.result.now) in
    let begins : BeginsBehind c.args.frame.now c.in_ok-child.child.kind (forest c.children.children.items) (c.args.level + 1) c.in_ok-child.child.at c.in_ok-child.child.stop = record { head = o.0; parent = here; outer = w.outer; of_kind = o.1; behind = ap forest c.as_slice-in-children.ensures.value; at_level = omega (arith, w.at_level); stands = o.2 } in
    (c.args.level + 1, begins)

pub read_body-returns-in_err-at-clause-read : goal.read_body-returns-in_err-at-clause-read
read_body-returns-in_err-at-clause-read t c = λ h outer k l st.
    let o = c.in_ok-child.ensures.begun h outer (spread (fields_of c.args.kind) c.read_fields.new.values.items) (as_read (tail_of c.args.kind) c.in_ok-tail.tail.octets) k l (rest_due h (8 * c.args.stop) c.args.kind c.read_fields.new.values.items c.in_ok-tail.tail.octets (forest c.as_slice-in-children.result.now) k) (with_siblings (digits_of_bytes c.args.frame.now) h (8 * c.args.stop) c.args.kind c.read_fields.new.values.items c.in_ok-tail.tail.octets c.children.children.items c.as_slice-in-children.result.now outer (8 * c.children.at) c.as_slice-in-children.ensures.value (c.children.invariant.read h outer k l st)) in
    let here : Begun = begin_node h (8 * c.args.stop) (spread (fields_of c.args.kind) c.read_fields.new.values.items) (as_read (tail_of c.args.kind) c.in_ok-tail.tail.octets) (forest c.as_slice-in-children.result.now) in
    let p = err_from_is_err_and c.from_residual-in_err-at.result c.from_residual-in_err-at.ensures.1 in
    rw (p.1, p.2) (c.in_err-at.ensures.read o.0 here outer o.1 (ap forest c.as_slice-in-children.ensures.value) o.2)

pub read_body-children-preserved-in_ok-at : goal.read_body-children-preserved-in_ok-at
read_body-children-preserved-in_ok-at t c = record {
  after = omega (arith, c.in_ok-at.ensures.within, c.in_ok-child.ensures.within, c.children.invariant.after);
  before = omega (arith, c.in_ok-at.ensures.within, c.in_ok-child.ensures.within);
  read = λ h outer k l st.
      let o = c.in_ok-child.ensures.begun h outer (spread (fields_of c.args.kind) c.read_fields.new.values.items) (as_read (tail_of c.args.kind) c.in_ok-tail.tail.octets) k l (rest_due h (8 * c.args.stop) c.args.kind c.read_fields.new.values.items c.in_ok-tail.tail.octets (forest c.as_slice-in-children.result.now) k) (with_siblings (digits_of_bytes c.args.frame.now) h (8 * c.args.stop) c.args.kind c.read_fields.new.values.items c.in_ok-tail.tail.octets c.children.children.items c.as_slice-in-children.result.now outer (8 * c.children.at) c.as_slice-in-children.ensures.value (c.children.invariant.read h outer k l st)) in
      let here : Begun = begin_node h (8 * c.args.stop) (spread (fields_of c.args.kind) c.read_fields.new.values.items) (as_read (tail_of c.args.kind) c.in_ok-tail.tail.octets) (forest c.as_slice-in-children.result.now) in
      c.in_ok-at.ensures.read o.0 here outer o.1 (ap forest c.as_slice-in-children.ensures.value) o.2;
}

pub read_body-read_tlv-requires : goal.read_body-read_tlv-requires
read_body-read_tlv-requires t c =
    let w = c.requires.begins in
    let o = c.in_ok-child.ensures.begun w.head w.outer (spread (fields_of c.args.kind) c.read_fields.new.values.items) (as_read (tail_of c.args.kind) c.in_ok-tail.tail.octets) w.of_kind w.at_level (rest_due w.head (8 * c.args.stop) c.args.kind c.read_fields.new.values.items c.in_ok-tail.tail.octets (forest c.as_slice-in-children.result.now) w.of_kind) (with_siblings (digits_of_bytes c.args.frame.now) w.head (8 * c.args.stop) c.args.kind c.read_fields.new.values.items c.in_ok-tail.tail.octets c.children.children.items c.as_slice-in-children.result.now w.outer (8 * c.children.at) c.as_slice-in-children.ensures.value (c.children.invariant.read w.head w.outer w.of_kind w.at_level w.stands)) in
    let here : Begun = begin_node w.head (8 * c.args.stop) (spread (fields_of c.args.kind) c.read_fields.new.values.items) (as_read (tail_of c.args.kind) c.in_ok-tail.tail.octets) (forest c.as_slice-in-children.result.now) in
    let begins : BeginsBehind c.args.frame.now c.in_ok-child.child.kind (forest c.children.children.items) (c.args.level + 1) c.in_ok-child.child.at c.in_ok-child.child.stop = record { head = o.0; parent = here; outer = w.outer; of_kind = o.1; behind = ap forest c.as_slice-in-children.ensures.value; at_level = omega (arith, w.at_level); stands = o.2 } in
    let within = c.in_ok-child.ensures.within in
    (search rules, (search rules, (omega (arith, c.requires.behind, c.children.invariant.after, within), (within.1, (c.requires.small, (omega (arith, c.requires.inside, within), (omega (arith, within), begins)))))))

pub read_body-returns-in_err-at-2-clause-read : goal.read_body-returns-in_err-at-2-clause-read
read_body-returns-in_err-at-2-clause-read t c = λ h outer k l st.
    let o = c.in_ok-child.ensures.begun h outer (spread (fields_of c.args.kind) c.read_fields.new.values.items) (as_read (tail_of c.args.kind) c.in_ok-tail.tail.octets) k l (rest_due h (8 * c.args.stop) c.args.kind c.read_fields.new.values.items c.in_ok-tail.tail.octets (forest c.as_slice-in-children.result.now) k) (with_siblings (digits_of_bytes c.args.frame.now) h (8 * c.args.stop) c.args.kind c.read_fields.new.values.items c.in_ok-tail.tail.octets c.children.children.items c.as_slice-in-children.result.now outer (8 * c.children.at) c.as_slice-in-children.ensures.value (c.children.invariant.read h outer k l st)) in
    let here : Begun = begin_node h (8 * c.args.stop) (spread (fields_of c.args.kind) c.read_fields.new.values.items) (as_read (tail_of c.args.kind) c.in_ok-tail.tail.octets) (forest c.as_slice-in-children.result.now) in
    let p = err_from_is_err_and c.from_residual-in_err-at-2.result c.from_residual-in_err-at-2.ensures.1 in
    rw (p.1, p.2) (c.in_err-at-2.ensures.read o.0 here outer o.1 (ap forest c.as_slice-in-children.ensures.value) (omega (arith, l)) o.2)

pub read_body-children-preserved : goal.read_body-children-preserved
read_body-children-preserved t c = record {
  after = omega (arith, c.in_ok-at-2.ensures.within, c.in_ok-child.ensures.within, c.children.invariant.after);
  before = omega (arith, c.in_ok-at-2.ensures.within, c.in_ok-child.ensures.within);
  read = λ h outer k l st.
      let o = c.in_ok-child.ensures.begun h outer (spread (fields_of c.args.kind) c.read_fields.new.values.items) (as_read (tail_of c.args.kind) c.in_ok-tail.tail.octets) k l (rest_due h (8 * c.args.stop) c.args.kind c.read_fields.new.values.items c.in_ok-tail.tail.octets (forest c.as_slice-in-children.result.now) k) (with_siblings (digits_of_bytes c.args.frame.now) h (8 * c.args.stop) c.args.kind c.read_fields.new.values.items c.in_ok-tail.tail.octets c.children.children.items c.as_slice-in-children.result.now outer (8 * c.children.at) c.as_slice-in-children.ensures.value (c.children.invariant.read h outer k l st)) in
      let here : Begun = begin_node h (8 * c.args.stop) (spread (fields_of c.args.kind) c.read_fields.new.values.items) (as_read (tail_of c.args.kind) c.in_ok-tail.tail.octets) (forest c.as_slice-in-children.result.now) in
      c.in_ok-at-2.ensures.read o.0 here outer o.1 (ap forest c.as_slice-in-children.ensures.value) (omega (arith, l)) o.2;
}

pub read_body-returns-then-not-enough-clause-read : goal.read_body-returns-then-not-enough-clause-read
read_body-returns-then-not-enough-clause-read t c = λ h outer k l st.
    missing_tells (digits_of_bytes c.args.frame.now) h (8 * c.args.stop) c.args.kind c.read_fields.new.values.items c.in_ok-tail.tail.octets c.children.children.items outer (8 * c.children.at) k (c.children.invariant.read h outer k l st)
    (inr (omega (arith, c.children-test.false)))
    c.bad.result (ap (λ (gs : List GroupRule). none_missing gs c.children.children.items) (sym c.groups.ensures) ∙ ap (λ (ts : List Tree). none_missing (map group_rule c.groups.result.now) ts) (sym c.as_slice-2.ensures.value) ∙ sym c.none_missing-enough.ensures ∙ (cc (c.if-not-enough.true))) c.bad.ensures

pub read_body-returns-clause-read : goal.read_body-returns-clause-read
read_body-returns-clause-read t c = λ h outer k l st.
    subst (λ (ts : List Tree). Closes (digits_of_bytes c.args.frame.now) (open_body h (8 * c.args.stop) c.args.kind c.read_fields.new.values.items c.in_ok-tail.tail.octets (forest ts)) outer (8 * c.children.at)) (sym c.new.ensures)
    (closes_here (digits_of_bytes c.args.frame.now) h (8 * c.args.stop) c.args.kind c.read_fields.new.values.items c.in_ok-tail.tail.octets c.children.children.items outer (8 * c.children.at) k (c.children.invariant.read h outer k l st)
    (inr (omega (arith, c.children-test.false)))
    (ap (λ (gs : List GroupRule). none_missing gs c.children.children.items) (sym c.groups.ensures) ∙ ap (λ (ts : List Tree). none_missing (map group_rule c.groups.result.now) ts) (sym c.as_slice-2.ensures.value) ∙ sym c.none_missing-enough.ensures ∙ (cc (c.if-not-enough.false))))

pub read_tlv-of_octets-requires-clause-lawful : goal.read_tlv-of_octets-requires-clause-lawful
read_tlv-of_octets-requires-clause-lawful t c =
    let w = c.requires.begins in
    let b = c.in_ok-body.body in
    child_lawful (digits_of_bytes c.args.frame.now) w.parent.head w.parent.stop w.parent.fields w.parent.tail w.parent.children w.outer (8 * b.at) c.args.child.kind c.read_body.new.fields.items b.tail (forest b.children)
    (child_stands (digits_of_bytes c.args.frame.now) w.parent w.outer (8 * b.at) w.head (8 * c.args.child.stop) c.args.child.kind c.read_body.new.fields.items b.tail (forest b.children) w.of_kind c.in_ok-body.ensures.count c.in_ok-body.ensures.whole (c.in_ok-body.ensures.read w.head (w.parent ∷ w.outer) w.of_kind w.at_level w.stands))

pub read_tlv-of_octets-requires-clause-long : goal.read_tlv-of_octets-requires-clause-long
read_tlv-of_octets-requires-clause-long t c =
    let w = c.requires.begins in
    let b = c.in_ok-body.body in
    let four : head_octets c.args.child.kind ≡ 4 = ap (λ (x : Bool). if x then 1 else 4) c.requires.long in
    let all = child_octets (digits_of_bytes c.args.frame.now) w.parent w.outer (8 * c.args.child.at) (8 * b.at) w.head (8 * c.args.child.stop) c.args.child.kind c.read_body.new.fields.items b.tail (forest b.children) w.of_kind w.stands
    (child_stands (digits_of_bytes c.args.frame.now) w.parent w.outer (8 * b.at) w.head (8 * c.args.child.stop) c.args.child.kind c.read_body.new.fields.items b.tail (forest b.children) w.of_kind c.in_ok-body.ensures.count c.in_ok-body.ensures.whole (c.in_ok-body.ensures.read w.head (w.parent ∷ w.outer) w.of_kind w.at_level w.stands)) in
    omega (arith, all, four, c.in_ok-body.ensures.within)

pub read_tlv-returns-clause-read : goal.read_tlv-returns-clause-read
read_tlv-returns-clause-read t c = λ h parent outer k s l st.
    let b = c.in_ok-body.body in
    child_pushed (digits_of_bytes c.args.frame.now) parent outer c.args.siblings.now.items c.push.new.self.items c.of_octets.result (8 * b.at) c.args.child.kind c.read_body.new.fields.items b.tail (forest b.children) s c.of_octets.ensures c.in_ok-push.ensures.items
    (child_stands (digits_of_bytes c.args.frame.now) parent outer (8 * b.at) h (8 * c.args.child.stop) c.args.child.kind c.read_body.new.fields.items b.tail (forest b.children) k c.in_ok-body.ensures.count c.in_ok-body.ensures.whole (c.in_ok-body.ensures.read h (parent ∷ outer) k l st))
