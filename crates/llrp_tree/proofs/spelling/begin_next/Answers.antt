use Rattle.std.proofs.Common.{◌-◌, ◌∙◌, List, length, take, drop, arith, subst}
use Rattle.std.specs.Borrow.{Bor}
use Rattle.llrp_tree.specs.Tree.{Tree}
use Rattle.llrp_tree.specs.Private.HeadOctets.{AreDeep}
use Rattle.llrp_tree.proofs.SpelledLemmas.{AreDeep-pop, row_parts, others_fit, children_fit, begun_octets}
use Rattle.llrp_tree.proofs.spelling.begin_next.Goals as goal

pub unreachable-requires-in_default-row : goal.unreachable-requires-in_default-row
unreachable-requires-in_default-row c =
    let deep = AreDeep-pop 0 c.pop.new.self.items c.in-Some.row (subst (λ (x : List (Bor (List Tree))). AreDeep 0 x) c.in-Some.ensures.items c.requires.deep) in
    omega (arith, deep.1, c.in_default-row.len_below)

pub put_off-requires-clause-deep : goal.put_off-requires-clause-deep
put_off-requires-clause-deep c =
    let deep = AreDeep-pop 0 c.pop.new.self.items c.in-Some.row (subst (λ (x : List (Bor (List Tree))). AreDeep 0 x) c.in-Some.ensures.items c.requires.deep) in
    deep.0

pub put_off-requires-clause-level : goal.put_off-requires-clause-level
put_off-requires-clause-level c =
    let row : List Tree = c.in-Some.row.now in
    let t : Tree = c.node-item.result in
    let deep = AreDeep-pop 0 c.pop.new.self.items c.in-Some.row (subst (λ (x : List (Bor (List Tree))). AreDeep 0 x) c.in-Some.ensures.items c.requires.deep) in
    others_fit (length c.pop.new.self.items) row (take (length row - 1) (drop 1 row)) t (row_parts row t c.in-len1-up.len_at_least c.node-item.is) (omega (arith, deep.2))

pub put_off-requires-2-clause-level : goal.put_off-requires-2-clause-level
put_off-requires-2-clause-level c =
    let row : List Tree = c.in-Some.row.now in
    let t : Tree = c.node-item.result in
    let deep = AreDeep-pop 0 c.pop.new.self.items c.in-Some.row (subst (λ (x : List (Bor (List Tree))). AreDeep 0 x) c.in-Some.ensures.items c.requires.deep) in
    children_fit (length c.pop.new.self.items) (length c.put_off.new.rows.items) row (take (length row - 1) (drop 1 row)) c.as_slice.result.now t
    (row_parts row t c.in-len1-up.len_at_least c.node-item.is) (c.as_slice.ensures ∙ c.children.ensures) (omega (arith, deep.2)) c.put_off.ensures.length

pub returns-clause-octets : goal.returns-clause-octets
returns-clause-octets c =
    let row : List Tree = c.in-Some.row.now in
    let t : Tree = c.node-item.result in
    begun_octets c.args.rows.now.items c.pop.new.self.items c.in-Some.row (take (length row - 1) (drop 1 row)) t c.start_of-start.result.octets c.start_of-start.result.from c.as_slice-2.result.now c.as_slice.result.now _ _
    c.in-Some.ensures.items (row_parts row t c.in-len1-up.len_at_least c.node-item.is) c.start_of-start.ensures.spelled
    (c.as_slice-2.ensures.value ∙ c.tail.ensures) c.as_slice-2.ensures.octets (c.as_slice.ensures ∙ c.children.ensures) c.put_off.ensures.octets c.put_off-2.ensures.octets
