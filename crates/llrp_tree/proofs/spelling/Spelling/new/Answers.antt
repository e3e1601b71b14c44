use Rattle.std.proofs.Common.{◌++◌, ◌∙◌, List, ℕ, ap, sym, arith, length}
use Rattle.std.specs.Borrow.{Bor}
use Rattle.llrp_tree.specs.Tree.{Tree, forest}
use Rattle.llrp_tree.specs.Private.HeadOctets.{spelled, unfinished, following}
use Rattle.llrp_tree.proofs.LengthLemmas.{spelled_length}
use Rattle.llrp_tree.proofs.SpelledLemmas.{message_fit, message_spelled}
use Rattle.llrp_tree.proofs.spelling.Spelling.new.Goals as goal

pub put_off-requires-clause-level : goal.put_off-requires-clause-level
put_off-requires-clause-level c =
    message_fit (length c.new-rows.result.items) c.args.message.now c.as_slice.result.now (ap (λ (x : List (Bor (List Tree))). length x) c.new-rows.ensures) (c.as_slice.ensures ∙ c.children.ensures) c.lawful.ensures.children

pub invariant_of-result : goal.invariant_of-result
invariant_of-result c =
    let after : List ℕ = following c.put_off.new.rows.items in
    let lent : List Tree = c.as_slice.result.now in
    let q = message_spelled c.args.message.now c.start_of_message-start.result.octets c.start_of_message-start.result.from c.tail.result.now lent after c.start_of_message-start.ensures.spelled c.tail.ensures c.lawful.ensures.obeys.bytes (c.as_slice.ensures ∙ c.children.ensures)
    (c.put_off.ensures.octets ∙ ap (λ (x : List (Bor (List Tree))). spelled (forest lent) ++ following x) c.new-rows.ensures) in
    (c.length.ensures ∙ sym (spelled_length c.args.message.now (unfinished c.start_of_message-start.result.octets c.start_of_message-start.result.from c.tail.result.now ++ after) q.1), c.start_of_message-start.ensures.from, c.put_off.ensures.deep)

pub returns : goal.returns
returns c =
    let after : List ℕ = following c.put_off.new.rows.items in
    let lent : List Tree = c.as_slice.result.now in
    let q = message_spelled c.args.message.now c.start_of_message-start.result.octets c.start_of_message-start.result.from c.tail.result.now lent after c.start_of_message-start.ensures.spelled c.tail.ensures c.lawful.ensures.obeys.bytes (c.as_slice.ensures ∙ c.children.ensures)
    (c.put_off.ensures.octets ∙ ap (λ (x : List (Bor (List Tree))). spelled (forest lent) ++ following x) c.new-rows.ensures) in
    record {
      lawful = c.lawful.ensures;
      octets = q.0;
      spelled = q.1;
      short = omega (arith, spelled_length c.args.message.now (unfinished c.start_of_message-start.result.octets c.start_of_message-start.result.from c.tail.result.now ++ after) q.1, c.lawful.ensures.long);
    }
