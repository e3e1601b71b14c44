use Rattle.std.proofs.Common.{arith}
use Rattle.llrp_listing.proofs.TailLemmas.{none_done, one_done, all_done, pair_in, octets_back, first_octet, second_octet}
use Rattle.llrp_tree.proofs.OctetLemmas.{are_octets}
use Rattle.llrp_listing.proofs.printing.tails.push_words.Goals as goal

pub loop-rest-init : goal.loop-rest-init
loop-rest-init c = none_done c.args.octets.now c.args.text.now

pub loop-rest-preserved : goal.loop-rest-preserved
loop-rest-preserved c =
    let w = c.loop-rest.invariant in
    let os = are_octets c.args.octets.now c.type_inv.octets in
    let rest_os = (octets_back w.done c.loop-rest.rest.now c.args.octets.now os w.parts) in
    let p = pair_in c.loop-rest.rest.now _ _ c.split_at.ensures.front c.split_at.ensures.back c.loop-rest-test.true in
    one_done _ _ _ _ _ _ _ _ w p (first_octet _ _ _ _ rest_os p) (second_octet _ _ _ _ rest_os p) c.in_ok-push_word.ensures

pub returns : goal.returns
returns c = λ n e. all_done _ _ _ _ n c.loop-rest.invariant (omega arith) e
