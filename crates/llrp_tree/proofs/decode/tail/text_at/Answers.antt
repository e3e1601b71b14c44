-- The octets after the count are text, or the first that are not give the fault.
use Rattle.std.proofs.Common.{ℕ, ◌+◌, ◌-◌, ap, ◌∙◌, take, drop, arith}
use Rattle.llrp_tree.proofs.OctetLemmas.{are_octets}
use Rattle.llrp_tree.proofs.ChildLemmas.{text_spans, text_fails}
use Rattle.llrp_tree.proofs.decode.tail.text_at.Goals as goal

pub returns-in-Ok : goal.returns-in-Ok
returns-in-Ok c = λ fields.
    text_spans c.args.frame.now fields c.args.at c.args.stop c.get-length.result (are_octets c.args.frame.now (λ i. c.type_inv.frame i)) c.requires.inside c.get-length.ensures.value (omega (arith, c.if-stop-at-lt2.false, c.if-stop-at.false))
    (take (c.args.at + 2 + c.get-length.result - (c.args.at + 2)) (drop (c.args.at + 2) c.args.frame.now)) (ap (λ (k : ℕ). take k (drop (c.args.at + 2) c.args.frame.now)) (omega arith)) c.in-Ok.ensures.cases.1

pub returns-in-Err : goal.returns-in-Err
returns-in-Err c = λ fields.
    text_fails c.args.frame.now fields c.args.at c.args.stop c.get-length.result (are_octets c.args.frame.now (λ i. c.type_inv.frame i)) c.requires.inside c.get-length.ensures.value (omega (arith, c.if-stop-at-lt2.false, c.if-stop-at.false))
    (take (c.args.at + 2 + c.get-length.result - (c.args.at + 2)) (drop (c.args.at + 2) c.args.frame.now)) (ap (λ (k : ℕ). take k (drop (c.args.at + 2) c.args.frame.now)) (omega arith))
    c.valid_up_to.result c.bad-in-Err.result c.in-Err.ensures.cases.0 (c.valid_up_to.ensures ∙ c.in-Err.ensures.valid_len) c.bad-in-Err.ensures
