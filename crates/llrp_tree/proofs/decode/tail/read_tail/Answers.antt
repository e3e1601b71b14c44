-- The tail's checks are those of an open tree that has all fields.
use Rattle.std.proofs.Common.{rules, ◌≡◌, ◌*◌, ◌∙◌, subst, take, drop, ◌-◌}
use Rattle.std.proofs.lemmas.Result.{err_from_is_err_and}
use Rattle.tag_bits.specs.Digits.{digits_of_bytes}
use Rattle.llrp_schema.specs.declared.kinds.Tail.{Tail}
use Rattle.llrp_tree.specs.FirstFault.{tail_checks}
use Rattle.llrp_tree.specs.Private.Standing.{FailsFirst, TailSpans}
use Rattle.llrp_tree.proofs.OctetLemmas.{are_octets}
use Rattle.llrp_tree.proofs.ReadingLemmas.{tail_tells, tail_grown}
use Rattle.llrp_tree.proofs.decode.tail.read_tail.Goals as goal

pub returns-in_err-span-clause-read : goal.returns-in_err-span-clause-read
returns-in_err-span-clause-read c = λ h outer k st.
    let p = err_from_is_err_and c.from_residual.result c.from_residual.ensures.1 in
    rw (p.1, p.2) (tail_tells (digits_of_bytes c.args.frame.now) c.args.kind h (8 * c.args.stop) c.args.fields.now outer (8 * c.args.at) c.in_err-span.field-0.0 k c.requires.count st
    (subst (λ (f : Tail). FailsFirst (tail_checks f c.args.fields.now (8 * c.args.at) (8 * c.args.stop) (drop (8 * c.args.at) (digits_of_bytes c.args.frame.now))) c.in_err-span.field-0.0) c.tail.ensures c.in_err-span.ensures))

pub returns-clause-read : goal.returns-clause-read
returns-clause-read c = λ h outer k st.
    tail_grown c.args.frame.now c.args.kind h c.args.stop c.args.fields.now outer c.args.at c.in_ok-span.span.from c.in_ok-span.span.to c.new.result k c.requires.count (are_octets c.args.frame.now (λ i. c.type_inv.frame i)) c.requires.inside
    (subst (λ (f : Tail). TailSpans f c.args.fields.now (8 * c.args.at) (8 * c.args.stop) (drop (8 * c.args.at) (digits_of_bytes c.args.frame.now)) (8 * c.in_ok-span.span.from) (8 * c.in_ok-span.span.to)) c.tail.ensures c.in_ok-span.ensures)
    (let e : c.in_ok-octets.octets.items ≡ take (c.in_ok-span.span.to - c.in_ok-span.span.from) (drop c.in_ok-span.span.from c.args.frame.now) = search rules in c.new.ensures ∙ e) st
