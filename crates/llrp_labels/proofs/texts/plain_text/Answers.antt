use Rattle.std.proofs.Common.{◌≡◌, ◌∙◌, ◌+◌, ◌<◌, ◌∷◌, suc, length, length-append, ap, arith, rules}
use Rattle.llrp_labels.specs.LabelledLines.{ReadsLine}
use Rattle.llrp_labels.proofs.TextSteps.{begun, last_error, last_made, line_error, line_made, whole}
use Rattle.llrp_labels.proofs.texts.plain_text.Goals as goal

pub lines-init : goal.lines-init
lines-init c = record { so_far = begun (ReadsLine c.args.labels) c.args.text.now c.new-plain.result.items c.new-plain.ensures.items; few = search rules }

pub returns-in-Err-clause-refused : goal.returns-in-Err-clause-refused
returns-in-Err-clause-refused c =
    line_error c.args.labels c.args.text.now c.lines.rest.now c.in-Some.line.now c.in-Some.after.now c.lines.plain.items c.lines.plain.items c.push_plain.new.out.items c.lines.count c.in-Err.error c.error_at.result c.lines.invariant.so_far c.in-Some.ensures c.in-Err.ensures c.error_at.ensures

pub lines-preserved : goal.lines-preserved
lines-preserved c =
    let (made, is, grown) = c.in_default-push_plain.ensures in
    let longer : length c.lines.rest.now ≡ length c.in-Some.line.now + suc (length c.in-Some.after.now) = ap length c.in-Some.ensures.1 ∙ length-append c.in-Some.line.now (10 ∷ c.in-Some.after.now) in
    record {
      so_far =
          line_made (ReadsLine c.args.labels) c.args.text.now c.lines.rest.now c.in-Some.line.now c.in-Some.after.now c.lines.plain.items c.push_plain.new.out.items c.push.new.self.items made c.lines.count c.lines.invariant.so_far c.in-Some.ensures is grown c.in_ok-push.ensures.items;
      few = let few = c.lines.invariant.few in omega (arith, longer, few);
    }

pub returns-then-is_empty-clause-plain : goal.returns-then-is_empty-clause-plain
returns-then-is_empty-clause-plain c =
    let none : length c.lines.rest.now ≡ 0 = search rules in
    whole (ReadsLine c.args.labels) c.args.text.now c.lines.rest.now c.lines.plain.items c.lines.count c.lines.invariant.so_far none

pub returns-in-Ok-clause-plain : goal.returns-in-Ok-clause-plain
returns-in-Ok-clause-plain c =
    let (made, is, grown) = c.in-Ok.ensures in
    let some : 0 < length c.lines.rest.now = search rules in
    last_made (ReadsLine c.args.labels) c.args.text.now c.lines.rest.now c.lines.plain.items c.push_plain-2.new.out.items made c.lines.count c.lines.invariant.so_far c.in_default.ensures some is grown

pub returns-in-Err-push_plain-clause-refused : goal.returns-in-Err-push_plain-clause-refused
returns-in-Err-push_plain-clause-refused c =
    let some : 0 < length c.lines.rest.now = search rules in
    last_error c.args.labels c.args.text.now c.lines.rest.now c.lines.plain.items c.lines.plain.items c.push_plain-2.new.out.items c.lines.count c.in-Err-push_plain.error c.error_at-in-Err-push_plain.result c.lines.invariant.so_far c.in_default.ensures some c.in-Err-push_plain.ensures c.error_at-in-Err-push_plain.ensures
