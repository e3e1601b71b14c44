use Rattle.std.proofs.Common.{◌≡◌, ◌+◌, ◌<◌, length, rules}
use Rattle.llrp_labels.specs.LabelledTags.{IsLabelledTag}
use Rattle.llrp_labels.proofs.TextSteps.{begun, last_made, line_made, whole}
use Rattle.llrp_labels.proofs.tags.label_tags.Goals as goal

pub lines-init : goal.lines-init
lines-init c = (0, begun (IsLabelledTag c.args.labels c.args.json) c.args.text.now c.new-labelled.result.items c.new-labelled.ensures.items)

pub lines-preserved : goal.lines-preserved
lines-preserved c =
    let (n, so) = c.lines.invariant in
    let (made, is, grown) = c.in_ok-push_tag.ensures in (
      n + 1,
      line_made (IsLabelledTag c.args.labels c.args.json) c.args.text.now c.lines.rest.now c.in-Some.line.now c.in-Some.after.now c.lines.labelled.items c.push_tag.new.out.items c.push.new.self.items made n so c.in-Some.ensures is grown c.in_ok-push.ensures.items,
    )

pub returns-then-is_empty : goal.returns-then-is_empty
returns-then-is_empty c =
    let (n, so) = c.lines.invariant in
    let none : length c.lines.rest.now ≡ 0 = search rules in
    whole (IsLabelledTag c.args.labels c.args.json) c.args.text.now c.lines.rest.now c.lines.labelled.items n so none

pub returns : goal.returns
returns c =
    let (n, so) = c.lines.invariant in
    let (made, is, grown) = c.in_ok-push_tag-2.ensures in
    let some : 0 < length c.lines.rest.now = search rules in
    last_made (IsLabelledTag c.args.labels c.args.json) c.args.text.now c.lines.rest.now c.lines.labelled.items c.push_tag-2.new.out.items made n so c.in_default.ensures some is grown
