use Rattle.std.proofs.Common.{ap, ◌∙◌, arith}
use Rattle.json.specs.Value.{value_view}
use Rattle.llrp_json_read.specs.Private.Words.{is_readable}
use Rattle.llrp_json_read.proofs.FieldTexts.{field_fits, field_passes, field_refused, field_said, fields_all, reserved_kept}
use Rattle.llrp_json_read.proofs.numbers.read_fields.Goals.{then-not-rule+in-Ok, else-not-rule}
use Rattle.llrp_json_read.proofs.numbers.read_fields.Goals as goal

pub read_field-requires : goal.read_field-requires
read_field-requires c = field_passes is_readable c.args.rules.now c.loop-rule.rule-index _ c.loop-rule.invariant.front c.loop-rule.invariant.split (omega arith) c.if-not-rule.true c.requires.readable

pub push-requires : goal.push-requires
push-requires c = (omega arith, field_fits c.args.rules.now c.loop-rule.rule-index _ c.loop-rule.invariant.front (value_view c.args.object.now) c.loop-rule.fields.items c.loop-rule.invariant.split (omega arith) c.if-not-rule.true c.loop-rule.invariant.said c.requires.few)

pub returns-in-Err : goal.returns-in-Err
returns-in-Err c = field_refused c.args.rules.now c.loop-rule.rule-index _ c.loop-rule.invariant.front (value_view c.args.object.now) c.loop-rule.fields.items c.field_name.result.now c.in-Err.reason c.loop-rule.invariant.split (omega arith) c.if-not-rule.true c.loop-rule.invariant.said c.field_name.ensures c.in-Err.ensures

pub loop-rule-preserved : goal.loop-rule-preserved
loop-rule-preserved c =
    let l = c.loop-rule in
    let j = value_view c.args.object.now in
    elim c.if-not-rule.branch [
      | then-not-rule+in-Ok w ↦ (let s = field_said c.args.rules.now l.rule-index _ l.invariant.front j l.fields.items c.if-not-rule.fields.items w.in-Ok.number l.invariant.split (omega arith) w.if-not-rule.true l.invariant.said w.in-Ok.ensures (ap (λ v. v.items) w.fields-is ∙ w.push.ensures.items) in record { front = s.0; said = s.1; split = s.2 })
      | else-not-rule w ↦ (let s = reserved_kept c.args.rules.now l.rule-index _ l.invariant.front j l.fields.items c.if-not-rule.fields.items l.invariant.split (omega arith) w.if-not-rule.false l.invariant.said (ap (λ v. v.items) w.fields-is) in record { front = s.0; said = s.1; split = s.2 })
    ]

pub returns : goal.returns
returns c = fields_all c.args.rules.now c.loop-rule.rule-index c.loop-rule.invariant.front (value_view c.args.object.now) c.loop-rule.fields.items c.loop-rule.invariant.split (omega arith) c.loop-rule.invariant.said
