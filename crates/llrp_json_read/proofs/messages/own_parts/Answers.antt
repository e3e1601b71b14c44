use Rattle.json.specs.Value.{value_view}
use Rattle.llrp_json_read.proofs.MessageSteps.{message_kind_refused, message_members_refused, message_parts_said, message_values_refused, start_refused}
use Rattle.llrp_json_read.proofs.messages.own_parts.Goals as goal

pub returns-in-Err : goal.returns-in-Err
returns-in-Err c = message_kind_refused c.args.set (value_view c.args.value.now) c.in-Err.error c.in-Err.ensures

pub returns-in-Err-check_members : goal.returns-in-Err-check_members
returns-in-Err-check_members c = message_members_refused c.args.set c.in-Ok.kind (value_view c.args.value.now) c.in-Err-check_members.error c.in-Ok.ensures c.in-Err-check_members.ensures

pub returns-in-Err-read_start : goal.returns-in-Err-read_start
returns-in-Err-read_start c = start_refused c.args.set c.in-Ok.kind (value_view c.args.value.now) c.in-Err-read_start.error c.in-Ok.ensures c.in-Ok-check_members.ensures c.in-Err-read_start.ensures

pub returns-in-Ok-read_values : goal.returns-in-Ok-read_values
returns-in-Ok-read_values c =
    message_parts_said c.args.set c.in-Ok.kind (value_view c.args.value.now) c.in-Ok-read_start.start.0 c.in-Ok-read_start.start.1 c.in-Ok-read_values.fields.items c.in-Ok-read_values.tail c.in-Ok.ensures c.in-Ok-check_members.ensures c.in-Ok-read_start.ensures c.in-Ok-read_values.ensures

pub returns-in-Err-read_values : goal.returns-in-Err-read_values
returns-in-Err-read_values c = message_values_refused c.args.set c.in-Ok.kind (value_view c.args.value.now) c.in-Ok-read_start.start.0 c.in-Ok-read_start.start.1 c.in-Err-read_values.error c.in-Ok.ensures c.in-Ok-check_members.ensures c.in-Ok-read_start.ensures c.in-Err-read_values.ensures
