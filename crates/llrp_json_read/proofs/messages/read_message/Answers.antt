use Rattle.std.proofs.Common.{ℕ, List, subst}
use Rattle.json.specs.Value.{value_view}
use Rattle.llrp_json_read.proofs.MessageSteps.{IsMessageMade, message_below_refused, message_made, own_message_refused}
use Rattle.llrp_json_read.proofs.messages.read_message.Goals as goal

pub returns-in-Err : goal.returns-in-Err
returns-in-Err c = own_message_refused c.args.set (value_view c.args.value.now) c.in-Err.error c.in-Err.ensures

pub returns-in-Err-read_below : goal.returns-in-Err-read_below
returns-in-Err-read_below c =
    let own = c.in-Ok.parts in
    message_below_refused c.args.set own.kind (value_view c.args.value.now) own.version own.id own.fields.items own.tail c.in-Err-read_below.error c.in-Ok.ensures c.in-Err-read_below.ensures

pub returns : goal.returns
returns c =
    let own = c.in-Ok.parts in
    message_made c.args.set own.kind (value_view c.args.value.now) own.version own.id own.fields.items own.tail c.in-Ok-read_below.children c.made_message.result c.in-Ok.ensures c.in-Ok-read_below.ensures
    (subst (λ (fields : List ℕ). IsMessageMade own.kind own.version own.id fields own.tail c.in-Ok-read_below.children c.made_message.result) c.as_slice.ensures.value c.made_message.ensures)
