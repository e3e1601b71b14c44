use Rattle.std.proofs.Common.{arith}
use Rattle.llrp_session.proofs.ReportLemmas.{epc_part, rospec_id_part, spec_index_part, inventory_part, antenna_part, channel_part, rssi_part, first_seen_part, last_seen_part, seen_count_part}
use Rattle.llrp_session.proofs.build.tag_report.Parts.push_all.Goals as goal

pub push_if-requires : goal.push_if-requires
push_if-requires c = (epc_part c.number.result c.number.ensures.below).lawful

pub push_if-requires-2 : goal.push_if-requires-2
push_if-requires-2 c = (rospec_id_part c.settings.result.now.id (omega arith)).lawful

pub push_if-requires-3 : goal.push_if-requires-3
push_if-requires-3 c = (spec_index_part 1 (omega arith)).lawful

pub push_if-requires-4 : goal.push_if-requires-4
push_if-requires-4 c = (inventory_part c.settings-2.result.now.inventory (omega arith)).lawful

pub push_if-requires-5 : goal.push_if-requires-5
push_if-requires-5 c = (antenna_part c.args.sighting.now.antenna (omega arith)).lawful

pub push_if-requires-6 : goal.push_if-requires-6
push_if-requires-6 c = (channel_part 1 (omega arith)).lawful

pub push_if-requires-7 : goal.push_if-requires-7
push_if-requires-7 c = (rssi_part c.signed_octet-rssi.result (omega arith)).lawful

pub push_if-requires-8 : goal.push_if-requires-8
push_if-requires-8 c = (first_seen_part c.args.now (omega arith)).lawful

pub push_if-requires-9 : goal.push_if-requires-9
push_if-requires-9 c = (last_seen_part c.args.now (omega arith)).lawful

pub push_if-requires-10 : goal.push_if-requires-10
push_if-requires-10 c = (seen_count_part 1 (omega arith)).lawful
