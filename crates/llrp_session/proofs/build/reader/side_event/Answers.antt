use Rattle.std.proofs.Common.{arith}
use Rattle.llrp_session.specs.declared.reader.side_events.SideEvent.TheVariants.{AntennaOff, AntennaOn, InputLow, InputHigh, OtherClient}
use Rattle.llrp_session.proofs.LawfulSideEvents.{antenna_lawful, input_lawful, other_lawful, lawful_with}
use Rattle.llrp_session.proofs.build.reader.side_event.Goals as goal

pub leaf-event-requires : goal.leaf-event-requires
leaf-event-requires c = antenna_lawful 0 c.in-AntennaOff.number (omega arith) (omega arith)

pub notification-requires : goal.notification-requires
notification-requires c = lawful_with c.args.version c.args.id c.args.now (AntennaOff c.in-AntennaOff.number) c.leaf-event.result c.leaf-event.ensures c.requires (omega arith) (omega arith) (omega arith)

pub leaf-event-requires-in-AntennaOn : goal.leaf-event-requires-in-AntennaOn
leaf-event-requires-in-AntennaOn c = antenna_lawful 1 c.in-AntennaOn.number (omega arith) (omega arith)

pub notification-requires-in-AntennaOn : goal.notification-requires-in-AntennaOn
notification-requires-in-AntennaOn c = lawful_with c.args.version c.args.id c.args.now (AntennaOn c.in-AntennaOn.number) c.leaf-event-in-AntennaOn.result c.leaf-event-in-AntennaOn.ensures c.requires (omega arith) (omega arith) (omega arith)

pub leaf-event-requires-in-InputLow : goal.leaf-event-requires-in-InputLow
leaf-event-requires-in-InputLow c = input_lawful c.in-InputLow.port 0 (omega arith) (omega arith)

pub notification-requires-in-InputLow : goal.notification-requires-in-InputLow
notification-requires-in-InputLow c = lawful_with c.args.version c.args.id c.args.now (InputLow c.in-InputLow.port) c.leaf-event-in-InputLow.result c.leaf-event-in-InputLow.ensures c.requires (omega arith) (omega arith) (omega arith)

pub leaf-event-requires-in-InputHigh : goal.leaf-event-requires-in-InputHigh
leaf-event-requires-in-InputHigh c = input_lawful c.in-InputHigh.port 1 (omega arith) (omega arith)

pub notification-requires-in-InputHigh : goal.notification-requires-in-InputHigh
notification-requires-in-InputHigh c = lawful_with c.args.version c.args.id c.args.now (InputHigh c.in-InputHigh.port) c.leaf-event-in-InputHigh.result c.leaf-event-in-InputHigh.ensures c.requires (omega arith) (omega arith) (omega arith)

pub leaf-event-requires-in-OtherClient : goal.leaf-event-requires-in-OtherClient
leaf-event-requires-in-OtherClient c = other_lawful

pub notification-requires-in-OtherClient : goal.notification-requires-in-OtherClient
notification-requires-in-OtherClient c = lawful_with c.args.version c.args.id c.args.now OtherClient c.leaf-event-in-OtherClient.result c.leaf-event-in-OtherClient.ensures c.requires (omega arith) (omega arith) tt
