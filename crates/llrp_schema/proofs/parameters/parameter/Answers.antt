use Rattle.std.proofs.Common.{rules}
use Rattle.llrp_schema.proofs.parameters.parameter.Goals as goal

pub returns-in-AntennaConfiguration : goal.returns-in-AntennaConfiguration
unfolding Rattle.llrp_schema.specs.Schema.param_rule
returns-in-AntennaConfiguration c = search rules

pub returns-in-EventsAndReports : goal.returns-in-EventsAndReports
unfolding Rattle.llrp_schema.specs.Schema.param_rule
returns-in-EventsAndReports c = search rules

pub returns-in-RfReceiver : goal.returns-in-RfReceiver
unfolding Rattle.llrp_schema.specs.Schema.param_rule
returns-in-RfReceiver c = search rules

pub returns-in-RfTransmitter : goal.returns-in-RfTransmitter
unfolding Rattle.llrp_schema.specs.Schema.param_rule
returns-in-RfTransmitter c = search rules

pub returns-in-RoSpec : goal.returns-in-RoSpec
unfolding Rattle.llrp_schema.specs.Schema.param_rule
returns-in-RoSpec c = search rules
