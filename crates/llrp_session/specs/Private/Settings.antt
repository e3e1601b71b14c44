-- What the code reads in a ROSpec, as the definitions have it.
use Rattle.llrp_session.specs.RoSpec.{RoSpec}
use Rattle.llrp_session.specs.declared.parse.parsed.Settings.{Settings}

-- what is read in a ROSpec, all but its antennas
abbrev pub settings_of : RoSpec → Settings
settings_of s = record {
  id = s.id;
  current_state = s.current_state;
  start_trigger = s.start_trigger;
  stop_trigger = s.stop_trigger;
  duration = s.duration;
  has_ai_stop = s.has_ai_stop;
  inventory = s.inventory;
  report = s.report;
  octets = s.octets;
}
