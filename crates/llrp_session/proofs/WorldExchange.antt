-- A worked exchange of the two ends, computed on the world: three tags, reported after two and on request.
use Rattle.std.proofs.Common.{◌≡◌, ℕ, refl, List, [], ◌∷◌, ◌++◌}
use Rattle.std.specs.Prelude.{Some, negsuc}
use Rattle.llrp_schema.specs.Schema.{number_of, rule_of, param_rule, fields_of, tail_of, is_tv, key_of, set_of_kind}
use Rattle.llrp_tree.specs.Tree.{Tree}
use Rattle.llrp_tree.specs.Lawful.{body_octets}
use Rattle.llrp_session.specs.RoSpec.{rospec_of, report_spec_of}
use Rattle.llrp_session.specs.Table.{Active, change_view, view_without, enter_view, viewed_state, change, without, enter, state_of, octets_of, active, first_immediate}
use Rattle.llrp_session.specs.TagReport.{tag_report}
use Rattle.llrp_session.specs.Contents.{Command, Add, Delete, Start, Stop, Enable, GetReport, Close}
use Rattle.llrp_session.specs.ReaderMachine.{Down, next, serve, end, configured, see, tick}
use Rattle.llrp_session.specs.ClientMachine.{Closed, take, command}
use Rattle.llrp_session.specs.Sightings.{tags_of}
use Rattle.llrp_session.specs.Calls.World.{World, run, opening}
use Rattle.llrp_session.specs.World.{WorldEvent, Connects, Commands, DeliversUp, DeliversDown, Sees}
use Rattle.llrp_session.specs.Calls.Agreement.{requests, responses}
use Rattle.llrp_session.proofs.Examples.{reporting_rospec, sighting_of, tag_data, first_sighting, first_report}

-- a command, taken at a moment, and the one message that answers it
abbrev asked : ℕ → Command → List WorldEvent
asked now k = Commands k ∷ DeliversUp now ∷ DeliversDown ∷ []

-- the reader accepts the client; ROSpec 1, which reports after two tags, is added, enabled and started
abbrev started : List WorldEvent
started = Connects 0 ∷ DeliversDown ∷ [] ++ asked 0 (Add (reporting_rospec 2 2)) ++ asked 0 (Enable 1) ++ asked 0 (Start 1)

-- at moments 1,000 to 3,000 three tags are seen, at antennas 1, 1 and 2
abbrev seen : List WorldEvent
seen = Sees 1000 first_sighting ∷ Sees 2000 (sighting_of 1 (negsuc 60) 0x3114257BF400000001000000) ∷ Sees 3000 (sighting_of 2 (negsuc 61) 0x350000001000002000000003) ∷ []

-- the Start event and the first report are taken, the rest is asked for
abbrev gathered : List WorldEvent
gathered = DeliversDown ∷ DeliversDown ∷ [] ++ asked 3000 GetReport

-- the ROSpec is stopped (its End event comes before the response), deleted, and the connection is closed
abbrev closed_down : List WorldEvent
closed_down = asked 3000 (Stop 1) ++ DeliversDown ∷ [] ++ asked 3000 (Delete 1) ++ asked 3000 Close

abbrev second_report : Tree
second_report = tag_data 0x3114257BF400000001000000 1 0xC3

abbrev third_report : Tree
third_report = tag_data 0x350000001000002000000003 2 0xC2

abbrev world_after : List WorldEvent → World
world_after events = run events (opening 65536 1 1)

-- after the first report two tags are delivered, and one is held
pub first_two : ((world_after (started ++ seen ++ DeliversDown ∷ DeliversDown ∷ [])).handed_out ≡ first_report ∷ second_report ∷ [])
    × ((world_after (started ++ seen ++ DeliversDown ∷ DeliversDown ∷ [])).reader.held ≡ third_report ∷ [])
    × (viewed_state 1 (world_after (started ++ seen ++ DeliversDown ∷ DeliversDown ∷ [])).client.view ≡ Some Active)
unfolding take command change_view view_without enter_view viewed_state next serve end configured see tick change without enter state_of octets_of active first_immediate rospec_of report_spec_of tag_report number_of key_of set_of_kind rule_of param_rule fields_of tail_of is_tv body_octets tags_of requests responses
first_two = (refl, refl, refl)

-- in the end all three are delivered in order, both ends are closed, and nothing is on the way
pub loop_three_tags : ((world_after (started ++ seen ++ gathered ++ closed_down)).handed_out ≡ first_report ∷ second_report ∷ third_report ∷ [])
    × ((world_after (started ++ seen ++ gathered ++ closed_down)).client.phase ≡ Closed)
    × ((world_after (started ++ seen ++ gathered ++ closed_down)).reader.phase ≡ Down)
    × ((world_after (started ++ seen ++ gathered ++ closed_down)).up ≡ [])
    × ((world_after (started ++ seen ++ gathered ++ closed_down)).down ≡ [])
unfolding take command change_view view_without enter_view viewed_state next serve end configured see tick change without enter state_of octets_of active first_immediate rospec_of report_spec_of tag_report number_of key_of set_of_kind rule_of param_rule fields_of tail_of is_tv body_octets tags_of requests responses
loop_three_tags = (refl, refl, refl, refl, refl)
