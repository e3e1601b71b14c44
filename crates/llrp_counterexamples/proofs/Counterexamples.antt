-- Lists of events that lead two ends with a mistake to where they do not agree, computed on the world: limit 65,536, first ids 1.
use Rattle.std.proofs.Common.{◌≡◌, ◌≤◌, refl, ap, ◌∙◌, List, [], ◌∷◌, ◌++◌, length, arith}
use Rattle.std.specs.Prelude.{Bool, true, false, negsuc}
use Rattle.llrp_schema.specs.Schema.{number_of, rule_of, param_rule, fields_of, tail_of, is_tv, key_of, set_of_kind}
use Rattle.llrp_tree.specs.Tree.{Tree}
use Rattle.llrp_tree.specs.Lawful.{body_octets}
use Rattle.llrp_session.specs.RoSpec.{rospec_of, report_spec_of}
use Rattle.llrp_session.specs.Table.{active_count, is_disabled, change_view, view_without, enter_view, viewed_state, change, without, enter, state_of, octets_of, active, first_immediate}
use Rattle.llrp_session.specs.TagReport.{tag_report}
use Rattle.llrp_session.specs.declared.types.Viewed.{Viewed}
use Rattle.llrp_session.specs.declared.types.Command.{Command}
use Rattle.llrp_session.specs.declared.types.Command.TheVariants.{Add, Start, Stop, Enable, Disable, GetReport}
use Rattle.llrp_session.specs.ReaderMachine.{next, serve, end, configured, see, tick}
use Rattle.llrp_session.specs.ClientMachine.{take, command}
use Rattle.llrp_session.specs.Sightings.{tags_of}
use Rattle.llrp_session.specs.Calls.World.{World, run, happens}
use Rattle.llrp_session.specs.World.{WorldEvent, Connects, Commands, DeliversUp, DeliversDown, Sees, Ticks}
use Rattle.llrp_session.specs.Calls.Agreement.{OneActive, ReportsArrive, ViewIsTable}
use Rattle.llrp_session.proofs.Examples.{immediate_rospec, reporting_rospec, sighting_of, first_sighting}
use Rattle.llrp_counterexamples.specs.Calls.WrongMachines.{AfterAllBy, right, happens_by, run_by, moves_on_failure, hands_out_first, tells_end_last, starts_beside}

-- ---- the same world

happens_same : (e : WorldEvent) (w : World) → happens_by right w e ≡ happens w e
happens_same (Connects now) w = refl
happens_same (Commands k) w = refl
happens_same (DeliversUp now) w = refl
happens_same DeliversDown w = refl
happens_same (Sees now g) w = refl
happens_same (Ticks now) w = refl

pub same : (events : List WorldEvent) (w : World) → run_by right events w ≡ run events w
same [] w = refl
same (e ∷ es) w = ap (run_by right es) (happens_same e w) ∙ same es (happens w e)

-- ---- the exchanges

-- a command, taken at moment 0, and the one message that answers it
abbrev asked : Command → List WorldEvent
asked k = Commands k ∷ DeliversUp 0 ∷ DeliversDown ∷ []

-- the reader accepts the client; ROSpec 1 is added and enabled
abbrev enabled : List WorldEvent
enabled = Connects 0 ∷ DeliversDown ∷ [] ++ asked (Add (reporting_rospec 0 0)) ++ asked (Enable 1)

-- it is started, and the start is reported
abbrev started : List WorldEvent
started = enabled ++ asked (Start 1) ++ DeliversDown ∷ []

-- the client sees its first ROSpec as Disabled
abbrev first_is_disabled : List Viewed → Bool
first_is_disabled [] = false
first_is_disabled (v ∷ vs) = is_disabled v.state

-- STOP_ROSPEC of a ROSpec that is not active is refused
pub view_moves : AfterAllBy moves_on_failure ViewIsTable → ⊥
unfolding take command change_view view_without enter_view viewed_state next serve end configured see tick change without enter state_of octets_of active first_immediate rospec_of report_spec_of tag_report number_of key_of set_of_kind rule_of param_rule fields_of tail_of is_tv body_octets tags_of active_count
view_moves h = let same : true ≡ false = ap first_is_disabled (h 65536 1 1 (enabled ++ asked (Stop 1)) refl) in cc

-- two tags are seen, and asked for
abbrev two_seen : List WorldEvent
two_seen = started ++ Sees 1000 first_sighting ∷ Sees 2000 (sighting_of 1 (negsuc 60) 0x3114257BF400000001000000) ∷ [] ++ asked GetReport

pub first_tag_only : AfterAllBy hands_out_first ReportsArrive → ⊥
unfolding take command change_view view_without enter_view viewed_state next serve end configured see tick change without enter state_of octets_of active first_immediate rospec_of report_spec_of tag_report number_of key_of set_of_kind rule_of param_rule fields_of tail_of is_tv body_octets tags_of active_count
first_tag_only h = let same : 1 ≡ 2 = ap length (h 65536 1 1 two_seen) in absurd (omega (arith, same))

-- the active ROSpec is disabled; the client takes the response and then the event
pub end_last : AfterAllBy tells_end_last ViewIsTable → ⊥
unfolding take command change_view view_without enter_view viewed_state next serve end configured see tick change without enter state_of octets_of active first_immediate rospec_of report_spec_of tag_report number_of key_of set_of_kind rule_of param_rule fields_of tail_of is_tv body_octets tags_of active_count
end_last h = let same : false ≡ true = ap first_is_disabled (h 65536 1 1 (started ++ asked (Disable 1) ++ DeliversDown ∷ []) refl) in cc

-- ROSpec 2, started by enabling it
abbrev second_rospec : Tree
second_rospec = record immediate_rospec { fields = 2 ∷ 0 ∷ 0 ∷ [] }

pub second_starts : AfterAllBy starts_beside OneActive → ⊥
unfolding take command change_view view_without enter_view viewed_state next serve end configured see tick change without enter state_of octets_of active first_immediate rospec_of report_spec_of tag_report number_of key_of set_of_kind rule_of param_rule fields_of tail_of is_tv body_octets tags_of active_count
second_starts h = let two : 2 ≤ 1 = h 65536 1 1 (started ++ asked (Add second_rospec) ++ asked (Enable 2)) in absurd (omega (arith, two))
