-- Which field a reader's machine means where it refuses a request with M_FieldError (LLRP 1.1, sections 10, 11, 13 and 15).
use Rattle.std.specs.Prelude.{ℕ, ◌-◌, ◌≡◌, ◌==◌, ◌&&◌, ◌||◌, not, Bool, true, false, if◌then◌else◌, List, [], ◌∷◌, ◌++◌, length, replicate, is_none, is_some, slice_index, Option, None, Some}
use Rattle.std.specs.Option.{option_and_then, option_map}
use Rattle.llrp_schema.specs.declared.kinds.ParamKind.{ParamKind}
use Rattle.llrp_schema.specs.declared.kinds.ParamKind.TheVariants as kinds
use Rattle.llrp_schema.specs.declared.kinds.Kind.TheVariants.{Parameter}
use Rattle.llrp_schema.specs.Schema.{number_of}
use Rattle.llrp_tree.specs.declared.fault.Reason.TheVariants.{Value}
use Rattle.llrp_tree.specs.Tree.{Tree, MessageTree, trees}
use Rattle.llrp_session.specs.RoSpec.{RoSpec, rospec_of}
use Rattle.llrp_session.specs.Contents.{Config, Request, AddRoSpec, DeleteRoSpec, StartRoSpec, StopRoSpec, EnableRoSpec, DisableRoSpec, SetReaderConfig}
use Rattle.llrp_session.specs.Reading.{request_of}
use Rattle.llrp_session.specs.declared.reader.table.Entry.{Entry}
use Rattle.llrp_session.specs.Table.{active, is_active, is_inactive, state_of}
use Rattle.llrp_session.specs.ReaderMachine.{has_state, is_bad_keepalive, is_bad_report, is_known}
use Rattle.llrp_endpoints.specs.Heard.{own_message}
use Rattle.llrp_live.specs.declared.fault_places.FaultPlace.{FaultPlace}
use Rattle.llrp_live.specs.declared.refused_requests.RefusedField.{RefusedField}
use Rattle.llrp_live.specs.declared.refused_requests.RefusedField.TheVariants.{NamedId, RoSpecId, CurrentState, StartTrigger, StopTrigger, AiStopTrigger, ReportTrigger, DefaultReportTrigger, KeepalivePeriod}
use Rattle.llrp_live.specs.Calls.Starts.{is_parameter}

-- ---- which field

-- of a ROSpec that is to be added: the first that no ROSpec may have so; where there is none, its ROSpecID
abbrev pub rospec_field : RoSpec → RefusedField
rospec_field s =
    if not (s.current_state == 0) then CurrentState
    else (if (s.start_trigger == 2) || (s.start_trigger == 3) then StartTrigger
    else (if s.stop_trigger == 2 then StopTrigger
    else (if s.has_ai_stop then AiStopTrigger
    else (if is_bad_report s.report then ReportTrigger else RoSpecId))))

-- of settings
abbrev pub settings_field : Config → RefusedField
settings_field k = if is_bad_report k.report then DefaultReportTrigger else KeepalivePeriod

-- of a request
abbrev pub refused_field : Request → Option RefusedField
refused_field (AddRoSpec rospec) = Some (rospec_field (rospec_of rospec))
refused_field (SetReaderConfig k) = Some (settings_field k)
refused_field (DeleteRoSpec n) = Some NamedId
refused_field (EnableRoSpec n) = Some NamedId
refused_field (DisableRoSpec n) = Some NamedId
refused_field (StartRoSpec n) = Some NamedId
refused_field (StopRoSpec n) = Some NamedId
refused_field _ = None

-- ---- where it stands

abbrev pub number : ParamKind → ℕ
number kind = number_of (Parameter kind)

-- a field of the innermost of parameters of these types, the outermost first, or of the message; it is refused for its value
abbrev pub value_at : List ℕ → (field : ℕ) → FaultPlace
value_at types field = record {
  types = types ++ replicate (17 - length types) 0;
  depth = length types;
  field = Some field;
  reason = Value;
}

abbrev pub place_of : RefusedField → FaultPlace
place_of NamedId = value_at [] 1
place_of RoSpecId = value_at (number kinds.RoSpec ∷ []) 1
place_of CurrentState = value_at (number kinds.RoSpec ∷ []) 3
place_of StartTrigger = value_at (number kinds.RoSpec ∷ number kinds.RoBoundarySpec ∷ number kinds.RoSpecStartTrigger ∷ []) 1
place_of StopTrigger = value_at (number kinds.RoSpec ∷ number kinds.RoBoundarySpec ∷ number kinds.RoSpecStopTrigger ∷ []) 1
place_of AiStopTrigger = value_at (number kinds.RoSpec ∷ number kinds.AiSpec ∷ number kinds.AiSpecStopTrigger ∷ []) 1
place_of ReportTrigger = value_at (number kinds.RoSpec ∷ number kinds.RoReportSpec ∷ []) 1
place_of DefaultReportTrigger = value_at (number kinds.RoReportSpec ∷ []) 1
place_of KeepalivePeriod = value_at (number kinds.KeepaliveSpec ∷ []) 2

-- ---- which requests are refused so

-- the first of these messages begins with an LLRPStatus of 101, M_FieldError
abbrev pub has_field_error : List Tree → Bool
has_field_error [] = false
has_field_error (t ∷ ts) = is_parameter t kinds.LlrpStatus && (slice_index t.fields 0 == 101)

abbrev pub says_field_error : List MessageTree → Bool
says_field_error [] = false
says_field_error (m ∷ ms) = has_field_error (trees m.children)

-- the place in a message of the profile
abbrev pub place_in : MessageTree → Option FaultPlace
place_in own = option_map place_of (refused_field (request_of own))

-- the place in a request to which a reader said this; a reader takes what the profile has of it
abbrev pub refused_place : MessageTree → List MessageTree → Option FaultPlace
refused_place request said = if says_field_error said then option_and_then place_in (own_message request) else None

-- ---- that it is refused

-- such a field of a new ROSpec has a value that none may have beside this table
abbrev pub is_refused_in_rospec : List Entry → RoSpec → RefusedField → Bool
is_refused_in_rospec table s RoSpecId = (s.id == 0) || is_some (state_of s.id table)
is_refused_in_rospec table s CurrentState = not (s.current_state == 0)
is_refused_in_rospec table s StartTrigger = (s.start_trigger == 2) || (s.start_trigger == 3)
is_refused_in_rospec table s StopTrigger = s.stop_trigger == 2
is_refused_in_rospec table s AiStopTrigger = s.has_ai_stop
is_refused_in_rospec table s ReportTrigger = is_bad_report s.report
is_refused_in_rospec table s _ = false

abbrev pub is_refused_in_settings : Config → RefusedField → Bool
is_refused_in_settings k DefaultReportTrigger = is_bad_report k.report
is_refused_in_settings k KeepalivePeriod = is_bad_keepalive k.keepalive
is_refused_in_settings k _ = false

-- it names no ROSpec that can be so changed now
abbrev pub is_unnamed : List Entry → Request → Bool
is_unnamed table (DeleteRoSpec n) = not (is_known n table)
is_unnamed table (EnableRoSpec n) = not (is_known n table)
is_unnamed table (DisableRoSpec n) = not (is_known n table)
is_unnamed table (StartRoSpec n) = not (has_state is_inactive (state_of n table) && is_none (active table))
is_unnamed table (StopRoSpec n) = not (has_state is_active (state_of n table))
is_unnamed table _ = false

-- beside this table of ROSpecs a request is refused for the value of this field
abbrev pub IsRefusedFor : List Entry → Request → RefusedField → Type 0
IsRefusedFor table (AddRoSpec rospec) field = is_refused_in_rospec table (rospec_of rospec) field ≡ true
IsRefusedFor table (SetReaderConfig k) field = is_refused_in_settings k field ≡ true
IsRefusedFor table request field = (field ≡ NamedId) × (is_unnamed table request ≡ true)
