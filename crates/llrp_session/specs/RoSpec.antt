-- What a reader reads in a ROSpec and in a ROReportSpec (LLRP 1.1, sections 11 and 14).
use Rattle.std.specs.Prelude.{ℕ, ◌==◌, Bool, not, List, [], filter, find, slice_index, Option, None, Some, option_and_then}
use Rattle.std.specs.List.{list_any}
use Rattle.llrp_schema.specs.declared.kinds.ParamKind.{ParamKind}
use Rattle.llrp_schema.specs.declared.kinds.ParamKind.TheVariants.{RoBoundarySpec, RoSpecStartTrigger, RoSpecStopTrigger, AiSpec, AiSpecStopTrigger, InventoryParameterSpec, RoReportSpec, TagReportContentSelector}
use Rattle.llrp_schema.specs.Schema.{key_of}
use Rattle.llrp_tree.specs.Tree.{Tree, Forest, trees, words_of}
use Rattle.llrp_tree.specs.Lawful.{tree_octets}
pub use Rattle.llrp_session.specs.declared.types.ContentSelector.{ContentSelector}
pub use Rattle.llrp_session.specs.declared.types.ReportSpec.{ReportSpec}

-- ---- the parts of a parameter

abbrev pub is_kind : ParamKind → Tree → Bool
is_kind kind t = key_of kind == key_of t.kind

-- among parameters in a row, those of a kind, in their order
abbrev pub all_in : ParamKind → Forest → List Tree
all_in kind row = filter (is_kind kind) (trees row)

-- the first one of a kind
abbrev pub first_in : ParamKind → Forest → Option Tree
first_in kind row = find (is_kind kind) (trees row)

-- the first child of a kind
abbrev pub first_of : ParamKind → Tree → Option Tree
first_of kind t = first_in kind t.children

-- the first child of a kind below a parameter that may be absent
abbrev pub first_below : ParamKind → Option Tree → Option Tree
first_below kind o = option_and_then (first_of kind) o

-- the plain field at a place; 0 where there is none
abbrev pub field_of : ℕ → Option Tree → ℕ
field_of i None = 0
field_of i (Some t) = slice_index t.fields i

-- a field of one bit
abbrev pub flag : ℕ → Option Tree → Bool
flag i o = field_of i o == 1

-- the words of 16 bits that are in the tail
abbrev pub words_in : Option Tree → List ℕ
words_in None = []
words_in (Some t) = words_of t.tail

-- ---- ROReportSpec

abbrev pub selector_in : Option Tree → ContentSelector
selector_in o = record {
  rospec_id = flag 0 o;
  spec_index = flag 1 o;
  inventory_parameter_spec_id = flag 2 o;
  antenna_id = flag 3 o;
  channel_index = flag 4 o;
  peak_rssi = flag 5 o;
  first_seen = flag 6 o;
  last_seen = flag 7 o;
  tag_seen_count = flag 8 o;
}

-- what is read in a ROReportSpec; AccessSpecID and C1G2EPCMemorySelector are passed over
unfoldable pub report_spec_of : Tree → ReportSpec
report_spec_of t = record {
  trigger = field_of 0 (Some t);
  n = field_of 1 (Some t);
  selector = selector_in (first_of TagReportContentSelector t);
}

abbrev pub report_spec_where : Option Tree → Option ReportSpec
report_spec_where None = None
report_spec_where (Some t) = Some (report_spec_of t)

-- what is read in the first ROReportSpec of a row
abbrev pub report_spec_in : Forest → Option ReportSpec
report_spec_in row = report_spec_where (first_in RoReportSpec row)

-- ---- ROSpec

pub record RoSpec : Type 0 where
  pub tree : Tree  -- the ROSpec as it was added
  pub id : ℕ
  pub current_state : ℕ
  pub start_trigger : ℕ
  pub stop_trigger : ℕ
  pub duration : ℕ  -- of the stop trigger, in milliseconds
  pub has_ai_stop : Bool  -- an AISpec has a stop trigger other than 0
  pub antennas : List ℕ  -- of the first AISpec
  pub inventory : ℕ  -- the InventoryParameterSpecID of its first InventoryParameterSpec
  pub report : Option ReportSpec
  pub octets : ℕ

abbrev pub stops_by_itself : Tree → Bool
stops_by_itself ai_spec = not (field_of 0 (first_of AiSpecStopTrigger ai_spec) == 0)

unfoldable pub rospec_of : Tree → RoSpec
rospec_of t =
    let boundary = first_of RoBoundarySpec t in
    let ai_spec = first_of AiSpec t in
    record {
      tree = t;
      id = field_of 0 (Some t);
      current_state = field_of 2 (Some t);
      start_trigger = field_of 0 (first_below RoSpecStartTrigger boundary);
      stop_trigger = field_of 0 (first_below RoSpecStopTrigger boundary);
      duration = field_of 1 (first_below RoSpecStopTrigger boundary);
      has_ai_stop = list_any stops_by_itself (all_in AiSpec t.children);
      antennas = words_in ai_spec;
      inventory = field_of 0 (first_below InventoryParameterSpec ai_spec);
      report = report_spec_in t.children;
      octets = tree_octets t;
    }
