-- What is reported of a sighting (LLRP 1.1, section 14: TagReportData).
use Rattle.std.specs.Prelude.{ℕ, ◌-◌, Bool, List, [], ◌∷◌, ◌++◌, ℤ, pos, negsuc, if◌then◌else◌}
use Rattle.llrp_schema.specs.declared.kinds.ParamKind.{ParamKind}
use Rattle.llrp_schema.specs.declared.kinds.ParamKind.TheVariants.{TagReportData, Epc96, RoSpecId, SpecIndex, InventoryParameterSpecId, AntennaId, ChannelIndex, PeakRssi, FirstSeenTimestampUtc, LastSeenTimestampUtc, TagSeenCount}
use Rattle.llrp_tree.specs.Tree.{Tree, none, forest}
use Rattle.llrp_session.specs.RoSpec.{RoSpec, ContentSelector}
pub use Rattle.llrp_session.specs.declared.types.Sighting.{Sighting}

-- the octet of a signed number, in two's complement
abbrev pub signed_octet : ℤ → ℕ
signed_octet (pos n) = n
signed_octet (negsuc n) = 255 - n

-- a parameter of one value
abbrev pub value_parameter : ParamKind → ℕ → Tree
value_parameter kind value = record { kind = kind; fields = value ∷ []; tail = []; children = none }

abbrev pub if_selected : Bool → ParamKind → ℕ → List Tree
if_selected chosen kind value = if chosen then value_parameter kind value ∷ [] else []

-- the parts of a report: EPC-96, and then those that are selected, in the selector's order
abbrev pub report_parts : ℕ → RoSpec → ContentSelector → Sighting → List Tree
report_parts now s c g =
    value_parameter Epc96 g.epc ∷ (
    if_selected c.rospec_id RoSpecId s.id
    ++ if_selected c.spec_index SpecIndex 1
    ++ if_selected c.inventory_parameter_spec_id InventoryParameterSpecId s.inventory
    ++ if_selected c.antenna_id AntennaId g.antenna
    ++ if_selected c.channel_index ChannelIndex 1
    ++ if_selected c.peak_rssi PeakRssi (signed_octet g.rssi)
    ++ if_selected c.first_seen FirstSeenTimestampUtc now
    ++ if_selected c.last_seen LastSeenTimestampUtc now
    ++ if_selected c.tag_seen_count TagSeenCount 1)

-- the TagReportData of what was sighted at a moment while the ROSpec was active
unfoldable pub tag_report : ℕ → RoSpec → ContentSelector → Sighting → Tree
tag_report now s c g = record { kind = TagReportData; fields = []; tail = []; children = forest (report_parts now s c g) }
