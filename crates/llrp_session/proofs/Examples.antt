-- What the worked exchanges speak of.
use Rattle.std.specs.Prelude.{ℕ, ℤ, negsuc, List, [], ◌∷◌, ◌++◌}
use Rattle.llrp_schema.specs.declared.kinds.ParamKind.{ParamKind}
use Rattle.llrp_schema.specs.declared.kinds.ParamKind.TheVariants.{RoSpec, RoBoundarySpec, RoSpecStartTrigger, RoSpecStopTrigger, AiSpec, AiSpecStopTrigger, InventoryParameterSpec, RoReportSpec, TagReportContentSelector, TagReportData, Epc96, AntennaId, PeakRssi}
use Rattle.llrp_tree.specs.Tree.{Tree, forest}
use Rattle.llrp_session.specs.TagReport.{Sighting}

-- a parameter without a tail
abbrev pub node : ParamKind → List ℕ → List Tree → Tree
node kind fields children = record { kind = kind; fields = fields; tail = []; children = forest children }

-- an AISpec of antenna 0, with one inventory of id 1
abbrev ai_spec : Tree
ai_spec = record {
  kind = AiSpec;
  fields = [];
  tail = 0 ∷ 0 ∷ [];
  children = forest (node AiSpecStopTrigger (0 ∷ 0 ∷ []) [] ∷ node InventoryParameterSpec (1 ∷ 1 ∷ []) [] ∷ []);
}

-- ROSpec 1 with this start trigger, no stop trigger, that AISpec, and these parameters after it
abbrev pub rospec_with : ℕ → List Tree → Tree
rospec_with start_trigger behind =
    node RoSpec (1 ∷ 0 ∷ 0 ∷ [])
    ((node RoBoundarySpec [] (node RoSpecStartTrigger (start_trigger ∷ []) [] ∷ node RoSpecStopTrigger (0 ∷ 0 ∷ []) [] ∷ []) ∷ ai_spec ∷ []) ++ behind)

-- the ROSpec of 52 octets
abbrev pub rospec : Tree
rospec = rospec_with 0 []

-- the same, started by enabling it
abbrev pub immediate_rospec : Tree
immediate_rospec = rospec_with 1 []

-- the same, with reports by this trigger after this many tags, of the antenna and the strength
abbrev pub reporting_rospec : ℕ → ℕ → Tree
reporting_rospec trigger n =
    rospec_with 0 (node RoReportSpec (trigger ∷ n ∷ []) (node TagReportContentSelector (0 ∷ 0 ∷ 0 ∷ 1 ∷ 0 ∷ 1 ∷ 0 ∷ 0 ∷ 0 ∷ 0 ∷ []) [] ∷ []) ∷ [])

-- a tag at an antenna
abbrev pub sighting_of : ℕ → ℤ → ℕ → Sighting
sighting_of antenna rssi epc = record { antenna = antenna; rssi = rssi; epc = epc }

abbrev pub first_sighting : Sighting
first_sighting = sighting_of 1 (negsuc 59) 0x3074257BF7194E4000001A85

-- TagReportData with EPC-96, AntennaID and PeakRSSI, the strength as its octet
abbrev pub tag_data : ℕ → ℕ → ℕ → Tree
tag_data epc antenna octet = node TagReportData [] (node Epc96 (epc ∷ []) [] ∷ node AntennaId (antenna ∷ []) [] ∷ node PeakRssi (octet ∷ []) [] ∷ [])

abbrev pub first_report : Tree
first_report = tag_data 0x3074257BF7194E4000001A85 1 0xC4
