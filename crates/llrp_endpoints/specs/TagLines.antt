-- The lines of tag reports. Texts are lists of ASCII codes.
use Rattle.std.specs.Prelude.{◌≡◌, ℕ, List, [], ◌∷◌, ◌++◌, ◌+◌, length, min, codes, decimal, slice_index, Option, Some, None}
use Rattle.std.specs.List.{flat_map, join_with_byte, AllZip}
use Rattle.std.specs.Option.{option_or}
use Rattle.llrp_schema.specs.declared.kinds.Kind.TheVariants.{Parameter}
use Rattle.llrp_schema.specs.declared.kinds.ParamKind.{ParamKind}
use Rattle.llrp_schema.specs.declared.kinds.ParamKind.TheVariants.{Epc96, EpcData, AntennaId, PeakRssi, FirstSeenTimestampUtc, FirstSeenTimestampUptime, LastSeenTimestampUtc, LastSeenTimestampUptime, ChannelIndex, TagSeenCount, RoSpecId, InventoryParameterSpecId, SpecIndex, AccessSpecId, C1G2Crc, C1G2Pc}
use Rattle.llrp_schema.specs.Schema.{name_of}
use Rattle.llrp_tree.specs.Tree.{Tree}
use Rattle.llrp_session.specs.RoSpec.{first_of}
use Rattle.tag_uri.specs.TagText.{IsTextOf}
use Rattle.llrp_endpoints.specs.declared.form.LineForm.{LineForm}
use Rattle.llrp_endpoints.specs.declared.form.LineForm.TheVariants.{Words, Json, Full, Tags}
use Rattle.llrp_endpoints.specs.declared.summary.Summary.{Summary}
use Rattle.llrp_listing.specs.NodeLine.{spaced, signed_text, octets_text}

-- what stands for a part that is absent
abbrev pub absent : List ℕ
absent = codes "-"

-- the number of bits of an EPCData, and its octets
abbrev pub data_text : Option Tree → List ℕ
data_text None = absent
data_text (Some t) = codes "bits" ++ spaced (decimal (slice_index t.fields 0) ∷ octets_text t.tail ∷ [])

-- the text of the EPC-96's word; without one that of the EPCData
abbrev pub IsEpcText : Option Tree → Option Tree → List ℕ → Type 0
IsEpcText (Some t) other text = IsTextOf (slice_index t.fields 0) text
IsEpcText None other text = text ≡ data_text other

abbrev pub antenna_text : Option Tree → List ℕ
antenna_text None = absent
antenna_text (Some t) = decimal (slice_index t.fields 0)

-- in dBm
abbrev pub rssi_text : Option Tree → List ℕ
rssi_text None = absent
rssi_text (Some t) = signed_text (slice_index t.fields 0)

-- the member of an object of JSON (RFC 8259): its name and its value; an absent part has none
abbrev pub member_where : List ℕ → Option Tree → List ℕ → List (List ℕ)
member_where name None value = []
member_where name (Some t) value = (codes "\"" ++ (name ++ (codes "\":" ++ value))) ∷ []

-- what is said of a tag, with a comma between two; nothing in the text of an EPC is escaped in a string
abbrev pub members_text : (epc antenna rssi : Option Tree) → List ℕ → List ℕ
members_text epc antenna rssi text =
    join_with_byte 44 (member_where (codes "epc") epc (codes "\"" ++ (text ++ codes "\"")) ++ (member_where (codes "antenna") antenna (antenna_text antenna) ++ member_where (codes "rssi") rssi (rssi_text rssi)))

-- the other parts of a tag that have one number, in this order
abbrev pub other_kinds : List ParamKind
other_kinds = FirstSeenTimestampUtc ∷ FirstSeenTimestampUptime ∷ LastSeenTimestampUtc ∷ LastSeenTimestampUptime ∷ TagSeenCount ∷ ChannelIndex ∷ RoSpecId ∷ SpecIndex ∷ InventoryParameterSpecId ∷ AccessSpecId ∷ C1G2Pc ∷ C1G2Crc ∷ []

-- the member of such a part after others, if it is there
abbrev pub other_where : List ℕ → Option Tree → List ℕ
other_where name None = []
other_where name (Some t) = codes ",\"" ++ (name ++ (codes "\":" ++ decimal (slice_index t.fields 0)))

-- that of the first part of a kind, by its name in the tables
abbrev pub other_member : Tree → ParamKind → List ℕ
other_member tag kind = other_where (name_of (Parameter kind)) (first_of kind tag)

-- the line of a tag in words, with this text of its EPC, the antenna, and the greatest RSSI
abbrev pub words_line : Tree → List ℕ → List ℕ
words_line tag epc = epc ++ (spaced (antenna_text (first_of AntennaId tag) ∷ rssi_text (first_of PeakRssi tag) ∷ []) ++ (10 ∷ []))

-- the line of a tag with all of its parts that have one number, and with this more at its end
abbrev pub full_line : Tree → List ℕ → List ℕ → List ℕ
full_line tag epc more =
    codes "{" ++ (members_text (option_or (first_of Epc96 tag) (first_of EpcData tag)) (first_of AntennaId tag) (first_of PeakRssi tag) epc ++ (flat_map (other_member tag) other_kinds ++ (more ++ codes "}\n")))

-- the line of a tag
abbrev pub tag_line : LineForm → Tree → List ℕ → List ℕ
tag_line Words tag epc = words_line tag epc
tag_line Json tag epc = codes "{" ++ (members_text (option_or (first_of Epc96 tag) (first_of EpcData tag)) (first_of AntennaId tag) (first_of PeakRssi tag) epc ++ codes "}\n")
tag_line Full tag epc = full_line tag epc []
tag_line Tags tag epc = words_line tag epc

-- The line of a TagReportData (LLRP 1.1, section 14).
pub record IsTagLine (form : LineForm) (tag : Tree) (line : List ℕ) : Type 0 where
  pub epc : List ℕ
  pub epc_is : IsEpcText (first_of Epc96 tag) (first_of EpcData tag) epc
  pub line_is : line ≡ tag_line form tag epc

-- the line after those of a report's tags: how many there are; where all of a tag is printed only tags have lines
abbrev pub count_line : LineForm → ℕ → List ℕ
count_line Words n = codes "= " ++ (decimal n ++ (10 ∷ []))
count_line Json n = codes "{\"report\":" ++ (decimal n ++ codes "}\n")
count_line Full n = []
count_line Tags n = []

-- The lines of a report: one for each tag, and then how many there are.
pub record AreReportLines (form : LineForm) (tags : List Tree) (text : List ℕ) : Type 0 where
  pub lines : List (List ℕ)
  pub each : AllZip (IsTagLine form) tags lines
  pub text_is : text ≡ flat_map (λ line. line) lines ++ count_line form (length tags)

-- The lines of reports, one after another.
pub record AreReports (form : LineForm) (reports : List (List Tree)) (text : List ℕ) : Type 0 where
  pub texts : List (List ℕ)
  pub each : AllZip (AreReportLines form) reports texts
  pub text_is : text ≡ flat_map (λ report. report) texts

-- the greatest number that is counted to
abbrev pub greatest_count : ℕ
greatest_count = 18446744073709551615

-- how many tags are in reports
abbrev pub tags_of_reports : List (List Tree) → ℕ
tags_of_reports [] = 0
tags_of_reports (tags ∷ reports) = length tags + tags_of_reports reports

-- how many tags and how many reports there were, as far as they are counted
abbrev pub tag_count : List (List Tree) → ℕ
tag_count reports = min (tags_of_reports reports) greatest_count

abbrev pub report_count : List (List Tree) → ℕ
report_count reports = min (length reports) greatest_count

abbrev pub summary_of : List (List Tree) → Summary
summary_of reports = record { tags = tag_count reports; reports = report_count reports }

-- the last line
unfoldable pub total_line : LineForm → List (List Tree) → List ℕ
total_line Words reports = codes "total" ++ (spaced (decimal (tag_count reports) ∷ decimal (report_count reports) ∷ []) ++ (10 ∷ []))
total_line Json reports = codes "{\"tags\":" ++ (decimal (tag_count reports) ++ (codes ",\"reports\":" ++ (decimal (report_count reports) ++ codes "}\n")))
total_line Full reports = []
total_line Tags reports = []
