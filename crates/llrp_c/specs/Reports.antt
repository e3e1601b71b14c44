-- What a report says of its tags (LLRP 1.1, section 14: RO_ACCESS_REPORT and TagReportData).
use Rattle.std.specs.Prelude.{◌≡◌, ℕ, ◌+◌, ◌<◌, ◌⊎◌, List, ◌++◌, length, drop, replicate, filter, Option, None, Some}
use Rattle.std.specs.List.{AllZip}
use Rattle.tag_uri.specs.Room.{HasText}
use Rattle.tag_uri.specs.TagText.{IsTextOf}
use Rattle.llrp_schema.specs.declared.kinds.KindSet.TheVariants.{Standard}
use Rattle.llrp_schema.specs.declared.kinds.ParamKind.TheVariants.{WholeTagReportData, WholeEpc96, WholeAntennaId, WholePeakRssi, WholeFirstSeenTimestampUtc, WholeTagSeenCount}
use Rattle.llrp_tree.specs.declared.TheConstants.{MAX_LIMIT}
use Rattle.llrp_tree.specs.declared.fault.Reason.{Reason}
use Rattle.llrp_tree.specs.Tree.{Tree, MessageTree, trees}
use Rattle.llrp_tree.specs.FirstFault.{FirstFaultIn}
use Rattle.llrp_stream.specs.Cuts.{IsFrame}
use Rattle.llrp_stream.specs.Items.{FrameIn}
use Rattle.llrp_session.specs.RoSpec.{is_kind, first_of, field_of}
use Rattle.llrp_session.specs.TagReport.{signed_octet}
use Rattle.llrp_c.specs.declared.reports.Tag.{Tag}
use Rattle.llrp_c.specs.declared.status.Status.TheVariants.{Done, Faulty, Room, Length, Memory}
use Rattle.llrp_c.specs.Status.{code_of}
use Rattle.llrp_c.specs.Tags.{AreOctetsOf}

-- the bit of a parameter that is there
abbrev pub bit_where : Option Tree → ℕ → ℕ
bit_where None bit = 0
bit_where (Some part) bit = bit

-- which parameters a TagReportData has
abbrev pub bits_of : Tree → ℕ
bits_of report =
    bit_where (first_of WholeEpc96 report) 1 + bit_where (first_of WholeAntennaId report) 2 + bit_where (first_of WholePeakRssi report) 4
    + bit_where (first_of WholeFirstSeenTimestampUtc report) 8 + bit_where (first_of WholeTagSeenCount report) 16

-- the octets of an EPC-96, and the text of its word with zeros after it; zeros where there is none
abbrev pub IsWordOf : Option Tree → (octets text : List ℕ) (count : ℕ) → Type 0
IsWordOf None octets text count = (octets ≡ replicate 12 0) × (text ≡ replicate 64 0) × (count ≡ 0)
IsWordOf (Some epc) octets text count =
    AreOctetsOf octets (field_of 0 (Some epc)) × ((uri : List ℕ) × IsTextOf (field_of 0 (Some epc)) uri × HasText (replicate 64 0) text 0 count uri)

-- What a TagReportData says of its tag; a parameter that is absent is 0.
pub record IsTag (report : Tree) (tag : Tag) : Type 0 where
  pub bits : tag.has ≡ bits_of report
  pub epc : IsWordOf (first_of WholeEpc96 report) tag.word tag.text tag.text_length
  pub antenna : tag.antenna ≡ field_of 0 (first_of WholeAntennaId report)
  pub rssi : signed_octet tag.rssi ≡ field_of 0 (first_of WholePeakRssi report)
  pub first_seen : tag.first_seen ≡ field_of 0 (first_of WholeFirstSeenTimestampUtc report)
  pub count : tag.count ≡ field_of 0 (first_of WholeTagSeenCount report)

-- what the TagReportData among parameters say, in their order
abbrev pub AreTags : List Tree → List Tag → Type 0
AreTags parts tags = AllZip IsTag (filter (is_kind WholeTagReportData) parts) tags

-- The frame is a message of LLRP 1.1 with these tags.
pub record HasTags (frame : List ℕ) (tags : List Tag) : Type 0 where
  pub message : MessageTree
  pub frame_is : FrameIn Standard message frame MAX_LIMIT
  pub are : AreTags (trees message.children) tags

-- The tags were written; or there are more than the room has, and their number is returned; or the frame is no message; or the octets are not
-- one frame; or memory ran out.
abbrev pub WritesTags : (frame : List ℕ) (old new : List Tag) (count code : ℕ) → Type 0
WritesTags frame old new count code =
    ((tags : List Tag) × HasTags frame tags × (count ≡ length tags) × (new ≡ tags ++ drop count old) × (code ≡ code_of Done))
    ⊎ ((tags : List Tag) × HasTags frame tags × (count ≡ length tags) × (length old < count) × (new ≡ old) × (code ≡ code_of Room))
    ⊎ ((bit : ℕ) × (reason : Reason) × FirstFaultIn Standard frame MAX_LIMIT bit reason × (new ≡ old) × (count ≡ 0) × (code ≡ code_of Faulty))
    ⊎ ((¬ IsFrame frame) × (new ≡ old) × (count ≡ 0) × (code ≡ code_of Length))
    ⊎ ((new ≡ old) × (count ≡ 0) × (code ≡ code_of Memory))
