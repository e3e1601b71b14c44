-- The lines of the tags that a stream of the whole standard reports, with all that it says of each (LLRP 1.1, section 14.2.3).
use Rattle.std.specs.Prelude.{◌≡◌, ℕ, ◌⊎◌, if◌then◌else◌, is_none, Bool, true, false, List, [], ◌++◌, Option, Some, None}
use Rattle.llrp_schema.specs.declared.kinds.KindSet.TheVariants.{Standard}
use Rattle.llrp_schema.specs.declared.kinds.MsgKind.TheVariants.{RoAccessReport}
use Rattle.llrp_schema.specs.declared.kinds.ParamKind.TheVariants.{TagReportData, Epc96, EpcData}
use Rattle.llrp_schema.specs.declared.kinds.Kind.TheVariants.{Message, Parameter}
use Rattle.llrp_schema.specs.Schema.{groups_of}
use Rattle.llrp_tree.specs.Tree.{Forest, none, and, Tree}
use Rattle.llrp_stream.specs.declared.item.Item.{Item}
use Rattle.llrp_stream.specs.declared.item.Item.TheVariants.{Msg, Bad}
use Rattle.llrp_stream.specs.Cuts.{IsPartial, Breaks}
use Rattle.llrp_stream.specs.Items.{ItemsSoFarIn}
use Rattle.llrp_listing.specs.StreamListing.{AreTexts}
use Rattle.llrp_session.specs.RoSpec.{first_of}
use Rattle.llrp_json.specs.JsonItems.{AreParameters, more_members, parameters_members}
use Rattle.llrp_endpoints.specs.declared.form.LineForm.{LineForm}
use Rattle.llrp_endpoints.specs.declared.form.LineForm.TheVariants.{Full}
use Rattle.llrp_endpoints.specs.Heard.{is_numbered, own_tree}
use Rattle.llrp_endpoints.specs.TagLines.{IsEpcText, IsTagLine, full_line}

-- ---- a tag

-- what the profile has of a parameter of an RO_ACCESS_REPORT: a TagReportData, or nothing
abbrev pub reported_tag : Tree → Option Tree
reported_tag t = own_tree (groups_of (Message RoAccessReport)) t

-- of the parameters of a TagReportData those of which the profile has nothing, as results of operations and Custom
abbrev pub others : Forest → Forest
others none = none
others (and before kind fields tail children) =
    if is_none (own_tree (groups_of (Parameter TagReportData)) (record { kind = kind; fields = fields; tail = tail; children = children })) then and (others before) kind fields tail children else others before

-- The line of a tag of which the profile has this, with its other parameters as one member more, where it has any.
pub record IsFullLine (tag own : Tree) (line : List ℕ) : Type 0 where
  pub epc : List ℕ
  pub epc_is : IsEpcText (first_of Epc96 own) (first_of EpcData own) epc
  pub texts : List (List ℕ)
  pub are : AreParameters (others tag.children) texts
  pub line_is : line ≡ full_line own epc (more_members (parameters_members texts))

-- its line in a form: in the other forms what the profile has of it is all that the line has
abbrev pub IsReportedLine : LineForm → (tag own : Tree) → List ℕ → Type 0
IsReportedLine Full tag own line = IsFullLine tag own line
IsReportedLine form tag own line = IsTagLine form own line

-- ---- a report

-- the line of a parameter of which the profile has this, if it has a tag
abbrev pub IsLineWhere : LineForm → Tree → Option Tree → List ℕ → Type 0
IsLineWhere form t None line = line ≡ []
IsLineWhere form t (Some own) line = IsReportedLine form t own line

-- those of the parameters of an RO_ACCESS_REPORT in a row
abbrev pub AreReportedLines : LineForm → Forest → List ℕ → Type 0
AreReportedLines form none text = text ≡ []
AreReportedLines form (and before kind fields tail children) text =
    (earlier line : List ℕ) × AreReportedLines form before earlier
    × IsLineWhere form (record { kind = kind; fields = fields; tail = tail; children = children }) (reported_tag (record { kind = kind; fields = fields; tail = tail; children = children })) line
    × (text ≡ earlier ++ line)

-- ---- a stream

abbrev pub AreLinesIf : Bool → LineForm → Forest → List ℕ → Type 0
AreLinesIf true form row text = AreReportedLines form row text
AreLinesIf false form row text = text ≡ []

-- the lines of an item: of a report one for each tag
abbrev pub AreLinesOfItem : LineForm → Item → List ℕ → Type 0
AreLinesOfItem form (Msg m) text = AreLinesIf (is_numbered m RoAccessReport) form m.children text
AreLinesOfItem form (Bad id fault) text = text ≡ []

-- The lines of the tags of the reports that are whole in these octets, in order; no frame of a report is longer than the limit.
pub record AreTagsOfStream (form : LineForm) (limit : ℕ) (bytes text : List ℕ) : Type 0 where
  pub items : List Item
  pub front : List ℕ
  pub so_far : ItemsSoFarIn Standard limit bytes items front
  pub left : IsPartial front ⊎ Breaks front
  pub texts : AreTexts (AreLinesOfItem form) items text
