-- What the calls for listings are made of.
use Rattle.std.specs.Prelude.{◌≡◌, ℕ, Bool, true, false, List, length, take, if◌then◌else◌}
use Rattle.llrp_schema.specs.declared.kinds.KindSet.{KindSet}
use Rattle.llrp_tree.specs.declared.TheConstants.{MAX_LIMIT}
use Rattle.llrp_stream.specs.declared.item.Item.{Item}
use Rattle.llrp_stream.specs.declared.item.End.{End}
use Rattle.llrp_stream.specs.Items.{ItemsIn}
use Rattle.llrp_listing.specs.declared.outcome.ToolErr.{ToolErr}
use Rattle.llrp_listing.specs.declared.outcome.ToolErr.TheVariants.{Listing, Script, Hex, Read, Write, Bound, Memory, Broken, Peer, Strange, Early}
use Rattle.llrp_listing.specs.declared.outcome.Verdict.{Verdict}
use Rattle.llrp_listing.specs.declared.outcome.Verdict.TheVariants.{Lawful, Faulty}
use Rattle.llrp_listing.specs.Encoding.{RefusesIn}
use Rattle.llrp_listing.specs.Show.{verdict_of}
use Rattle.llrp_listing.specs.StreamListing.{IsStreamText, is_lawful}
use Rattle.llrp_json_read.specs.declared.run.LinesErr.{LinesErr}
use Rattle.llrp_json_read.specs.declared.run.LinesErr.TheVariants as lines
use Rattle.llrp_json_read.specs.LinesRead.{IsToldOf, RefusesText}
use Rattle.llrp_json_read.specs.ObjectRefused.{Refused}
use Rattle.llrp_c.specs.declared.status.Status.{Status}
use Rattle.llrp_c.specs.declared.status.Status.TheVariants as status
use Rattle.llrp_c.specs.Listings.{ItemTextIn, end_text_in}
use Rattle.llrp_c.specs.Status.{status_of}

-- The text is the listing of the stream, or its lines of JSON, and the verdict is the stream's.
pub record HasListing (json : Bool) (p : KindSet) (stream text : List ℕ) (verdict : Verdict) : Type 0 where
  pub items : List Item
  pub end : End
  pub are : ItemsIn p MAX_LIMIT stream items end
  pub is : IsStreamText (ItemTextIn json) (end_text_in json) items end text
  pub verdict_is : verdict ≡ verdict_of (is_lawful items end)

-- the status of a listing with this verdict, where the stream breaks after it or goes on
abbrev pub listed_status : Bool → Verdict → Status
listed_status true verdict = status.Broken
listed_status false Lawful = status.Done
listed_status false Faulty = status.Faulty

-- The text and the status are those of the whole frames at the front of a stream, or of all of it where it breaks after them.
pub record IsPart (json : Bool) (p : KindSet) (stream : List ℕ) (broken : Bool) (octets used : ℕ) (text : List ℕ) (ended : Status) : Type 0 where
  pub used_is : used ≡ (if broken then length stream else octets)
  pub verdict : Verdict
  pub has : HasListing json p (take used stream) text verdict
  pub ended_is : ended ≡ listed_status broken verdict

-- why the octets of a listing in memory are not there
abbrev pub EncodeFails : KindSet → List ℕ → ToolErr → Type 0
EncodeFails p listing (Listing line reason) = (octets : List ℕ) × RefusesIn p MAX_LIMIT listing line reason octets
EncodeFails p listing Write = Unit {0}
EncodeFails p listing Memory = Unit {0}
EncodeFails p listing _ = ⊥

-- the line and the status that say why a listing has no octets
abbrev pub Stops : ToolErr → ℕ → Status → Type 0
Stops (Listing line reason) at ended = (at ≡ line) × (ended ≡ status_of reason)
Stops Write at ended = (at ≡ 0) × (ended ≡ status.Memory)
Stops Bound at ended = (at ≡ 0) × (ended ≡ status.Memory)
Stops Memory at ended = (at ≡ 0) × (ended ≡ status.Memory)
Stops Read at ended = (at ≡ 0) × (ended ≡ status.Memory)
Stops (Script line) at ended = (at ≡ 0) × (ended ≡ status.Memory)
Stops Hex at ended = (at ≡ 0) × (ended ≡ status.Memory)
Stops Broken at ended = (at ≡ 0) × (ended ≡ status.Memory)
Stops (Peer number) at ended = (at ≡ 0) × (ended ≡ status.Memory)
Stops Strange at ended = (at ≡ 0) × (ended ≡ status.Memory)
Stops Early at ended = (at ≡ 0) × (ended ≡ status.Memory)

-- why the octets of lines of JSON are not there: a line is refused, or memory ran out
abbrev pub LinesFail : KindSet → List ℕ → LinesErr → Type 0
LinesFail p text (lines.Line line) = (r : Refused) × (octets : List ℕ) × IsToldOf r line × RefusesText p MAX_LIMIT text line.number r octets
LinesFail p text (lines.Stopped error) = Unit {0}
