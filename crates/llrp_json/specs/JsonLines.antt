-- The items of a stream and its end as lines of JSON: the object of each, and LF.
use Rattle.std.specs.Prelude.{◌≡◌, ℕ, List, [], ◌∷◌, ◌++◌, Result, codes, decimal}
use Rattle.llrp_schema.specs.declared.kinds.KindSet.{KindSet}
use Rattle.llrp_schema.specs.declared.kinds.Kind.TheVariants.{Message}
use Rattle.llrp_schema.specs.Schema.{name_of, plain_fields_of, tail_of}
use Rattle.llrp_tree.specs.declared.fault.Fault.{Fault}
use Rattle.llrp_tree.specs.Tree.{MessageTree}
use Rattle.llrp_stream.specs.declared.item.Item.{Item}
use Rattle.llrp_stream.specs.declared.item.Item.TheVariants.{Msg, Bad}
use Rattle.llrp_stream.specs.declared.item.End.{End}
use Rattle.llrp_stream.specs.declared.item.End.TheVariants.{Clean, Rest, Broken, Dead}
use Rattle.llrp_stream.specs.Device.{SourceLog, SinkLog}
use Rattle.llrp_listing.specs.declared.outcome.ToolErr.{ToolErr}
use Rattle.llrp_listing.specs.declared.outcome.Verdict.{Verdict}
use Rattle.llrp_listing.specs.Show.{ShowsAs}
use Rattle.llrp_listing.specs.StreamListing.{frame_fault_name}
use Rattle.llrp_json.specs.JsonValues.{string, member, object}
use Rattle.llrp_json.specs.JsonItems.{AreFields, AreParameters, parameters_members, tail_members}

-- The object of a message.
pub record IsMessageJson (m : MessageTree) (text : List ℕ) : Type 0 where
  pub fields : List (List ℕ)
  pub below : List (List ℕ)
  pub are : AreFields (plain_fields_of (Message m.kind)) m.fields fields
  pub parameters : AreParameters m.children below
  pub text_is : text ≡ object (member (codes "message") (string (name_of (Message m.kind))) ∷ member (codes "version") (decimal m.version) ∷ member (codes "id") (decimal m.id) ∷ (fields ++ (tail_members (tail_of (Message m.kind)) m.tail ++ parameters_members below)))

-- the object of a faulty frame
unfoldable pub fault_json : ℕ → Fault → List ℕ
fault_json id fault = object (member (codes "fault") (string (frame_fault_name fault.reason)) ∷ member (codes "id") (decimal id) ∷ member (codes "bit") (decimal fault.bit) ∷ [])

-- the line of an item: its object and LF
abbrev pub IsItemJson : Item → List ℕ → Type 0
IsItemJson (Msg message) line = (text : List ℕ) × IsMessageJson message text × (line ≡ text ++ 10 ∷ [])
IsItemJson (Bad id fault) line = line ≡ fault_json id fault ++ 10 ∷ []

-- the line of an end, if it has one
unfoldable pub end_json : End → List ℕ
end_json Clean = []
end_json (Rest n) = object (member (codes "rest") (decimal n) ∷ []) ++ 10 ∷ []
end_json Broken = object (member (codes "broken") (codes "true") ∷ []) ++ 10 ∷ []
end_json Dead = []

-- What show did between these logs with lines of JSON, by its answer.
abbrev pub ShowsJson : KindSet → ℕ → SourceLog → SourceLog → SinkLog → SinkLog → Result Verdict ToolErr → Type 0
ShowsJson p limit r0 r1 w0 w1 answer = ShowsAs IsItemJson end_json p limit r0 r1 w0 w1 answer
