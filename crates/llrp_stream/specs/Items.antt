-- What a stream holds: each frame's message or fault, and the end.
use Rattle.std.specs.Prelude.{◌≡◌, ℕ, List, ◌++◌}
use Rattle.std.specs.List.{AllByRecursion, AllZip}
use Rattle.tag_bits.specs.Digits.{digits_of_bytes}
use Rattle.llrp_schema.specs.declared.kinds.KindSet.{KindSet}
use Rattle.llrp_schema.specs.declared.kinds.KindSet.TheVariants.{Profile}
use Rattle.llrp_schema.specs.declared.kinds.Kind.TheVariants.{Message}
use Rattle.llrp_schema.specs.Schema.{set_of_kind}
use Rattle.llrp_tree.specs.Tree.{MessageTree}
use Rattle.llrp_tree.specs.Frame.{Frame}
use Rattle.llrp_tree.specs.FirstFault.{number, FirstFaultIn}
use Rattle.llrp_stream.specs.declared.item.Item.{Item}
use Rattle.llrp_stream.specs.declared.item.Item.TheVariants.{Msg, Bad}
use Rattle.llrp_stream.specs.declared.item.End.{End}
use Rattle.llrp_stream.specs.Cuts.{IsFrame, joined, Cuts}

-- the id that is at bit 48 of a frame
unfoldable pub id_field : List ℕ → ℕ
id_field frame = number (digits_of_bytes frame) 48 32

-- A frame spells a message of this set of kinds.
pub record FrameIn (p : KindSet) (m : MessageTree) (bytes : List ℕ) (limit : ℕ) : Type 0 where
  pub frame : Frame m bytes limit
  pub own : set_of_kind (Message m.kind) ≡ p

-- the item of a frame: the message that it spells, or its id and its first fault
abbrev pub IsItemIn : KindSet → ℕ → List ℕ → Item → Type 0
IsItemIn p limit frame (Msg message) = FrameIn p message frame limit
IsItemIn p limit frame (Bad id fault) = (id ≡ id_field frame) × FirstFaultIn p frame limit fault.bit fault.reason

-- the items of a stream, one a frame, and its end
pub record ItemsIn (p : KindSet) (limit : ℕ) (stream : List ℕ) (items : List Item) (end : End) : Type 0 where
  pub frames : List (List ℕ)
  pub cut : Cuts stream frames end
  pub each : AllZip (IsItemIn p limit) frames items

-- Bytes so far: frames that have these items, and then a front, which may be that of one more.
pub record ItemsSoFarIn (p : KindSet) (limit : ℕ) (bytes : List ℕ) (items : List Item) (front : List ℕ) : Type 0 where
  pub frames : List (List ℕ)
  pub whole : bytes ≡ joined frames ++ front
  pub each : AllByRecursion IsFrame frames
  pub are : AllZip (IsItemIn p limit) frames items

-- ---- the same of the profile

abbrev pub ItemsSoFar : (limit : ℕ) → (bytes : List ℕ) → List Item → (front : List ℕ) → Type 0
ItemsSoFar limit bytes items front = ItemsSoFarIn Profile limit bytes items front
