-- What the calls of a conversation make of it, whatever came before.
use Rattle.std.specs.Prelude.{◌≡◌, ◌⊎◌, ℕ, ◌&&◌, if◌then◌else◌, List, [], ◌++◌, map, Bool, false, Option, Some}
use Rattle.std.specs.List.{list_all}
use Rattle.llrp_schema.specs.declared.kinds.KindSet.TheVariants.{Standard}
use Rattle.llrp_tree.specs.declared.TheConstants.{MAX_LIMIT}
use Rattle.llrp_stream.specs.declared.item.Item.{Item}
use Rattle.llrp_stream.specs.Device.{SinkLog, SourceLog, Wrote}
use Rattle.llrp_stream.specs.Items.{IsItemIn, ItemsSoFarIn}
use Rattle.llrp_listing.specs.declared.outcome.ToolErr.{ToolErr}
use Rattle.llrp_listing.specs.declared.outcome.ToolErr.TheVariants.{Early, Memory, Read, Write}
use Rattle.llrp_listing.specs.declared.outcome.Verdict.{Verdict}
use Rattle.llrp_listing.specs.declared.outcome.Verdict.TheVariants.{Lawful, Faulty}
use Rattle.llrp_listing.specs.Show.{ListedAs}
use Rattle.llrp_listing.specs.StreamListing.{AreTexts, is_message}
use Rattle.llrp_ask.specs.declared.conversation.Conversation.{Conversation}
use Rattle.llrp_ask.specs.Calls.Asking.{Came, Event, Silence, after, follow, items_of, silences_of}
use Rattle.llrp_ask.specs.Calls.Courses.{course_of}
use Rattle.llrp_ask.specs.Calls.Next.{MayStop}
use Rattle.llrp_ask.specs.Calls.Run.{HasRead, MetEnd, ReadFailed, Stops, stopped}
use Rattle.llrp_ask.specs.Calls.Shown.{IsShown, end_shown}

-- whether all frames are messages, after one more with this verdict
abbrev pub still_lawful : Bool → Verdict → Bool
still_lawful was Lawful = was
still_lawful was Faulty = false

-- a call fails only where writing does, or where memory runs out
abbrev pub MayFail : ToolErr → Type 0
MayFail error = (error ≡ Write) ⊎ (error ≡ Memory)

-- A frame was shown, and its item led the client on.
pub record TakesFrame (frame : List ℕ) (old new : Conversation) (out0 out1 : List ℕ) (p0 p1 : SinkLog) : Type 0 where
  pub item : Item
  pub is_item : IsItemIn Standard MAX_LIMIT frame item
  pub course : course_of new.asking out1 ≡ after (Came item) (course_of old.asking out0)
  pub text : List ℕ
  pub is_text : IsShown old.form item text
  pub written : Wrote p0 p1 text
  pub lawful : new.lawful ≡ (old.lawful && is_message item)

-- The frames of these octets before a rest were shown, and led the client on.
pub record TakesSome (octets rest : List ℕ) (old new : Conversation) (out0 out1 : List ℕ) (p0 p1 : SinkLog) : Type 0 where
  pub items : List Item
  pub came : ItemsSoFarIn Standard MAX_LIMIT octets items rest
  pub course : course_of new.asking out1 ≡ follow (map Came items) (course_of old.asking out0)
  pub text : List ℕ
  pub is_text : AreTexts (IsShown old.form) items text
  pub written : Wrote p0 p1 text
  pub lawful : new.lawful ≡ (old.lawful && list_all is_message items)

-- The frames of these octets were shown, and led the client on; the rest is held.
pub record TakesFrames (octets : List ℕ) (old new : Conversation) (out0 out1 : List ℕ) (p0 p1 : SinkLog) : Type 0 where
  pub items : List Item
  pub came : ItemsSoFarIn Standard MAX_LIMIT octets items new.held.items
  pub why : Option ToolErr
  pub stops : MayStop why new.held.items
  pub course : course_of new.asking out1 ≡ stopped why (follow (map Came items) (course_of old.asking out0))
  pub text : List ℕ
  pub is_text : AreTexts (IsShown old.form) items text
  pub written : Wrote p0 p1 text
  pub lawful : new.lawful ≡ (old.lawful && list_all is_message items)

-- What is held was shown, and the verdict is that on all that came, if it is of what was held.
pub record EndsShown (conversation : Conversation) (p0 p1 : SinkLog) (verdict : Verdict) : Type 0 where
  pub last : Verdict
  pub shown : ListedAs (IsShown conversation.form) (end_shown conversation.form) Standard MAX_LIMIT conversation.held.items p0 p1 last
  pub verdict_is : verdict ≡ (if conversation.lawful then last else Faulty)

-- ---- turns

-- One more read gave octets, whose frames were taken.
pub record TakesPiece (old new : Conversation) (out0 out1 : List ℕ) (r0 r1 : SourceLog) (p0 p1 : SinkLog) : Type 0 where
  pub piece : List ℕ
  pub read : HasRead r0 r1 piece 0
  pub one : read.reads ≡ 1
  pub took : TakesFrames (old.held.items ++ piece) old new out0 out1 p0 p1

-- What is held, and what was shown, is as it was.
pub record KeepsHeld (old new : Conversation) (p0 p1 : SinkLog) : Type 0 where
  pub held : new.held.items ≡ old.held.items
  pub lawful : new.lawful ≡ old.lawful
  pub shown : p1 ≡ p0

-- One more read came to nothing, since time was over.
pub record TakesSilence (old new : Conversation) (out0 out1 : List ℕ) (r0 r1 : SourceLog) (p0 p1 : SinkLog) : Type 0 where
  pub read : HasRead r0 r1 [] 1
  pub none : read.reads ≡ 0
  pub course : course_of new.asking out1 ≡ after Silence (course_of old.asking out0)
  pub keeps : KeepsHeld old new p0 p1

-- Nothing more can come, for this reason.
pub record TakesEnd (old new : Conversation) (out0 out1 : List ℕ) (r0 r1 : SourceLog) (p0 p1 : SinkLog) : Type 0 where
  pub error : ToolErr
  pub why : ((error ≡ Early) × MetEnd r0 r1) ⊎ ((error ≡ Read) × ReadFailed r0 r1)
  pub course : course_of new.asking out1 ≡ stopped (Some error) (course_of old.asking out0)
  pub keeps : KeepsHeld old new p0 p1

abbrev pub TakesTurn : (old new : Conversation) (out0 out1 : List ℕ) (r0 r1 : SourceLog) (p0 p1 : SinkLog) → Type 0
TakesTurn old new out0 out1 r0 r1 p0 p1 = TakesPiece old new out0 out1 r0 r1 p0 p1 ⊎ TakesSilence old new out0 out1 r0 r1 p0 p1 ⊎ TakesEnd old new out0 out1 r0 r1 p0 p1

-- What happened since a conversation began: to the reader went what its course sends, and what came was shown.
pub record Converses (old new : Conversation) (r0 r1 : SourceLog) (w0 w1 p0 p1 : SinkLog) : Type 0 where
  pub bytes : List ℕ
  pub events : List Event
  pub came : ItemsSoFarIn Standard MAX_LIMIT (old.held.items ++ bytes) (items_of events) new.held.items
  pub until : SourceLog
  pub read : HasRead r0 until bytes (silences_of events)
  pub why : Option ToolErr
  pub stops : Stops why until r1 new.held.items
  pub sent : List ℕ
  pub course : course_of new.asking sent ≡ stopped why (follow events (course_of old.asking []))
  pub said : Wrote w0 w1 sent
  pub text : List ℕ
  pub is_text : AreTexts (IsShown old.form) (items_of events) text
  pub shown : Wrote p0 p1 text
  pub lawful : new.lawful ≡ (old.lawful && list_all is_message (items_of events))
  pub form : new.form ≡ old.form
