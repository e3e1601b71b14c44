-- What the calls of a conversation make of it, whatever came before.
use Rattle.std.specs.Prelude.{◌≡◌, ◌⊎◌, ℕ, ◌&&◌, not, Bool, false, List, [], ◌++◌, map, option_map, Option, Some, if◌then◌else◌, unwrap_or}
use Rattle.llrp_schema.specs.declared.kinds.KindSet.TheVariants.{Standard}
use Rattle.llrp_tree.specs.declared.TheConstants.{MAX_LIMIT}
use Rattle.llrp_tree.specs.Tree.{MessageTree}
use Rattle.llrp_tree.specs.Frame.{Frame}
use Rattle.llrp_stream.specs.declared.item.Item.{Item}
use Rattle.llrp_stream.specs.declared.item.Item.TheVariants.{Msg}
use Rattle.std.specs.Io.KnownBytes.{Consumes}
use Rattle.llrp_stream.specs.Device.{SinkLog, SourceLog}
use Rattle.llrp_stream.specs.Items.{IsItemIn, ItemsSoFarIn}
use Rattle.llrp_listing.specs.declared.outcome.ToolErr.{ToolErr}
use Rattle.llrp_listing.specs.declared.outcome.ToolErr.TheVariants.{Early, Read}
use Rattle.llrp_ask.specs.Calls.Asking.{Event, Came, Silence, items_of, silences_of}
use Rattle.llrp_ask.specs.Calls.Next.{MayStop}
use Rattle.llrp_ask.specs.Calls.Run.{HasRead, MetEnd, ReadFailed, Stops}
use Rattle.llrp_operations.specs.declared.conversation.Conversation.{Conversation}
use Rattle.llrp_operations.specs.declared.course.Saying.{Saying}
use Rattle.llrp_operations.specs.declared.request.Request.{Request}
use Rattle.llrp_operations.specs.declared.talk.AccessErr.{AccessErr}
use Rattle.llrp_operations.specs.declared.talk.Talked.{Talked}
use Rattle.llrp_operations.specs.Calls.Course.{course_of, may_have_changed, outcome}
use Rattle.llrp_operations.specs.Calls.Messages.{message_of}
use Rattle.llrp_operations.specs.Calls.Talking.{AreFrames, IsSaid, IsSent, Sends, Talk, cut_off, first_talk, follow, heard, lose_by, step, stopped}

-- what has come of a conversation
abbrev pub talk_of : Conversation → Talk
talk_of c = record { course = course_of c.course []; report = c.report; cause = c.cause }

-- ---- what is sent

-- new is old and the frame of what is said
abbrev pub AddsFrame : Request → Saying → (old new : List ℕ) → Type 0
AddsFrame r saying old new = (frame : List ℕ) × Frame (message_of saying r) frame MAX_LIMIT × (new ≡ old ++ frame)

-- new is old and the frames of what is said, in order
abbrev pub AddsFrames : Request → List Saying → (old new : List ℕ) → Type 0
AddsFrames r said old new = (octets : List ℕ) × AreFrames r r.epc.now said octets × (new ≡ old ++ octets)

-- the same, for the tag that a conversation means
abbrev pub SendsSaid : Conversation → List Saying → (old new : List ℕ) → Type 0
SendsSaid c said old new = (octets : List ℕ) × IsSaid c.request (course_of c.course said) octets × (new ≡ old ++ octets)

-- ---- one thing that happens

-- the client is connected
pub record Begins (r : Request) (c : Conversation) : Type 0 where
  pub request : c.request ≡ r
  pub talk : talk_of c ≡ first_talk r
  pub held : c.held.items ≡ []

-- The request and what is held stay.
pub record Keeps (old new : Conversation) : Type 0 where
  pub request : new.request ≡ old.request
  pub held : new.held.items ≡ old.held.items

-- nothing more can come
pub record IsLostBy (error : ToolErr) (old new : Conversation) : Type 0 where
  pub talk : talk_of new ≡ lose_by error (talk_of old)
  pub keeps : Keeps old new

-- a message is kept if it brought the results
abbrev pub KeepsReport : (had : Bool) → MessageTree → (old new : Conversation) → Type 0
KeepsReport had m old new = new ≡ record old { report = if not had && old.course.reported then Some m else old.report }

-- It led the client on, and the frames of what is said then were added.
pub record Takes (event : Event) (old new : Conversation) (out0 out1 : List ℕ) : Type 0 where
  pub talk : talk_of new ≡ step old.request.id event (talk_of old)
  pub octets : List ℕ
  pub said : IsSaid old.request (heard old.request.id event (talk_of old).course) octets
  pub out : out1 ≡ out0 ++ octets
  pub keeps : Keeps old new

abbrev pub TakesMessage : MessageTree → (old new : Conversation) → (out0 out1 : List ℕ) → Type 0
TakesMessage m old new out0 out1 = Takes (Came (Msg m)) old new out0 out1

abbrev pub TakesSilence : (old new : Conversation) → (out0 out1 : List ℕ) → Type 0
TakesSilence old new out0 out1 = Takes Silence old new out0 out1

-- its item did
abbrev pub TakesFrame : List ℕ → (old new : Conversation) → (out0 out1 : List ℕ) → Type 0
TakesFrame frame old new out0 out1 = (item : Item) × IsItemIn Standard MAX_LIMIT frame item × Takes (Came item) old new out0 out1

-- ---- frames

-- The frames of these octets before a rest led the client on.
pub record TakesSome (octets rest : List ℕ) (old new : Conversation) (out0 out1 : List ℕ) : Type 0 where
  pub items : List Item
  pub came : ItemsSoFarIn Standard MAX_LIMIT octets items rest
  pub talk : talk_of new ≡ follow old.request.id (map Came items) (talk_of old)
  pub sent : List ℕ
  pub is_sent : IsSent old.request (map Came items) (talk_of old) sent
  pub out : out1 ≡ out0 ++ sent
  pub request : new.request ≡ old.request

-- These octets are held.
pub record Holds (octets : List ℕ) (old new : Conversation) : Type 0 where
  pub held : new.held.items ≡ octets
  pub talk : talk_of new ≡ talk_of old
  pub request : new.request ≡ old.request

-- The frames of these octets led the client on; the rest is held.
pub record TakesFrames (octets : List ℕ) (old new : Conversation) (out0 out1 : List ℕ) : Type 0 where
  pub items : List Item
  pub came : ItemsSoFarIn Standard MAX_LIMIT octets items new.held.items
  pub why : Option ToolErr
  pub stops : MayStop why new.held.items
  pub talk : talk_of new ≡ stopped why (follow old.request.id (map Came items) (talk_of old))
  pub sent : List ℕ
  pub is_sent : IsSent old.request (map Came items) (talk_of old) sent
  pub out : out1 ≡ out0 ++ sent
  pub request : new.request ≡ old.request

-- ---- turns

-- One more read gave octets, whose frames were taken.
pub record TakesPiece (old new : Conversation) (out0 out1 : List ℕ) (r0 r1 : SourceLog) : Type 0 where
  pub piece : List ℕ
  pub read : HasRead r0 r1 piece 0
  pub one : read.reads ≡ 1
  pub took : TakesFrames (old.held.items ++ piece) old new out0 out1

-- One more read came to nothing, since time was over.
pub record TakesNothing (old new : Conversation) (out0 out1 : List ℕ) (r0 r1 : SourceLog) : Type 0 where
  pub read : HasRead r0 r1 [] 1
  pub none : read.reads ≡ 0
  pub took : TakesSilence old new out0 out1

-- Nothing more can come, for this reason.
pub record TakesEnd (old new : Conversation) (out0 out1 : List ℕ) (r0 r1 : SourceLog) : Type 0 where
  pub error : ToolErr
  pub why : ((error ≡ Early) × MetEnd r0 r1) ⊎ ((error ≡ Read) × ReadFailed r0 r1)
  pub lost : IsLostBy error old new
  pub out : out1 ≡ out0

abbrev pub TakesTurn : (old new : Conversation) (out0 out1 : List ℕ) (r0 r1 : SourceLog) → Type 0
TakesTurn old new out0 out1 r0 r1 = TakesPiece old new out0 out1 r0 r1 ⊎ TakesNothing old new out0 out1 r0 r1 ⊎ TakesEnd old new out0 out1 r0 r1

-- some octets were read
abbrev pub ReadsOn : (r0 r1 : SourceLog) → Type 0
ReadsOn r0 r1 = (piece : List ℕ) × Consumes r0.left r1.left piece

-- It came to nothing that was sent; the error says what may have been changed before that.
pub record FailsTurn (old : Conversation) (r0 r1 : SourceLog) (err : AccessErr) : Type 0 where
  pub reads : ReadsOn r0 r1
  pub may_is : err.may_have_changed ≡ may_have_changed (talk_of old).course

-- What was gathered was written, or writing failed and the connection is lost.
pub record PassesOn (old new : Conversation) (out0 out1 : List ℕ) (w0 w1 : SinkLog) : Type 0 where
  pub failed : Bool
  pub sends : Sends failed w0 w1 out0
  pub talk : talk_of new ≡ cut_off failed (talk_of old)
  pub keeps : Keeps old new
  pub emptied : failed ≡ false → out1 ≡ []

-- it ends so
pub record EndsAs (c : Conversation) (talked : Talked) : Type 0 where
  pub outcome : talked.outcome ≡ outcome (talk_of c).course
  pub report : talked.report ≡ c.report
  pub seen : option_map (λ epc. epc.items) talked.seen ≡ (talk_of c).course.seen
  pub cause : talked.cause ≡ unwrap_or c.cause Read
  pub may : talked.may_have_changed ≡ may_have_changed (talk_of c).course

-- ---- a conversation

-- What happened since a conversation began: to the reader went what its course says.
pub record Converses (old new : Conversation) (r0 r1 : SourceLog) (w0 w1 : SinkLog) : Type 0 where
  pub bytes : List ℕ
  pub events : List Event
  pub came : ItemsSoFarIn Standard MAX_LIMIT (old.held.items ++ bytes) (items_of events) new.held.items
  pub until : SourceLog
  pub read : HasRead r0 until bytes (silences_of events)
  pub why : Option ToolErr
  pub stops : Stops why until r1 new.held.items
  pub octets : List ℕ
  pub sent : IsSent old.request events (talk_of old) octets
  pub failed : Bool
  pub sends : Sends failed w0 w1 octets
  pub talk : talk_of new ≡ cut_off failed (stopped why (follow old.request.id events (talk_of old)))
  pub request : new.request ≡ old.request

-- It broke off: this is what had happened by then, and what was read later came to nothing.
pub record BreaksOff (old : Conversation) (r0 r2 : SourceLog) (w0 w1 : SinkLog) (err : AccessErr) : Type 0 where
  pub last : Conversation
  pub r1 : SourceLog
  pub so : Converses old last r0 r1 w0 w1
  pub later : ReadsOn so.until r2
  pub may_is : err.may_have_changed ≡ may_have_changed (talk_of last).course
