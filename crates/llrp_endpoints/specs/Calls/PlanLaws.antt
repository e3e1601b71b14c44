-- What holds of a client that follows a plan, whatever its reader sends.
use Rattle.std.specs.Prelude.{◌≡◌, ◌≢◌, ◌↔◌, ℕ, ◌+◌, ◌^◌, ◌<◌, ◌≤◌, ◌⊎◌, Bool, true, false, List, [], ◌∷◌, ◌++◌, length, map, Option, None, Some, Result, Ok, Err}
use Rattle.std.specs.List.{filter}
use Rattle.llrp_tree.specs.declared.TheConstants.{MAX_LIMIT}
use Rattle.llrp_schema.specs.declared.kinds.ParamKind.TheVariants.{RoSpec}
use Rattle.llrp_tree.specs.Tree.{Tree, MessageTree}
use Rattle.llrp_tree.specs.Lawful.{IsLawfulTree, tree_octets}
use Rattle.llrp_tree.specs.declared.fault.Reason.TheVariants.{MessageType, ParamType}
use Rattle.llrp_stream.specs.declared.item.Item.{Item}
use Rattle.llrp_stream.specs.declared.item.Item.TheVariants.{Msg, Bad}
use Rattle.llrp_stream.specs.Cuts.{IsPartial, Breaks}
use Rattle.llrp_session.specs.Refusal.{Refusal, Unexpected}
use Rattle.llrp_session.specs.declared.types.Command.{Command}
use Rattle.llrp_session.specs.declared.types.Operation.{Operation}
use Rattle.llrp_session.specs.declared.types.Operation.TheVariants.{Listing, Closing}
use Rattle.llrp_session.specs.declared.types.Pending.{Pending}
use Rattle.llrp_session.specs.declared.types.Taken.{Taken}
use Rattle.llrp_session.specs.declared.types.Taken.TheVariants.{Connected, Reply, Tags, Table, Differs}
use Rattle.llrp_session.specs.declared.types.Viewed.{Viewed}
use Rattle.llrp_session.specs.Contents.{ClientContent, Asks, Acknowledges, ClientMessage, ReaderMessage, Notification, Heard, HeardResponse, HeardError, HeardReport, HeardNotification}
use Rattle.llrp_session.specs.ClientMachine.{Client, Taking, take, command, sending, awaited, is_response_to, is_view}
use Rattle.llrp_session.specs.Reading.{heard_of}
use Rattle.llrp_session.specs.ReaderMessages.{reader_message}
use Rattle.llrp_session.specs.ClientMessages.{client_message}
use Rattle.llrp_session.specs.Calls.MessageWorld.{AreSendable}
use Rattle.llrp_listing.specs.declared.outcome.ToolErr.TheVariants.{Peer, Strange, Early}
use Rattle.llrp_endpoints.specs.declared.course.Awaits.{Awaits}
use Rattle.llrp_endpoints.specs.declared.course.Awaits.TheVariants.{Answer, TaggedReport, Report, End}
use Rattle.llrp_endpoints.specs.declared.course.Phase.TheVariants.{Open, Closed, Failed}
use Rattle.llrp_endpoints.specs.declared.course.Step.{Step}
use Rattle.llrp_endpoints.specs.declared.course.Step.TheVariants.{Send, AwaitTags}
use Rattle.llrp_endpoints.specs.Plan.{Plan, steps}
use Rattle.llrp_endpoints.specs.Calls.Plans.{longest_rospec, commands, commands_in}
use Rattle.llrp_endpoints.specs.Gathering.{Course, new_course, follow, Gathers}

-- What holds of each plan that a call makes: its ROSpec is a lawful one and not too long, and its numbers fit their types.
pub record IsValid (plan : Plan) : Type 0 where
  pub kind : plan.rospec.kind ≡ RoSpec
  pub lawful : IsLawfulTree plan.rospec
  pub short : tree_octets plan.rospec ≤ longest_rospec
  pub keepalive : plan.keepalive < 2 ^ 32
  pub reports : plan.reports < 2 ^ 64
  pub polls : plan.polls < 2 ^ 16

-- how far a client is after these items
abbrev pub course_of : ℕ → Plan → List Item → Course
course_of limit plan items = follow items (new_course limit plan)

-- ---- no command is refused

-- a report of these tags is awaited
abbrev pub AwaitsReport : Awaits → List Tree → Type 0
AwaitsReport Report tags = Unit {0}
AwaitsReport TaggedReport [] = ⊥
AwaitsReport TaggedReport (tag ∷ tags) = Unit {0}
AwaitsReport Answer tags = ⊥
AwaitsReport End tags = ⊥

-- What a message was taken for lets the plan go on: the connection, a response of status 0, the reader's table where it is the client's view, or a
-- report that is awaited.
abbrev pub LeadsOn : Taken → Awaits → Type 0
LeadsOn Connected awaits = Unit {0}
LeadsOn (Reply status) awaits = status ≡ 0
LeadsOn (Tags tags) awaits = AwaitsReport awaits tags
LeadsOn (Table rospecs) awaits = Unit {0}
LeadsOn _ awaits = ⊥

-- The message is taken so, and leads on to this command of the plan.
pub record LeadsTo (c : Course) (m : MessageTree) (taking : Taking) (k : Command) : Type 0 where
  pub open_is : c.phase ≡ Open
  pub takes : take c.client m.id (heard_of m) ≡ Ok taking
  pub leads_on : LeadsOn taking.taken c.awaits
  pub later : List Step
  pub next : c.left ≡ Send k ∷ later

-- wherever a message leads on to a command, the client takes the command
abbrev pub TakesEachCommand : ℕ → Plan → Type 0
TakesEachCommand limit plan = (items : List Item) (m : MessageTree) (taking : Taking) (k : Command) →
    LeadsTo (course_of limit plan items) m taking k → command taking.client k ≡ Ok (sending taking.client k)

-- the reader's table, where it differs from the client's view
abbrev pub IsOtherTable : Taken → Type 0
IsOtherTable (Differs rospecs) = Unit {0}
IsOtherTable _ = ⊥

-- the client does not expect the message now, or takes it for a table that differs from its view
abbrev pub IsTakenStrangely : Result Taking Refusal → Type 0
IsTakenStrangely (Err refusal) = refusal ≡ Unexpected
IsTakenStrangely (Ok taking) = IsOtherTable taking.taken

-- a message that the client takes so, or a frame with a fault other than a type that no kind has
abbrev pub IsStrangeTo : Client → Item → Type 0
IsStrangeTo client (Msg m) = IsTakenStrangely (take client m.id (heard_of m))
IsStrangeTo client (Bad id fault) = (fault.reason ≢ MessageType) × (fault.reason ≢ ParamType)

-- One of the items was strange to the client, which was still at its plan.
pub record MetStrange (limit : ℕ) (plan : Plan) (items : List Item) : Type 0 where
  pub before : List Item
  pub item : Item
  pub later : List Item
  pub parts : items ≡ before ++ item ∷ later
  pub open_is : (course_of limit plan before).phase ≡ Open
  pub strange : IsStrangeTo (course_of limit plan before).client item

-- it ends as Strange exactly where the reader sent what was strange
abbrev pub StrangeIsTheReaders : ℕ → Plan → Type 0
StrangeIsTheReaders limit plan = (items : List Item) → ((course_of limit plan items).phase ≡ Failed Strange) ↔ MetStrange limit plan items

-- ---- one course

-- no whole frame is at the front
abbrev pub HasNoFrame : List ℕ → Type 0
HasNoFrame rest = IsPartial rest ⊎ Breaks rest

-- The bytes have one course of all their whole frames.
pub record HasOneCourse (limit : ℕ) (plan : Plan) (bytes : List ℕ) : Type 0 where
  pub rest : List ℕ
  pub course : Course
  pub gathers : Gathers limit plan bytes rest course
  pub no_frame : HasNoFrame rest
  pub only : (tail : List ℕ) (other : Course) → Gathers limit plan bytes tail other → HasNoFrame tail → (tail ≡ rest) × (other ≡ course)

-- One course went on to another: what was sent and reported stays, and so does an end.
pub record GoesOn (old new : Course) : Type 0 where
  pub messages : List ClientMessage
  pub reports : List (List Tree)
  pub sent_are : new.sent ≡ old.sent ++ messages
  pub reports_are : new.reports ≡ old.reports ++ reports
  pub end_stays : old.phase ≢ Open → new ≡ old

-- with more bytes the course of all frames goes on from each that there was
abbrev pub CoursesGoOn : ℕ → Plan → Type 0
CoursesGoOn limit plan = (bytes more rest tail : List ℕ) (old new : Course) →
    Gathers limit plan bytes rest old → Gathers limit plan (bytes ++ more) tail new → HasNoFrame tail → GoesOn old new

-- ---- the steps in order

abbrev pub is_command : ClientContent → Bool
is_command (Asks k) = true
is_command Acknowledges = false

-- the commands that were sent, without what acknowledges a KEEPALIVE
abbrev pub asked : Course → List ClientMessage
asked c = filter (λ m. is_command m.word) c.sent

-- the messages of commands, with ids from one on
abbrev pub numbered : ℕ → List Command → List ClientMessage
numbered id [] = []
numbered id (k ∷ ks) = record { id = id; word = Asks k } ∷ numbered (id + 1) ks

-- The plan's first steps were taken, and their commands sent, in order, with ids from 1 on.
pub record TakesInOrder (plan : Plan) (c : Course) : Type 0 where
  pub first : List Step
  pub parts : steps plan ≡ first ++ c.left
  pub sent_are : asked c ≡ numbered 1 (commands_in first)

-- ---- the next step

-- it accepts the connection
abbrev pub Accepts : Heard → Type 0
Accepts heard = (n : Notification) × (heard ≡ HeardNotification n) × (n.attempt ≡ Some 0)

-- it answers the pending request with this status: it is its response, or an ERROR_MESSAGE under its id
abbrev pub Responds : Pending → ℕ → ℕ → Heard → Type 0
Responds p status id heard = ((operation : Operation) × (rospecs : List Tree) × (heard ≡ HeardResponse operation status rospecs) × (is_response_to p id operation ≡ true)) ⊎ ((heard ≡ HeardError status) × (id ≡ p.id))

-- what GET_ROSPECS_RESPONSE lists is this view
abbrev pub ListsView : List Viewed → Heard → Type 0
ListsView view (HeardResponse Listing status rospecs) = is_view rospecs view ≡ true
ListsView view _ = Unit {0}

-- it is what a command asks for: a response of status 0, which for GET_ROSPECS lists the client's view, or for GET_REPORT, which waits for none, a
-- report
abbrev pub Answers : Option Pending → List Viewed → ℕ → Heard → Type 0
Answers None view id heard = (tags : List Tree) × (heard ≡ HeardReport tags)
Answers (Some p) view id heard = Responds p 0 id heard × ListsView view heard

-- it is what a step asks for, the command of which has this number: what the command asks for, or a report with at least one tag
abbrev pub IsAskedBy : Step → ℕ → List Viewed → ℕ → Heard → Type 0
IsAskedBy (Send k) number view id heard = Answers (awaited number k) view id heard
IsAskedBy AwaitTags number view id heard = (tag : Tree) × (tags : List Tree) × (heard ≡ HeardReport (tag ∷ tags))

-- The last of these steps asks for it.
pub record AnswersLast (done : List Step) (view : List Viewed) (id : ℕ) (heard : Heard) : Type 0 where
  pub before : List Step
  pub step : Step
  pub parts : done ≡ before ++ step ∷ []
  pub is_asked : IsAskedBy step (length (commands_in before) + 1) view id heard

-- After these steps, with this view, the plan awaits this message: one that accepts the connection before the first, and after that one that the last
-- asks for.
abbrev pub IsAwaitedAfter : List Step → List Viewed → ℕ → Heard → Type 0
IsAwaitedAfter done view id heard = ((done ≡ []) × Accepts heard) ⊎ AnswersLast done view id heard

-- From the one to the other the plan's next step was taken, and its command sent if it is one, at an item that was awaited for it.
pub record TakesStep (plan : Plan) (old new : Course) (item : Item) : Type 0 where
  pub done : List Step
  pub parts : steps plan ≡ done ++ old.left
  pub step : Step
  pub next : old.left ≡ step ∷ new.left
  pub sent_are : asked new ≡ asked old ++ numbered (length (commands_in done) + 1) (commands_in (step ∷ []))
  pub message : MessageTree
  pub item_is : item ≡ Msg message
  pub awaits : IsAwaitedAfter done old.client.view message.id (heard_of message)

-- no step was taken, and no command sent
pub record TakesNone (old new : Course) : Type 0 where
  pub left : new.left ≡ old.left
  pub sent_are : asked new ≡ asked old

-- at each item no step is taken, or one, for which it was awaited
abbrev pub TakesOneByOne : ℕ → Plan → Type 0
TakesOneByOne limit plan = (items : List Item) (item : Item) →
    TakesNone (course_of limit plan items) (course_of limit plan (items ++ item ∷ [])) ⊎ TakesStep plan (course_of limit plan items) (course_of limit plan (items ++ item ∷ [])) item

-- wherever a message comes that the steps so far await, and one is left, it is taken
abbrev pub TakesWhereAwaited : ℕ → Plan → Type 0
TakesWhereAwaited limit plan = (items : List Item) (m : MessageTree) (done : List Step) → (course_of limit plan items).phase ≡ Open → (course_of limit plan items).left ≢ [] → steps plan ≡ done ++ (course_of limit plan items).left →
    IsAwaitedAfter done (course_of limit plan items).client.view m.id (heard_of m) → TakesStep plan (course_of limit plan items) (course_of limit plan (items ++ Msg m ∷ [])) (Msg m)

-- ---- the end

-- it refuses the connection, with this status
abbrev pub Refuses : ℕ → Heard → Type 0
Refuses status heard = (n : Notification) × (heard ≡ HeardNotification n) × (n.attempt ≡ Some status)

-- The last of these messages is a command that waits for a response, and it is answered with this status.
pub record RespondsToLast (done : List ClientMessage) (status id : ℕ) (heard : Heard) : Type 0 where
  pub before : List ClientMessage
  pub number : ℕ
  pub k : Command
  pub parts : done ≡ before ++ record { id = number; word = Asks k } ∷ []
  pub pending : Pending
  pub waits : awaited number k ≡ Some pending
  pub responds : Responds pending status id heard

-- after these commands it has a status other than 0: the connection is refused, or the last command
abbrev pub TellsStatus : ℕ → List ClientMessage → ℕ → Heard → Type 0
TellsStatus status done id heard = (status ≢ 0) × (((done ≡ []) × Refuses status heard) ⊎ RespondsToLast done status id heard)

-- it ends the connection: it has a ConnectionCloseEvent, or it is CLOSE_CONNECTION_RESPONSE
abbrev pub TellsEnd : List ClientMessage → ℕ → Heard → Type 0
TellsEnd done id heard = ((n : Notification) × (heard ≡ HeardNotification n) × (n.closes ≡ true)) ⊎ ((status : ℕ) × (rospecs : List Tree) × (heard ≡ HeardResponse Closing status rospecs))

-- One of the items is a message that says this, after the commands that were sent before it.
pub record Told (Tells : List ClientMessage → ℕ → Heard → Type 0) (limit : ℕ) (plan : Plan) (items : List Item) : Type 0 where
  pub before : List Item
  pub message : MessageTree
  pub later : List Item
  pub parts : items ≡ before ++ Msg message ∷ later
  pub open_is : (course_of limit plan before).phase ≡ Open
  pub tells : Tells (asked (course_of limit plan before)) message.id (heard_of message)

-- a report has a tag
abbrev pub has_tag : List Tree → Bool
has_tag [] = false
has_tag (tag ∷ tags) = true

-- how many reports have a tag
abbrev pub with_tags : List (List Tree) → ℕ
with_tags reports = length (filter has_tag reports)

-- All of the plan's commands were sent, there were the reports that were awaited and one for each poll, and then the reader ended the connection.
pub record IsDone (limit : ℕ) (plan : Plan) (items : List Item) : Type 0 where
  pub sent_are : asked (course_of limit plan items) ≡ numbered 1 (commands plan)
  pub tagged : plan.reports ≤ with_tags (course_of limit plan items).reports
  pub polled : plan.reports + plan.polls ≤ length (course_of limit plan items).reports
  pub ended : Told TellsEnd limit plan items

-- A step is left, and the reader ended the connection.
pub record IsEarly (limit : ℕ) (plan : Plan) (items : List Item) : Type 0 where
  pub left : (course_of limit plan items).left ≢ []
  pub ended : Told TellsEnd limit plan items

-- what each end of a course means; the end as Strange is above
pub record EndsMean (limit : ℕ) (plan : Plan) (items : List Item) : Type 0 where
  pub done : (course_of limit plan items).phase ≡ Closed → IsDone limit plan items
  pub early : (course_of limit plan items).phase ≡ Failed Early → IsEarly limit plan items
  pub peer : (status : ℕ) → (course_of limit plan items).phase ≡ Failed (Peer status) → Told (TellsStatus status) limit plan items

-- there is what a reader can say so that the plan comes to its fine end
abbrev pub CanEnd : ℕ → Plan → Type 0
CanEnd limit plan = (messages : List ReaderMessage) × ((course_of limit plan (map (λ (m : ReaderMessage). Msg (reader_message m)) messages)).phase ≡ Closed)

-- ---- within the limit

-- what a client that follows a plan sends is lawful, and no longer than the client's own limit
abbrev pub SendsWithinLimit : Type 0
SendsWithinLimit = (limit : ℕ) (plan : Plan) (bytes rest : List ℕ) (course : Course) → 4096 ≤ limit → limit ≤ MAX_LIMIT → IsValid plan
    → Gathers limit plan bytes rest course → AreSendable limit (map client_message course.sent)
