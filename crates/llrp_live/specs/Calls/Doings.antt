-- What a simulated reader in real time does for the items of a client, and what it says then.
use Rattle.std.specs.Prelude.{ℕ, ◌==◌, Bool, true, false, is_some, if◌then◌else◌, List, [], ◌∷◌, ◌++◌, Option, Some, None}
use Rattle.llrp_schema.specs.declared.kinds.MsgKind.{MsgKind}
use Rattle.llrp_schema.specs.declared.kinds.MsgKind.TheVariants.{CloseConnection}
use Rattle.llrp_schema.specs.declared.kinds.Kind.TheVariants.{Message}
use Rattle.llrp_schema.specs.declared.kinds.KindSet.TheVariants.{Profile}
use Rattle.llrp_schema.specs.Schema.{message_in, number_of}
use Rattle.llrp_tree.specs.declared.fault.Reason.{Reason}
use Rattle.llrp_tree.specs.declared.fault.Reason.TheVariants.{MessageType, Missing, Version}
use Rattle.llrp_tree.specs.Tree.{MessageTree}
use Rattle.llrp_stream.specs.declared.item.Item.{Item}
use Rattle.llrp_stream.specs.declared.item.Item.TheVariants.{Msg, Bad}
use Rattle.llrp_session.specs.Calls.Answers.{answer_of}
use Rattle.llrp_session.specs.Calls.SideEvents.{notified, having_notified}
use Rattle.llrp_session.specs.Reading.{request_of}
use Rattle.llrp_session.specs.declared.reader.side_events.SideEvent.{SideEvent}
use Rattle.llrp_session.specs.ReaderMachine.{Reader, ReaderEvent, Take, TakeBad, next}
use Rattle.llrp_versions.specs.declared.version.Version.{Version as TheVersion}
use Rattle.llrp_versions.specs.Calls.Versions.{Heard, InUse, Other, Answered, hear}
use Rattle.llrp_answers.specs.declared.answers.Pair.{Pair}
use Rattle.llrp_answers.specs.Calls.Answers.{answers_to}
use Rattle.llrp_endpoints.specs.Heard.{own_message}
use Rattle.llrp_endpoints.specs.Serving.{said, turn_or_none}

-- ---- what is done for an item

-- messages are sent, an event happens to the reader's machine, or something happens beside that
pub data Doing : Type 0 where
  Answers : (replies : List MessageTree) → Doing
  Happens : (event : ReaderEvent) → Doing
  Notes : (event : SideEvent) → Doing

-- the profile has the kind
abbrev pub is_inside : MsgKind → Bool
is_inside kind = is_some (message_in Profile (number_of (Message kind)))

-- why the reader takes nothing of a message: the profile does not have its kind, or it has nothing lawful of it
abbrev pub lack_of : MsgKind → Reason
lack_of kind = if is_inside kind then Missing else MessageType

-- the reader takes what the profile has of a message
abbrev pub part_taken : MessageTree → Option MessageTree → ReaderEvent
part_taken m None = TakeBad m.id (lack_of m.kind)
part_taken m (Some own) = Take own.version own.id (request_of own)

-- a message is answered, where it has an answer, or the reader takes it
abbrev pub answered_or_taken : MessageTree → Option MessageTree → Doing
answered_or_taken m (Some reply) = Answers (reply ∷ [])
answered_or_taken m None = Happens (part_taken m (own_message m))

-- where a file has messages for it, these are the answer
abbrev pub answered_by : MessageTree → Option (List MessageTree) → Doing
answered_by m (Some replies) = Answers replies
answered_by m None = answered_or_taken m (answer_of m)

-- the answers of a file are for kinds that the profile does not have
abbrev pub of_this_version : List Pair → MessageTree → Doing
of_this_version ps m = if is_inside m.kind then answered_or_taken m (answer_of m) else answered_by m (answers_to ps m)

-- a message about versions is answered, and one of another version than that in use is refused
abbrev pub by_version : List Pair → MessageTree → Heard → Doing
by_version ps m InUse = of_this_version ps m
by_version ps m Other = Happens (TakeBad m.id Version)
by_version ps m (Answered reply version) = Answers (reply ∷ [])

abbrev pub doing : List Pair → TheVersion → Item → Doing
doing ps v (Msg m) = by_version ps m (hear v m)
doing ps v (Bad id fault) = Happens (TakeBad id fault.reason)

-- the version that is in use after an item
abbrev pub then_in_use : TheVersion → Heard → TheVersion
then_in_use v InUse = v
then_in_use v Other = v
then_in_use v (Answered reply version) = version

abbrev pub next_version : TheVersion → Item → TheVersion
next_version v (Msg m) = then_in_use v (hear v m)
next_version v (Bad id fault) = v

-- and after several
abbrev pub agreed : TheVersion → List Item → TheVersion
agreed v [] = v
agreed v (item ∷ items) = agreed (next_version v item) items

-- it comes to the reader
abbrev pub comes_in : Doing → Bool
comes_in (Answers replies) = false
comes_in (Happens event) = true
comes_in (Notes event) = false

-- the item is CLOSE_CONNECTION
abbrev pub closes : Item → Bool
closes (Msg m) = number_of (Message m.kind) == number_of (Message CloseConnection)
closes (Bad id fault) = false

-- ---- what is said then

-- a doing and its moment, in microseconds
pub record Dated : Type 0 where
  pub now : ℕ
  pub doing : Doing

-- what was said, and the reader then
pub record Outcome : Type 0 where
  pub said : List MessageTree
  pub reader : Reader

-- of one doing; a refused event changes nothing
abbrev pub once : Reader → Dated → Doing → Outcome
once r d (Answers replies) = record { said = replies; reader = r }
once r d (Happens event) = record { said = said (turn_or_none r (next d.now event r)); reader = (turn_or_none r (next d.now event r)).reader }
once r d (Notes event) = record { said = notified r.phase d.now event r; reader = having_notified r.phase r }

-- of doings one after another
abbrev pub course : Reader → List Dated → Outcome
course r [] = record { said = []; reader = r }
course r (d ∷ ds) =
    let first = once r d d.doing in
    let later = course first.reader ds in
    record { said = first.said ++ later.said; reader = later.reader }

-- the items are taken at this moment, where this version is in use before them
abbrev pub taken_at : ℕ → List Pair → TheVersion → List Item → List Dated
taken_at now ps v [] = []
taken_at now ps v (item ∷ items) = record { now = now; doing = doing ps v item } ∷ taken_at now ps (next_version v item) items
