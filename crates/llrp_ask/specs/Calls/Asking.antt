-- The next step of a client that asks: what it sends, in which order, what it waits for, and when and how it ends.
use Rattle.std.specs.Prelude.{ℕ, ◌+◌, ◌*◌, ◌==◌, ◌||◌, Bool, true, false, if◌then◌else◌, List, [], ◌∷◌, ◌++◌, Option, Some, None}
use Rattle.std.specs.Int.{to_be_bytes, w32}
use Rattle.llrp_schema.specs.declared.kinds.MsgKind.TheVariants.{WholeCloseConnectionResponse, WholeCustomMessage, WholeKeepalive}
use Rattle.llrp_tree.specs.Tree.{MessageTree}
use Rattle.llrp_stream.specs.declared.item.Item.{Item}
use Rattle.llrp_stream.specs.declared.item.Item.TheVariants.{Msg, Bad}
use Rattle.llrp_listing.specs.declared.outcome.ToolErr.{ToolErr}
use Rattle.llrp_listing.specs.declared.outcome.ToolErr.TheVariants.{Peer, Read}
use Rattle.llrp_ask.specs.declared.step.Step.{Step}
use Rattle.llrp_ask.specs.declared.step.Wait.{Wait}
use Rattle.llrp_ask.specs.declared.step.Wait.TheVariants.{Acceptance, Answer, Pause}
use Rattle.llrp_ask.specs.declared.asking.Phase.{Phase}
use Rattle.llrp_ask.specs.declared.asking.Phase.TheVariants.{Waits, Ended, Failed}
use Rattle.llrp_ask.specs.declared.asking.TheConstants.{CLOSING_ID}
use Rattle.llrp_ask.specs.Calls.Answers.{answer_of, is_message}

-- how far it is
pub record Course : Type 0 where
  pub left : List Step  -- the steps that are not taken yet
  pub phase : Phase
  pub head : ℕ  -- the first octet of the last message that came: four times its version
  pub closing : Bool  -- CLOSE_CONNECTION was sent
  pub refused : Option ℕ  -- the first status other than 0
  pub goes_on : Bool  -- such a status does not end it
  pub sent : List ℕ  -- all octets that were sent

-- the reader is connected, and has not accepted the client yet
abbrev pub first_course : Bool → List Step → Course
first_course goes_on steps = record { left = steps; phase = Waits Acceptance; head = 4; closing = false; refused = None; goes_on = goes_on; sent = [] }

-- ---- the two messages that no file has to have (LLRP 1.1, section 17.1): a type below 256, and no more than a header of ten octets

-- KEEPALIVE_ACK, of type 72, with the id of the KEEPALIVE
abbrev pub acknowledgement : ℕ → ℕ → List ℕ
acknowledgement head id = head ∷ 72 ∷ 0 ∷ 0 ∷ 0 ∷ 10 ∷ to_be_bytes w32 id

-- CLOSE_CONNECTION, of type 14, with the greatest id
abbrev pub farewell : ℕ → List ℕ
farewell head = head ∷ 14 ∷ 0 ∷ 0 ∷ 0 ∷ 10 ∷ 255 ∷ 255 ∷ 255 ∷ 255 ∷ []

-- ---- the next step

-- a step after which this is waited for closes the connection
abbrev pub closes : Option Wait → Bool
closes (Some (Answer WholeCloseConnectionResponse id)) = true
closes _ = false

-- a step is taken, and these are left
abbrev pub taken : Step → List Step → Course → Course
taken step left c = record c { left = left; closing = c.closing || closes step.wait; sent = c.sent ++ step.octets.items }

-- no step is left: the client says CLOSE_CONNECTION, or has ended if that was sent
abbrev pub leave : Course → Course
leave c = if c.closing then record c { left = []; phase = Ended } else record c { left = []; phase = Waits (Answer WholeCloseConnectionResponse CLOSING_ID); closing = true; sent = c.sent ++ farewell c.head }

-- something is waited for, or it goes on so
abbrev pub wait_or : Option Wait → Course → Course → Course
wait_or None c next = next
wait_or (Some wait) c next = record c { phase = Waits wait }

-- steps are taken until one waits for something
abbrev pub take_steps : List Step → Course → Course
take_steps [] c = leave c
take_steps (step ∷ left) c = wait_or step.wait (taken step left c) (take_steps left (taken step left c))

abbrev pub take_next : Course → Course
take_next c = take_steps c.left c

-- ---- what comes

-- a status other than 0: the first is kept, and the steps that are left are dropped, unless it goes on
abbrev pub first_of : Option ℕ → ℕ → Option ℕ
first_of None status = Some status
first_of (Some first) status = Some first

abbrev pub refused_by : ℕ → Course → Course
refused_by status c = record c { refused = first_of c.refused status; left = (if c.goes_on then c.left else []) }

-- an answer came with this status
abbrev pub settled : ℕ → Course → Course
settled status c = if status == 0 then take_next c else take_next (refused_by status c)

-- what is waited for came with this status; a reader that does not accept the client ends it
abbrev pub answered : Wait → ℕ → Course → Course
answered Acceptance status c = if status == 0 then take_next c else record c { phase = Failed (Peer status) }
answered (Answer kind id) status c = settled status c
answered (Pause milliseconds) status c = c

abbrev pub answered_by : Wait → Option ℕ → Course → Course
answered_by wait None c = c
answered_by wait (Some status) c = answered wait status c

abbrev pub hear_in : Phase → MessageTree → Course → Course
hear_in (Waits wait) m c = answered_by wait (answer_of wait m) c
hear_in Ended m c = c
hear_in (Failed error) m c = c

-- a KEEPALIVE is acknowledged, whatever is waited for
abbrev pub acknowledge : Phase → ℕ → Course → Course
acknowledge (Waits wait) id c = record c { sent = c.sent ++ acknowledgement c.head id }
acknowledge Ended id c = c
acknowledge (Failed error) id c = c

abbrev pub hear_message : MessageTree → Course → Course
hear_message m c = if is_message m WholeKeepalive then acknowledge c.phase m.id c else hear_in c.phase m c

-- a message came
abbrev pub hear : MessageTree → Course → Course
hear m c = hear_message m (record c { head = 4 * m.version })

-- nothing more came in time: a pause is over, a CUSTOM_MESSAGE may stay without an answer, and all else is a fault
abbrev pub silent_in : Phase → Course → Course
silent_in (Waits Acceptance) c = record c { phase = Failed Read }
silent_in (Waits (Answer WholeCustomMessage id)) c = take_next c
silent_in (Waits (Answer kind id)) c = record c { phase = Failed Read }
silent_in (Waits (Pause milliseconds)) c = take_next c
silent_in Ended c = c
silent_in (Failed error) c = c

-- nothing more can come, for this reason
abbrev pub fail : Phase → ToolErr → Course → Course
fail (Waits wait) error c = record c { phase = Failed error }
fail Ended error c = c
fail (Failed first) error c = c

-- ---- what happens

pub data Event : Type 0 where
  Came : Item → Event  -- a frame
  Silence : Event  -- the time for what is waited for is over

abbrev pub after : Event → Course → Course
after (Came (Msg m)) c = hear m c
after (Came (Bad id fault)) c = c
after Silence c = silent_in c.phase c

abbrev pub follow : List Event → Course → Course
follow [] c = c
follow (event ∷ events) c = follow events (after event c)

-- the frames that came
abbrev pub items_of : List Event → List Item
items_of [] = []
items_of (Came item ∷ events) = item ∷ items_of events
items_of (Silence ∷ events) = items_of events

-- how often time was over
abbrev pub silences_of : List Event → ℕ
silences_of [] = 0
silences_of (Came item ∷ events) = silences_of events
silences_of (Silence ∷ events) = 1 + silences_of events
