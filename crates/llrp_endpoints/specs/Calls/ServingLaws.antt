-- What holds of every serving.
use Rattle.std.specs.Prelude.{◌≡◌, ◌↔◌, ◌⊎◌, ◌^◌, ◌<◌, ℕ, List, [], map}
use Rattle.llrp_tree.specs.Tree.{MessageTree}
use Rattle.llrp_stream.specs.declared.item.Item.TheVariants.{Msg}
use Rattle.llrp_stream.specs.Items.{ItemsSoFar}
use Rattle.llrp_session.specs.ReaderMachine.{Reader}
use Rattle.llrp_session.specs.Calls.MessageWorld.{AreSendable}
use Rattle.llrp_endpoints.specs.declared.script.Entry.{Entry}
use Rattle.llrp_endpoints.specs.Calls.Script.{IsLawfulScript}
use Rattle.llrp_endpoints.specs.Sending.{AreFrames}
use Rattle.llrp_endpoints.specs.Serving.{Standing, waiting, ended, early, BeginsServing, IsNewReader}

-- Octets are served in one way, where this is what serving says to them: one list of messages is said, and serving is in one state if
-- no more octets come. It waits for more exactly where it ends, or would end too early.
pub record IsServedInOneWay (Says : List MessageTree → Standing → Type 0) : Type 0 where
  pub messages : List MessageTree
  pub standing : Standing
  pub over : standing ≡ waiting → ⊥
  pub serves : Says messages standing
  pub only_messages : (others : List MessageTree) (other : Standing) → Says others other → others ≡ messages
  pub only_standing : (others : List MessageTree) (other : Standing) → Says others other → (other ≡ waiting → ⊥) → other ≡ standing
  pub waits : Says messages waiting ↔ ((standing ≡ ended) ⊎ (standing ≡ early))

-- messages have one list of frames
abbrev pub OneTextOfFrames : Type 0
OneTextOfFrames = (messages : List MessageTree) (s t : List ℕ) → AreFrames messages s → AreFrames messages t → s ≡ t

-- the frames of messages that may be sent at a limit are read, at that limit, as these messages
abbrev pub FramesReadBack : Type 0
FramesReadBack = (limit : ℕ) (messages : List MessageTree) (bytes : List ℕ) → AreSendable limit messages → AreFrames messages bytes → ItemsSoFar limit bytes (map Msg messages) []

-- what a new reader says by a script is lawful, and no longer than the reader's own limit
abbrev pub SaysWithinLimit : Type 0
SaysWithinLimit = (reader : Reader) (entries : List Entry) (bytes : List ℕ) (messages : List MessageTree) → IsNewReader reader → reader.next_id < 2 ^ 32 → IsLawfulScript entries
    → BeginsServing reader entries bytes messages → AreSendable reader.limit messages
