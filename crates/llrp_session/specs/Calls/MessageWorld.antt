-- Beside MessageWorld: what contracts say that no promise rests on.
use Rattle.std.specs.Prelude.{ℕ, List, [], ◌∷◌, map}
use Rattle.llrp_tree.specs.Tree.{MessageTree}
use Rattle.llrp_session.specs.Calls.World.{World}
use Rattle.llrp_session.specs.World.{WorldEvent, Commands}
use Rattle.llrp_session.specs.ReaderMessages.{reader_message}
use Rattle.llrp_session.specs.ClientMessages.{client_message}
use Rattle.llrp_session.specs.Calls.LawfulWords.{IsSendable, AddsRoSpec}
use Rattle.llrp_session.specs.MessageWorld.{MessageWorld}

-- ---- the law

-- a world over words, with the message of each word on the way
abbrev pub in_messages : World → MessageWorld
in_messages w = record {
  reader = w.reader;
  client = w.client;
  up = map client_message w.up;
  down = map reader_message w.down;
  handed_out = w.handed_out;
  reported = w.reported;
  kept = w.kept;
  tables = w.tables;
  differing = w.differing;
  listed = w.listed;
}

abbrev pub IsOfRoSpecs : WorldEvent → Type 0
IsOfRoSpecs (Commands k) = AddsRoSpec k
IsOfRoSpecs _ = Unit {0}

-- each ROSpec that is added is a ROSpec
abbrev pub AreOfRoSpecs : List WorldEvent → Type 0
AreOfRoSpecs [] = Unit {0}
AreOfRoSpecs (e ∷ es) = IsOfRoSpecs e × AreOfRoSpecs es

-- ---- what is on its way may be sent

abbrev pub AreSendable : ℕ → List MessageTree → Type 0
AreSendable limit [] = Unit {0}
AreSendable limit (m ∷ ms) = IsSendable limit m × AreSendable limit ms
