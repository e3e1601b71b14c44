-- The two ends and the bytes on the way between them: frames when they are sent, read in pieces of any size.
use Rattle.std.specs.Prelude.{◌≡◌, ℕ, ◌<◌, ◌^◌, List, [], ◌∷◌, ◌++◌, map, take, drop}
use Rattle.llrp_tree.specs.Tree.{MessageTree}
use Rattle.llrp_stream.specs.declared.item.Item.TheVariants.{Msg}
use Rattle.llrp_stream.specs.Cuts.{IsPartial}
use Rattle.llrp_stream.specs.Items.{ItemsSoFar}
use Rattle.llrp_session.specs.World.{WorldEvent, DeliversUp, DeliversDown}
use Rattle.llrp_session.specs.MessageWorld.{MessageWorld, message_happens, run_messages, message_opening, IsGiven}
use Rattle.llrp_endpoints.specs.Sending.{Adds}

-- one direction: what was read of a frame that is not whole yet, and the bytes on the way after it
pub record Way : Type 0 where
  pub read : List ℕ
  pub coming : List ℕ

-- the two ends, and both ways; among the ends nothing is on the way as a message
pub record ByteWorld : Type 0 where
  pub ends : MessageWorld
  pub up : Way
  pub down : Way

pub data ByteEvent : Type 0 where
  -- what happens to an end by itself; it delivers nothing, since nothing is on the way as a message
  Happens : WorldEvent → ByteEvent
  -- an end reads the next n bytes, or those that there are
  ReadsUp : (now n : ℕ) → ByteEvent
  ReadsDown : (n : ℕ) → ByteEvent

-- The next n bytes are read, or those that there are; these messages are whole in what was read, and the rest begins another.
pub record ReadsBytes (limit n : ℕ) (old new : Way) (messages : List MessageTree) : Type 0 where
  pub whole : ItemsSoFar limit (old.read ++ take n old.coming) (map Msg messages) new.read
  pub unfinished : IsPartial new.read
  pub coming : new.coming ≡ drop n old.coming

-- Messages that an end sends go out as frames, after what is on the way.
pub record Sends (said : List MessageTree) (old new : Way) : Type 0 where
  pub read : new.read ≡ old.read
  pub coming : Adds said old.coming new.coming

-- nothing on the way as a message
abbrev pub apart : MessageWorld → MessageWorld
apart w = record w { up = []; down = [] }

-- the ends once the reader, or the client, took these messages one after another
abbrev pub reader_hears : ℕ → List MessageTree → MessageWorld → MessageWorld
reader_hears now messages w = run_messages (map (λ (m : MessageTree). DeliversUp now) messages) (record w { up = messages })

abbrev pub client_hears : List MessageTree → MessageWorld → MessageWorld
client_hears messages w = run_messages (map (λ (m : MessageTree). DeliversDown) messages) (record w { down = messages })

-- how an event leaves the two ends and the bytes
abbrev pub Steps : ℕ → ByteEvent → ByteWorld → ByteWorld → Type 0
Steps limit (Happens e) old new =
    (new.ends ≡ apart (message_happens old.ends e)) × (Sends (message_happens old.ends e).up old.up new.up × Sends (message_happens old.ends e).down old.down new.down)
Steps limit (ReadsUp now n) old new =
    (messages : List MessageTree) × (ReadsBytes limit n old.up new.up messages × ((new.ends ≡ apart (reader_hears now messages old.ends)) × Sends (reader_hears now messages old.ends).down old.down new.down))
Steps limit (ReadsDown n) old new =
    (messages : List MessageTree) × (ReadsBytes limit n old.down new.down messages × ((new.ends ≡ apart (client_hears messages old.ends)) × Sends (client_hears messages old.ends).up old.up new.up))

-- the events one after another
abbrev pub Runs : ℕ → List ByteEvent → ByteWorld → ByteWorld → Type 0
Runs limit [] old new = new ≡ old
Runs limit (e ∷ es) old new = (mid : ByteWorld) × (Steps limit e old mid × Runs limit es mid new)

abbrev pub nothing : Way
nothing = record { read = []; coming = [] }

-- a reader and a client as new, with one limit
abbrev pub byte_opening : ℕ → ℕ → ℕ → ByteWorld
byte_opening limit reader_first client_first = record { ends = message_opening limit reader_first client_first; up = nothing; down = nothing }

-- an event whose numbers are those that their types hold, and whose ROSpec is lawful
abbrev pub IsGivenEvent : ByteEvent → Type 0
IsGivenEvent (Happens e) = IsGiven e
IsGivenEvent (ReadsUp now n) = now < 2 ^ 64
IsGivenEvent (ReadsDown n) = Unit {0}

abbrev pub AreGivenEvents : List ByteEvent → Type 0
AreGivenEvents [] = Unit {0}
AreGivenEvents (e ∷ es) = IsGivenEvent e × AreGivenEvents es
