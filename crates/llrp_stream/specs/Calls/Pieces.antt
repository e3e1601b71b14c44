-- What the engine does with octets that come in pieces.
use Rattle.std.specs.Prelude.{◌≡◌, ℕ, ◌<◌, ◌⊎◌, List, [], ◌∷◌, length, drop}
use Rattle.llrp_tree.specs.OpenTree.{Begun}
use Rattle.llrp_stream.specs.declared.engine.body_reader.BodyReader.{BodyReader}
use Rattle.llrp_stream.specs.declared.engine.body.Body.{Body}
use Rattle.llrp_stream.specs.Calls.Front.{IsUndecided}
use Rattle.llrp_stream.specs.Calls.Reading.{Are, settled}

-- The frame has more octets, and those of the front do not decide what comes next.
pub record IsShort (begins stands : List Begun → Type 0) (r : BodyReader) (front : List ℕ) (are : Are begins stands r front) : Type 0 where
  pub more : length front < r.octets
  pub undecided : IsUndecided front r.octets (settled r.stage are.node ∷ are.outer)

-- The engine and its raw octets stand for a front of a frame, and the listener received what is read of it.
pub record BodyStands (begins stands : List Begun → Type 0) (body : Body) (front : List ℕ) : Type 0 where
  pub are : Are begins stands body.reader front
  pub raw : drop body.reader.at front ≡ body.raw.items
  pub few : length body.raw.items < 16
  pub held : (body.raw.items ≡ []) ⊎ IsShort begins stands body.reader front are

-- The engine and its raw octets stand for a front of a frame that has more octets.
pub record Awaits (begins stands : List Begun → Type 0) (body : Body) (front : List ℕ) : Type 0 where
  pub stands_for : BodyStands begins stands body front
  pub short : IsShort begins stands body.reader front stands_for.are
