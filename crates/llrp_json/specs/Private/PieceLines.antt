-- How far a printer has gathered the texts of a stream.
use Rattle.std.specs.Prelude.{◌≡◌, ℕ, ◌≤◌, List, [], ◌++◌, Bool, true, false, Result, Ok, Err, ⊤}
use Rattle.llrp_schema.specs.declared.kinds.KindSet.{KindSet}
use Rattle.llrp_tree.specs.declared.TheConstants.{MAX_LIMIT}
use Rattle.llrp_tree.specs.OpenTree.{Begun}
use Rattle.llrp_tree.specs.Tree.{MessageTree}
use Rattle.llrp_stream.specs.declared.item.Item.{Item}
use Rattle.llrp_stream.specs.declared.engine.frames.Frames.{Frames}
use Rattle.llrp_stream.specs.declared.engine.frames.Outcome.{Outcome}
use Rattle.llrp_stream.specs.Cuts.{Breaks}
use Rattle.llrp_stream.specs.Items.{IsItemIn}
use Rattle.llrp_stream.specs.Calls.Frames.{ComesTo, GivesIn, limit_of}
use Rattle.llrp_json.specs.declared.printer.JsonPrinter.{JsonPrinter}
use Rattle.llrp_json.specs.declared.lister.ListerPhase.{ListerPhase}
use Rattle.llrp_json.specs.declared.lister.ListerPhase.TheVariants.{Open}
use Rattle.llrp_json.specs.Calls.PieceLines.{IsListed, begins_in, stands_in}

-- some front came, and the printer holds no text of whole items
abbrev pub HasCome : (begins stands : List ℕ → List Begun → Type 0) → Frames → Type 0
HasCome begins stands frames = (front : List ℕ) × ComesTo (begins []) (stands []) frames front

-- What is always so of a lister's fields.
pub record IsSound (frames : Frames) (printer : JsonPrinter) (phase : ListerPhase) : Type 0 where
  pub least : 10 ≤ limit_of frames
  pub most : limit_of frames ≤ MAX_LIMIT
  pub comes : phase ≡ Open → HasCome (begins_in printer) (stands_in printer) frames

-- Text was handed out, and the printer holds what follows.
pub record GoesOn (IsText : Item → List ℕ → Type 0) (begins stands : List ℕ → List Begun → Type 0) (p : KindSet) (limit : ℕ) (bytes sent : List ℕ) (frames : Frames) : Type 0 where
  pub front : List ℕ
  pub gathered : List ℕ
  pub listed : IsListed IsText p limit bytes front (sent ++ gathered) frames
  pub comes : ComesTo (begins gathered) (stands gathered) frames front

-- The same, and the stream breaks after it.
pub record IsOver (IsText : Item → List ℕ → Type 0) (stands : List ℕ → List Begun → Type 0) (p : KindSet) (limit : ℕ) (bytes sent : List ℕ) (frames : Frames) : Type 0 where
  pub front : List ℕ
  pub gathered : List ℕ
  pub listed : IsListed IsText p limit bytes front (sent ++ gathered) frames
  pub breaks : Breaks front
  pub holds : stands gathered []

-- whatever was handed out, a piece was gathered
abbrev pub GathersPiece : {E : Type 0} → (IsText : Item → List ℕ → Type 0) (b0 s0 b1 s1 : List ℕ → List Begun → Type 0) → List ℕ → Frames → Frames → Result Bool E → Type 0
GathersPiece IsText b0 s0 b1 s1 piece old new (Ok true) =
    (p : KindSet) (limit : ℕ) (bytes sent : List ℕ) → GoesOn IsText b0 s0 p limit bytes sent old → GoesOn IsText b1 s1 p limit (bytes ++ piece) sent new
GathersPiece IsText b0 s0 b1 s1 piece old new (Ok false) =
    (p : KindSet) (limit : ℕ) (bytes sent : List ℕ) → GoesOn IsText b0 s0 p limit bytes sent old → IsOver IsText s1 p limit (bytes ++ piece) sent new
GathersPiece IsText b0 s0 b1 s1 piece old new (Err error) = ⊤

-- the text of a frame's item was gathered
abbrev pub HasItem : (IsText : Item → List ℕ → Type 0) (stands : List ℕ → List Begun → Type 0) → (p : KindSet) → (limit : ℕ) (frame was : List ℕ) → Type 0
HasItem IsText stands p limit frame was = (item : Item) × (text : List ℕ) × IsItemIn p limit frame item × IsText item text × stands (was ++ text) []

-- so it was, whatever frame it is and whatever was gathered before
abbrev pub TakesOutcome : (IsText : Item → List ℕ → Type 0) (s0 : List ℕ → List Begun → Type 0) (ends : List ℕ → MessageTree → List ℕ → Type 0) (s1 : List ℕ → List Begun → Type 0) → Outcome → Type 0
TakesOutcome IsText s0 ends s1 outcome =
    (p : KindSet) (limit : ℕ) (frame was : List ℕ) → GivesIn p (s0 was) (ends was) (λ now. s0 now []) limit frame outcome → HasItem IsText s1 p limit frame was

-- The printer holds no text of whole items.
pub record Stands (IsText : Item → List ℕ → Type 0) (begins stands : List ℕ → List Begun → Type 0) (p : KindSet) (limit : ℕ) (bytes sent : List ℕ) (frames : Frames) : Type 0 where
  pub front : List ℕ
  pub listed : IsListed IsText p limit bytes front sent frames
  pub comes : ComesTo (begins []) (stands []) frames front

-- The stream breaks in what is left.
pub record HasBroken (IsText : Item → List ℕ → Type 0) (p : KindSet) (limit : ℕ) (bytes sent : List ℕ) (frames : Frames) : Type 0 where
  pub front : List ℕ
  pub listed : IsListed IsText p limit bytes front sent frames
  pub breaks : Breaks front

-- whatever was handed out before, a piece was gathered, and the texts of whole items were handed out
abbrev pub HandsPiece : {E : Type 0} → (IsText : Item → List ℕ → Type 0) (b0 s0 b1 s1 : List ℕ → List Begun → Type 0) → List ℕ → Frames → Frames → (t0 t1 : List ℕ) → Result Bool E → Type 0
HandsPiece IsText b0 s0 b1 s1 piece old new t0 t1 (Ok true) =
    (p : KindSet) (limit : ℕ) (bytes sent : List ℕ) → Stands IsText b0 s0 p limit bytes sent old → (more : List ℕ) × (t1 ≡ t0 ++ more) × Stands IsText b1 s1 p limit (bytes ++ piece) (sent ++ more) new
HandsPiece IsText b0 s0 b1 s1 piece old new t0 t1 (Ok false) =
    (p : KindSet) (limit : ℕ) (bytes sent : List ℕ) → Stands IsText b0 s0 p limit bytes sent old → (more : List ℕ) × (t1 ≡ t0 ++ more) × HasBroken IsText p limit (bytes ++ piece) (sent ++ more) new
HandsPiece IsText b0 s0 b1 s1 piece old new t0 t1 (Err error) = ⊤
