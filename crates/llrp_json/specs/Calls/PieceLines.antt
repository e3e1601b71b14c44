-- The lines of a stream that comes piece by piece.
use Rattle.std.specs.Prelude.{◌≡◌, ℕ, List, [], ◌++◌}
use Rattle.llrp_schema.specs.declared.kinds.KindSet.{KindSet}
use Rattle.llrp_schema.specs.declared.kinds.KindSet.TheVariants.{Standard}
use Rattle.llrp_tree.specs.OpenTree.{Begun}
use Rattle.llrp_stream.specs.declared.item.Item.{Item}
use Rattle.llrp_stream.specs.declared.engine.frames.Frames.{Frames}
use Rattle.llrp_stream.specs.Cuts.{Breaks}
use Rattle.llrp_stream.specs.Items.{ItemsSoFarIn}
use Rattle.llrp_stream.specs.Calls.Frames.{ComesTo, limit_of, set_of}
use Rattle.llrp_listing.specs.StreamListing.{AreTexts}
use Rattle.llrp_json.specs.declared.printer.JsonPrinter.{JsonPrinter}
use Rattle.llrp_json.specs.declared.lister.ListerPhase.{ListerPhase}
use Rattle.llrp_json.specs.declared.lister.ListerPhase.TheVariants.{Open, Broken, Failed}
use Rattle.llrp_json.specs.JsonLines.{IsItemJson}
use Rattle.llrp_json.specs.Calls.OpenJson.{Awaits, Holds}

-- The text has the texts of the frames that are whole in these octets, in order, and this front is left of them.
pub record IsListed (IsText : Item → List ℕ → Type 0) (p : KindSet) (limit : ℕ) (bytes front text : List ℕ) (frames : Frames) : Type 0 where
  pub items : List Item
  pub so_far : ItemsSoFarIn p limit bytes items front
  pub texts : AreTexts IsText items text
  pub set_is : set_of frames ≡ p
  pub limit_is : limit_of frames ≡ limit

-- what a lister has: its engine, its printer, and whether it takes octets
pub record Listing : Type 0 where
  pub frames : Frames
  pub printer : JsonPrinter
  pub phase : ListerPhase

-- what a printer received, after some text of earlier items
abbrev pub begins_in : JsonPrinter → List ℕ → List Begun → Type 0
begins_in p was t = Awaits p.mark p.depth p.is_parent p.tail p.has_words p.text was t

abbrev pub stands_in : JsonPrinter → List ℕ → List Begun → Type 0
stands_in p was t = Holds p.mark p.depth p.is_parent p.text was t

-- the front is of a frame that is not whole, or the stream breaks in it
abbrev pub IsLeft : ListerPhase → Frames → JsonPrinter → List ℕ → Type 0
IsLeft Open frames printer front = ComesTo (begins_in printer []) (stands_in printer []) frames front
IsLeft Broken frames printer front = Breaks front
IsLeft Failed frames printer front = ⊥

-- A lister took these octets of a stream of the whole standard, and handed this text out: the line of JSON of each frame that is whole in them.
pub record HasListed (limit : ℕ) (bytes text : List ℕ) (l : Listing) : Type 0 where
  pub front : List ℕ
  pub listed : IsListed IsItemJson Standard limit bytes front text l.frames
  pub left : IsLeft l.phase l.frames l.printer front

-- it took a piece more, and handed out the lines of the frames that are whole with it
abbrev pub ListsPiece : List ℕ → Listing → Listing → List ℕ → List ℕ → Type 0
ListsPiece piece old new t0 t1 =
    (limit : ℕ) (bytes text : List ℕ) → HasListed limit bytes text old
    → (more : List ℕ) × (t1 ≡ t0 ++ more) × HasListed limit (bytes ++ piece) (text ++ more) new
