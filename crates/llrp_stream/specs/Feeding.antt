-- What a decoder answers to pieces, and what becomes of it.
use Rattle.std.specs.Prelude.{◌≡◌, ℕ, ◌≤◌, ◌⊎◌, false, List, [], ◌∷◌, ◌++◌, length, take, drop, Option, Some, None, Result, Ok, Err}
use Rattle.llrp_schema.specs.declared.kinds.KindSet.{KindSet}
use Rattle.llrp_schema.specs.declared.kinds.KindSet.TheVariants.{Profile}
use Rattle.llrp_stream.specs.declared.item.Item.{Item}
use Rattle.llrp_stream.specs.declared.item.End.{End}
use Rattle.llrp_stream.specs.declared.item.End.TheVariants as at_end
use Rattle.llrp_stream.specs.declared.item.Fed.{Fed}
use Rattle.llrp_stream.specs.declared.item.FeedErr.{FeedErr}
use Rattle.llrp_stream.specs.declared.item.FeedErr.TheVariants.{Broken, Memory, Dead}
use Rattle.llrp_stream.specs.Cuts.{IsFrame, Breaks, EndsStream}
use Rattle.llrp_stream.specs.Items.{IsItemIn}
use Rattle.llrp_stream.specs.Decoding.{DecoderState, IsBroken, IsDead, is_skipping}
use Rattle.llrp_stream.specs.Calls.Decoding.{StandsIn}

-- What a feed took: without an item the whole piece, which now belongs to the front; with an item the bytes up to the frame's end, and it is that frame's.
abbrev pub TakesIn : (p : KindSet) → (limit : ℕ) → (front piece : List ℕ) → DecoderState → (used : ℕ) → Option Item → Type 0
TakesIn p limit front piece new used None = (used ≡ length piece) × StandsIn p new (front ++ piece)
TakesIn p limit front piece new used (Some item) = (used ≤ length piece) × IsFrame (front ++ take used piece) × IsItemIn p limit (front ++ take used piece) item × StandsIn p new []

-- What a feed does where the decoder stood for a front: it takes bytes, or the front with the piece is no front of a frame, or a growth was refused (never while it skips).
abbrev pub FeedsIn : KindSet → DecoderState → (front piece : List ℕ) → DecoderState → Result Fed FeedErr → Type 0
FeedsIn p old front piece new (Ok fed) = TakesIn p old.limit front piece new fed.used fed.item
FeedsIn p old front piece new (Err Broken) = Breaks (front ++ piece) × IsBroken new
FeedsIn p old front piece new (Err Memory) = (is_skipping old.kept ≡ false) × IsDead new
FeedsIn p old front piece new (Err Dead) = ⊥

-- A feed of a decoder, in the words of its contract.
pub record Feed (old : DecoderState) (piece : List ℕ) (new : DecoderState) (answer : Result Fed FeedErr) : Type 0 where
  pub set : new.set ≡ old.set
  pub limit : new.limit ≡ old.limit
  pub stands : (p : KindSet) (front : List ℕ) → StandsIn p old front → FeedsIn p old front piece new answer
  pub broken : IsBroken old → (answer ≡ Err Broken) × IsBroken new
  pub dead : IsDead old → (answer ≡ Err Dead) × IsDead new

-- an answer that gives no item, and leaves a decoder that gives the stream's end
abbrev pub GivesNone : Result Fed FeedErr → Type 0
GivesNone (Ok fed) = fed.item ≡ None
GivesNone (Err Broken) = Unit {0}
GivesNone (Err _) = ⊥

-- A piece is fed, and after each item what is left of it, until nothing is left or a feed gives no item; these items come.
abbrev pub TakesPiece : DecoderState → List ℕ → List Item → DecoderState → Type 0
TakesPiece old piece [] new = ((piece ≡ []) × (new ≡ old)) ⊎ ((answer : Result Fed FeedErr) × (GivesNone answer × Feed old piece new answer))
TakesPiece old piece (item ∷ items) new =
    (used : ℕ) × ((mid : DecoderState) × (Feed old piece mid (Ok (record { used = used; item = Some item })) × TakesPiece mid (drop used piece) items new))

-- pieces are fed one after another, and these items come
abbrev pub TakesPieces : DecoderState → List (List ℕ) → List Item → DecoderState → Type 0
TakesPieces old [] items new = (items ≡ []) × (new ≡ old)
TakesPieces old (piece ∷ pieces) items new =
    (first later : List Item) × ((mid : DecoderState) × ((items ≡ first ++ later) × (TakesPiece old piece first mid × TakesPieces mid pieces later new)))

-- What the decoder returns where the stream ends, in the words of its contract.
pub record Finishes (decoder : DecoderState) (end : End) : Type 0 where
  pub stands : (p : KindSet) (front : List ℕ) → StandsIn p decoder front → EndsStream front end
  pub broken : IsBroken decoder → end ≡ at_end.Broken
  pub dead : IsDead decoder → end ≡ at_end.Dead

-- ---- the same of the profile

abbrev pub Feeds : DecoderState → (front piece : List ℕ) → DecoderState → Result Fed FeedErr → Type 0
Feeds old front piece new answer = FeedsIn Profile old front piece new answer
