-- What a simulated reader in real time stands for, and what its calls make of it.
use Rattle.std.specs.Prelude.{◌≡◌, ℕ, ◌+◌, ◌++◌, min, if◌then◌else◌, Bool, true, false, List, [], ◌∷◌, Result, Ok, Err}
use Rattle.std.specs.List.{AllByRecursion}
use Rattle.llrp_schema.specs.declared.kinds.KindSet.TheVariants.{Standard}
use Rattle.llrp_tree.specs.Tree.{MessageTree}
use Rattle.llrp_stream.specs.Calls.Decoding.{StandsIn}
use Rattle.llrp_stream.specs.Cuts.{Breaks, EndsStream}
use Rattle.llrp_stream.specs.Items.{ItemsSoFarIn}
use Rattle.llrp_stream.specs.declared.item.End.{End}
use Rattle.llrp_stream.specs.declared.item.Item.{Item}
use Rattle.llrp_session.specs.ReaderMachine.{Reader}
use Rattle.llrp_listing.specs.declared.outcome.ToolErr.{ToolErr}
use Rattle.llrp_listing.specs.declared.outcome.ToolErr.TheVariants.{Broken, Memory}
use Rattle.llrp_answers.specs.declared.answers.Pair.{Pair}
use Rattle.llrp_versions.specs.declared.version.Version.{Version}
use Rattle.llrp_versions.specs.declared.version.Version.TheVariants.{First}
use Rattle.llrp_live.specs.declared.reader.LiveReader.{LiveReader}
use Rattle.llrp_live.specs.declared.reader.LivePhase.TheVariants.{Open, Closed, Failed}
use Rattle.llrp_live.specs.Calls.Doings.{Dated, agreed, course, taken_at, closes, comes_in, doing, next_version}

-- a reader before anything happened, and the answers of a file
pub record Begun : Type 0 where
  pub reader : Reader
  pub answers : List Pair

abbrev pub begun : Reader → List Pair → Begun
begun reader answers = record { reader = reader; answers = answers }

-- how many of these items came to the reader, where this version is in use before them
abbrev pub came : List Pair → Version → List Item → ℕ
came ps v [] = 0
came ps v (item ∷ items) = (if comes_in (doing ps v item) then 1 else 0) + came ps (next_version v item) items

-- the same as a u64, where it stops at the greatest; a connection begins in version 1
abbrev pub taken_of : List Pair → List Item → ℕ
taken_of ps items = min (came ps First items) 18446744073709551615

-- what is done for these items at a moment, after others
abbrev pub taken_after : ℕ → Begun → List Item → List Item → List Dated
taken_after now b items more = taken_at now b.answers (agreed First items) more

-- It was given the octets, of which these are the items, and did this since the reader was as it was at first; it goes on.
pub record Lives (b : Begun) (before : List Dated) (bytes : List ℕ) (items : List Item) (s : LiveReader) : Type 0 where
  pub rest : List ℕ
  pub are : ItemsSoFarIn Standard b.reader.limit bytes items rest
  pub reader_is : s.core ≡ (course b.reader before).reader
  pub decoder : StandsIn Standard s.decoder rest
  pub limit : s.decoder.limit ≡ b.reader.limit
  pub phase : s.phase ≡ Open
  pub taken : s.taken ≡ taken_of b.answers items
  pub answers : s.answers.pairs.items ≡ b.answers
  pub version : s.version ≡ agreed First items

-- one doing more: what the reader says to it was appended
pub record Happened (d : Dated) (b : Begun) (before : List Dated) (bytes : List ℕ) (items : List Item) (old new : LiveReader) (out0 out1 : List MessageTree) : Type 0 where
  pub said : out1 ≡ out0 ++ (course old.core (d ∷ [])).said
  pub lives : Lives b (before ++ d ∷ []) bytes items new

-- ---- a piece at a moment

abbrev pub NoneCloses : List Item → Type 0
NoneCloses items = AllByRecursion (λ item. closes item ≡ false) items

-- The items that end in the piece were taken, none of which closes the connection, and what is said to them appended.
pub record GoesOn (now : ℕ) (piece : List ℕ) (b : Begun) (before : List Dated) (bytes : List ℕ) (items : List Item) (old new : LiveReader) (out0 out1 : List MessageTree) : Type 0 where
  pub more : List Item
  pub none : NoneCloses more
  pub said : out1 ≡ out0 ++ (course old.core (taken_after now b items more)).said
  pub lives : Lives b (before ++ taken_after now b items more) (bytes ++ piece) (items ++ more) new

-- The items up to the first that closes the connection were taken; what follows it in the piece is dropped. In what is said of
-- an end, too, the reader is what all that was done made of it.
pub record HasClosed (now : ℕ) (piece : List ℕ) (b : Begun) (before : List Dated) (bytes : List ℕ) (items : List Item) (old new : LiveReader) (out0 out1 : List MessageTree) : Type 0 where
  pub front : List ℕ
  pub later : List ℕ
  pub more : List Item
  pub last : Item
  pub parts : piece ≡ front ++ later
  pub none : NoneCloses more
  pub closing : closes last ≡ true
  pub are : ItemsSoFarIn Standard b.reader.limit (bytes ++ front) (items ++ (more ++ last ∷ [])) []
  pub said : out1 ≡ out0 ++ (course old.core (taken_after now b items (more ++ last ∷ []))).said
  pub reader_is : new.core ≡ (course b.reader (before ++ taken_after now b items (more ++ last ∷ []))).reader

-- The items before the break were taken, and what is said to them appended.
pub record IsBroken (now : ℕ) (piece : List ℕ) (b : Begun) (before : List Dated) (bytes : List ℕ) (items : List Item) (old new : LiveReader) (out0 out1 : List MessageTree) : Type 0 where
  pub more : List Item
  pub rest : List ℕ
  pub none : NoneCloses more
  pub are : ItemsSoFarIn Standard b.reader.limit (bytes ++ piece) (items ++ more) rest
  pub breaks : Breaks rest
  pub said : out1 ≡ out0 ++ (course old.core (taken_after now b items more)).said
  pub reader_is : new.core ≡ (course b.reader (before ++ taken_after now b items more)).reader

-- Some first items that end in the piece were taken, and what is said to them appended, before memory ran out.
pub record RanOut (now : ℕ) (piece : List ℕ) (b : Begun) (before : List Dated) (bytes : List ℕ) (items : List Item) (old new : LiveReader) (out0 out1 : List MessageTree) : Type 0 where
  pub front : List ℕ
  pub later : List ℕ
  pub more : List Item
  pub rest : List ℕ
  pub parts : piece ≡ front ++ later
  pub are : ItemsSoFarIn Standard b.reader.limit (bytes ++ front) (items ++ more) rest
  pub said : out1 ≡ out0 ++ (course old.core (taken_after now b items more)).said
  pub reader_is : new.core ≡ (course b.reader (before ++ taken_after now b items more)).reader

-- an end by an error
abbrev pub Fails : ℕ → List ℕ → Begun → List Dated → List ℕ → List Item → LiveReader → LiveReader → List MessageTree → List MessageTree → ToolErr → Type 0
Fails now piece b before bytes items old new out0 out1 Broken = IsBroken now piece b before bytes items old new out0 out1
Fails now piece b before bytes items old new out0 out1 Memory = RanOut now piece b before bytes items old new out0 out1
Fails now piece b before bytes items old new out0 out1 _ = ⊥

-- what a piece makes of it: it goes on, the client closed the connection, or it ended by an error
abbrev pub Goes : ℕ → List ℕ → Begun → List Dated → List ℕ → List Item → LiveReader → LiveReader → List MessageTree → List MessageTree → Result Bool ToolErr → Type 0
Goes now piece b before bytes items old new out0 out1 (Ok false) = GoesOn now piece b before bytes items old new out0 out1
Goes now piece b before bytes items old new out0 out1 (Ok true) = HasClosed now piece b before bytes items old new out0 out1
Goes now piece b before bytes items old new out0 out1 (Err error) = Fails now piece b before bytes items old new out0 out1 error

-- whatever came before, it took this piece so
abbrev pub Feeds : ℕ → List ℕ → LiveReader → LiveReader → List MessageTree → List MessageTree → Result Bool ToolErr → Type 0
Feeds now piece old new out0 out1 answer =
    (b : Begun) (before : List Dated) (bytes : List ℕ) (items : List Item) → Lives b before bytes items old
    → Goes now piece b before bytes items old new out0 out1 answer

-- it has ended with this answer
abbrev pub IsOver : Result Bool ToolErr → LiveReader → Type 0
IsOver (Ok false) s = ⊥
IsOver (Ok true) s = s.phase ≡ Closed
IsOver (Err error) s = s.phase ≡ Failed error

-- how the octets end after these items
abbrev pub EndsAll : (limit : ℕ) → List ℕ → List Item → End → Type 0
EndsAll limit bytes items end = (rest : List ℕ) × ItemsSoFarIn Standard limit bytes items rest × EndsStream rest end
