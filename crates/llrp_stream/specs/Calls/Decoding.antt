-- Beside Decoding: what contracts say that no promise rests on.
use Rattle.std.specs.Prelude.{◌≡◌, ℕ, List, ◌++◌, length}
use Rattle.llrp_schema.specs.declared.kinds.KindSet.{KindSet}
use Rattle.llrp_schema.specs.declared.kinds.KindSet.TheVariants.{Profile}
use Rattle.llrp_tree.specs.Calls.Deciding.{FailsIn}
use Rattle.llrp_stream.specs.Cuts.{IsFrame, IsPartial}
use Rattle.llrp_stream.specs.Decoding.{DecoderState}
use Rattle.llrp_stream.specs.Private.Decoding.{Keeps}

-- The decoder stands for the bytes of an unfinished frame: it goes on from them, whatever pieces they came in.
pub record StandsIn (p : KindSet) (decoder : DecoderState) (front : List ℕ) : Type 0 where
  pub set : decoder.set ≡ p
  pub unfinished : IsPartial front
  pub keeps : Keeps p decoder.limit decoder.kept front

-- the front decides a fault of a frame that begins with it
abbrev pub IsDecidedIn : KindSet → ℕ → List ℕ → Type 0
IsDecidedIn p limit front = (more : List ℕ) × IsFrame (front ++ more) × FailsIn p limit (front ++ more) (length front)

-- ---- the same of the profile

abbrev pub Stands : DecoderState → (front : List ℕ) → Type 0
Stands decoder front = StandsIn Profile decoder front
