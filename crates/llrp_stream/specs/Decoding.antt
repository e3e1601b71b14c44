-- What a decoder stands for, whatever it keeps.
use Rattle.std.specs.Prelude.{◌≡◌, ℕ, ◌+◌, Bool, true, false, List, length}
use Rattle.llrp_schema.specs.declared.kinds.KindSet.{KindSet}
use Rattle.llrp_tree.specs.declared.fault.Fault.{Fault}
use Rattle.llrp_stream.specs.Building.{Building, nodes_weight}
use Rattle.llrp_stream.specs.Calls.Progress.{Progress}

-- what a decoder keeps
pub data Kept : Type 0 where
  -- nothing, where no frame is begun
  between : Kept
  -- the raw bytes of a header that is not whole
  header : (bytes : List ℕ) → Kept
  -- the id of a frame, the raw bytes of a part that is not whole, how far it is read, and its nodes
  reading : (id : ℕ) (bytes : List ℕ) (progress : Progress) (nodes : Building) → Kept
  -- of a frame that it skips, how many bytes were taken, its length field, its id and its fault
  skipping : (count octets id : ℕ) (fault : Fault) → Kept
  -- nothing, after a break and after a refused growth
  broken : Kept
  dead : Kept

-- a decoder, the set of kinds that it knows, and the most octets that a frame may have
pub record DecoderState : Type 0 where
  pub set : KindSet
  pub limit : ℕ
  pub kept : Kept

-- how many raw bytes
abbrev pub raw_octets : Kept → ℕ
raw_octets (header bytes) = length bytes
raw_octets (reading id bytes progress nodes) = length bytes
raw_octets _ = 0

-- two for each node that is kept, the message and open parents among them, and the octets of their tails, those of a begun one among them
abbrev pub kept_weight : Kept → ℕ
kept_weight (reading id bytes progress nodes) = nodes_weight nodes.nodes
kept_weight _ = 0

-- what a decoder weighs: its raw bytes and its nodes
abbrev pub held_weight : DecoderState → ℕ
held_weight decoder = raw_octets decoder.kept + kept_weight decoder.kept

abbrev pub is_skipping : Kept → Bool
is_skipping (skipping count octets id fault) = true
is_skipping _ = false

-- the stream broke
abbrev pub IsBroken : DecoderState → Type 0
IsBroken decoder = decoder.kept ≡ broken

-- a growth was refused
abbrev pub IsDead : DecoderState → Type 0
IsDead decoder = decoder.kept ≡ dead
