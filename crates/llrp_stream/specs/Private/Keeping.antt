-- What the fields of a decoder are, and what they keep.
use Rattle.std.specs.Prelude.{◌≡◌, ◌≤◌, ◌⊎◌, []}
use Rattle.llrp_tree.specs.declared.TheConstants.{MAX_LIMIT}
use Rattle.llrp_stream.specs.declared.engine.body.Body.{Body}
use Rattle.llrp_stream.specs.declared.engine.frames.Frames.{Frames}
use Rattle.llrp_stream.specs.declared.state.State.{State}
use Rattle.llrp_stream.specs.declared.state.State.TheVariants.{Between, Header, Reading, Skipping, Broken, Dead}
use Rattle.llrp_stream.specs.Building.{Building}
use Rattle.llrp_stream.specs.Private.Building.{HasOpen}
use Rattle.llrp_stream.specs.Decoding.{Kept, between, header, reading, skipping, broken, dead, DecoderState}
use Rattle.llrp_stream.specs.Calls.Frames.{Comes}

-- a state with what the engine and the builder keep
abbrev pub kept : State → Body → Building → Kept
kept Between body building = between
kept Header body building = header body.raw.items
kept (Reading id) body building = reading id body.raw.items (record { body = body }) building
kept (Skipping count faulty) body building = skipping count faulty.octets faulty.id faulty.fault
kept Broken body building = broken
kept Dead body building = dead

abbrev pub decoder : Frames → Building → DecoderState
decoder frames building = record { set = frames.body.reader.set; limit = frames.limit; kept = kept frames.state frames.body building }

-- What is always so of a decoder's fields: some front came, or it keeps nothing.
pub record IsKept (frames : Frames) (building : Building) : Type 0 where
  pub least : 10 ≤ frames.limit
  pub most : frames.limit ≤ MAX_LIMIT
  pub comes : Comes (λ was. HasOpen building) (λ was. HasOpen building) frames
  pub ended : (frames.state ≡ Broken) ⊎ (frames.state ≡ Dead) → (frames.body.raw.items ≡ []) × (building.nodes ≡ [])
