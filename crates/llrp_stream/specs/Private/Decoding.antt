-- Beside Decoding: words of private functions.
use Rattle.std.specs.Prelude.{◌≡◌, ℕ, List, []}
use Rattle.llrp_schema.specs.declared.kinds.KindSet.{KindSet}
use Rattle.llrp_stream.specs.Private.Building.{HasOpen}
use Rattle.llrp_stream.specs.Calls.Items.{IsSkipped}
use Rattle.llrp_stream.specs.Calls.Frames.{IsReading}
use Rattle.llrp_stream.specs.Decoding.{Kept, between, header, reading, skipping}

-- what is kept is of this front: of one whose header passes its checks, an open tree, perhaps a begun tail, and raw bytes, which together are the front
abbrev pub Keeps : KindSet → ℕ → Kept → List ℕ → Type 0
Keeps p limit between front = front ≡ []
Keeps p limit (header bytes) front = front ≡ bytes
Keeps p limit (reading id bytes progress nodes) front = IsReading (HasOpen nodes) (HasOpen nodes) limit id progress.body front
Keeps p limit (skipping count octets id fault) front = IsSkipped p limit count octets id fault front
Keeps p limit _ front = ⊥
