-- What the decoder reads in the first bytes of a frame.
use Rattle.std.specs.Prelude.{◌≡◌, ℕ, ◌<◌, ◌≤◌, List, length, Some}
use Rattle.llrp_schema.specs.declared.kinds.KindSet.{KindSet}
use Rattle.llrp_tree.specs.declared.header.Header.{Header}
use Rattle.llrp_tree.specs.Lawful.{AreOctets}
use Rattle.llrp_tree.specs.Calls.Header.{HasHeaderIn}
use Rattle.llrp_stream.specs.declared.header.FaultyHeader.{FaultyHeader}
use Rattle.llrp_stream.specs.declared.header.FrameStart.{FrameStart}
use Rattle.llrp_stream.specs.declared.header.FrameStart.TheVariants.{Short, Breaking, Faulty, Sound}
use Rattle.llrp_stream.specs.Cuts.{length_field, IsPartial, Breaks}
use Rattle.llrp_stream.specs.Items.{id_field}
use Rattle.llrp_stream.specs.Calls.Items.{header_fault_in}

-- A whole header that fails a check.
pub record IsFaulty (p : KindSet) (limit : ℕ) (bytes : List ℕ) (header : FaultyHeader) : Type 0 where
  pub long : 10 ≤ length bytes
  pub least : 10 ≤ header.octets
  pub octets_are : header.octets ≡ length_field bytes
  pub id_is : header.id ≡ id_field bytes
  pub fault_is : header_fault_in p limit bytes ≡ Some (header.fault.bit, header.fault.reason)

-- A whole header that passes its checks, whatever comes after it.
pub record IsSound (p : KindSet) (limit : ℕ) (bytes : List ℕ) (header : Header) : Type 0 where
  pub long : 10 ≤ length bytes
  pub least : 10 ≤ header.octets
  pub says : HasHeaderIn p limit bytes header
  pub octets : AreOctets bytes

-- what the first bytes of a frame say
abbrev pub Starts : KindSet → ℕ → List ℕ → FrameStart → Type 0
Starts p limit bytes Short = (length bytes < 10) × IsPartial bytes
Starts p limit bytes Breaking = Breaks bytes
Starts p limit bytes (Faulty header) = IsFaulty p limit bytes header
Starts p limit bytes (Sound header) = IsSound p limit bytes header
