-- Beside Items: what contracts say that no promise rests on.
use Rattle.std.specs.Prelude.{◌≡◌, ◌≢◌, ℕ, ◌≤◌, List, ◌++◌, length, Option, None}
use Rattle.tag_bits.specs.Digits.{digits_of_bytes}
use Rattle.llrp_schema.specs.declared.kinds.KindSet.{KindSet}
use Rattle.llrp_tree.specs.declared.fault.Reason.{Reason}
use Rattle.llrp_tree.specs.declared.fault.Fault.{Fault}
use Rattle.llrp_tree.specs.FirstFault.{first_failing, header_checks_in, FirstFaultIn}
use Rattle.llrp_stream.specs.Cuts.{length_field, IsFrame}
use Rattle.llrp_stream.specs.Items.{id_field}

-- the first check that a frame's header fails, and its bit
unfoldable pub header_fault_in : KindSet → ℕ → List ℕ → Option (ℕ × Reason)
header_fault_in p limit bytes = first_failing (header_checks_in p limit (digits_of_bytes bytes))

-- a whole header that fails a check
abbrev pub HasHeaderFaultIn : KindSet → ℕ → List ℕ → Type 0
HasHeaderFaultIn p limit front = (10 ≤ length front) × (header_fault_in p limit front ≢ None)

-- The front has the kept count, length field and id, and every frame that begins with it has the kept fault.
pub record IsSkipped (p : KindSet) (limit count octets id : ℕ) (fault : Fault) (front : List ℕ) : Type 0 where
  pub count_is : count ≡ length front
  pub octets_are : octets ≡ length_field front
  pub id_is : id ≡ id_field front
  pub faulty : (more : List ℕ) → IsFrame (front ++ more) → FirstFaultIn p (front ++ more) limit fault.bit fault.reason
