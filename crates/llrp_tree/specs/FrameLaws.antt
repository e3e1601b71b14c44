-- What holds of every frame.
use Rattle.std.specs.Prelude.{◌≡◌, ℕ, ◌≤◌, ◌⊎◌, List, [], ◌++◌, length}
use Rattle.tag_bits.specs.Digits.{digits_of_bytes}
use Rattle.llrp_tree.specs.declared.fault.Reason.{Reason}
use Rattle.llrp_schema.specs.declared.kinds.KindSet.{KindSet}
use Rattle.llrp_schema.specs.declared.kinds.Kind.TheVariants.{Message}
use Rattle.llrp_schema.specs.Schema.{set_of_kind}
use Rattle.llrp_tree.specs.Tree.{MessageTree}
use Rattle.llrp_tree.specs.Lawful.{AreOctets}
use Rattle.llrp_tree.specs.Frame.{Frame}
use Rattle.llrp_tree.specs.FirstFault.{number, FirstFaultIn}

-- bytes that a stream's reader takes for a frame: a whole header, whose length is theirs
pub record IsWhole (bytes : List ℕ) : Type 0 where
  pub octets : AreOctets bytes
  pub header : 10 ≤ length bytes
  pub own_length : number (digits_of_bytes bytes) 16 32 ≡ length bytes

-- Whole bytes are a message's or have a first fault, never both. Neither has a second, and no message's bytes begin those of another.
pub record FramesApart (p : KindSet) (limit : ℕ) : Type 0 where
  pub either : (bytes : List ℕ) → IsWhole bytes → ((m : MessageTree) × Frame m bytes limit × (set_of_kind (Message m.kind) ≡ p)) ⊎ ((bit : ℕ) × (reason : Reason) × FirstFaultIn p bytes limit bit reason)
  pub not_both : (bytes : List ℕ) (m : MessageTree) (bit : ℕ) (reason : Reason) → set_of_kind (Message m.kind) ≡ p → Frame m bytes limit → FirstFaultIn p bytes limit bit reason → ⊥
  pub one_fault : (bytes : List ℕ) (bit bit2 : ℕ) (reason reason2 : Reason) → FirstFaultIn p bytes limit bit reason → FirstFaultIn p bytes limit bit2 reason2 → (bit ≡ bit2) × (reason ≡ reason2)
  pub no_prefix : (bytes more : List ℕ) (m k : MessageTree) → set_of_kind (Message m.kind) ≡ set_of_kind (Message k.kind) → Frame m bytes limit → Frame k (bytes ++ more) limit → (m ≡ k) × (more ≡ [])
