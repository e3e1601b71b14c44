-- A node at which a frame is refused.
use Rattle.std.specs.Prelude.{◌≡◌, ℕ, suc, ◌≤◌, Bool, List, ◌∷◌, length, Some}
use Rattle.llrp_tree.specs.declared.fault.Fault.{Fault}
use Rattle.llrp_tree.specs.OpenTree.{Begun, covers, IsOpenTree}
use Rattle.llrp_tree.specs.FirstFault.{next_fault}
use Rattle.llrp_stream.specs.declared.engine.stack.StackNode.{StackNode}
use Rattle.llrp_stream.specs.Calls.Reading.{IsLevel}
use Rattle.llrp_explain.specs.Calls.Printing.{AreHanded}

-- The node is the innermost one of an open tree of this depth that covers the frame up to this bit, and whose next checks, by the digits after it, have the fault; the octets decide them.
pub record IsRefusedNode (node : StackNode) (depth at : ℕ) (octets : List ℕ) (fault : Fault) (b : Begun) (outer : List Begun) (rest : List Bool) : Type 0 where
  pub is_open : IsOpenTree (b ∷ outer)
  pub level : IsLevel node b b.children
  pub depth_is : depth ≡ suc (length outer)
  pub at_is : at ≡ length (covers (b ∷ outer))
  pub small : at ≤ 4294967000
  pub handed : AreHanded (b ∷ outer) octets rest
  pub fails : next_fault (b ∷ outer) rest ≡ Some (fault.bit, fault.reason)
