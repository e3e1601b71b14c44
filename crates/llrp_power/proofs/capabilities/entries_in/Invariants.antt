use Rattle.std.proofs.Common.{◌≡◌, ◌++◌, drop}
use Rattle.llrp_power.specs.Calls.Capabilities.{entries_in as the_entries}
use Rattle.llrp_power.proofs.capabilities.entries_in.Given as goal

-- the entries so far and those that are left are all
abbrev pub invariant-loop-node : goal.invariant-loop-node
invariant-loop-node l = l.entries.items ++ the_entries (drop l.node-index l.fn.nodes) ≡ the_entries l.fn.nodes
