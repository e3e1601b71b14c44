use Rattle.std.proofs.Common.{◌≡◌, ◌++◌, take}
use Rattle.llrp_session.specs.Table.{listing}
use Rattle.llrp_session.specs.Calls.LawfulWords.{AreToldOf}
use Rattle.llrp_session.proofs.build.reader.append_rospecs.Given as goal

abbrev pub invariant-loop-entry : goal.invariant-loop-entry
invariant-loop-entry l = (l.nodes.items ≡ l.fn.nodes.items ++ listing (take l.entry-index l.entries)) × AreToldOf (take l.entry-index l.entries)
