-- How a client ends once it has the results of a tag.
use Rattle.std.specs.Prelude.{◌≡◌, ℕ, List, Some}
use Rattle.llrp_tree.specs.Tree.{Tree}
use Rattle.llrp_stream.specs.Device.{SinkLog}
use Rattle.llrp_operations.specs.declared.access.Ending.{Ending}
use Rattle.llrp_operations.specs.declared.access.Errand.{Errand}
use Rattle.llrp_operations.specs.declared.talk.Talked.{Talked}
use Rattle.llrp_operations.specs.Calls.Access.{Shows, ending_for, judged, tag_of}

-- a tag's results were printed
pub record Concludes (e : Errand) (meant : List ℕ) (tag : Tree) (p0 p1 : SinkLog) (end : Ending) : Type 0 where
  pub shown : Shows e p0 p1 (Some tag)
  pub ending_is : end ≡ judged e meant tag

-- what came of a conversation was said: the lines of the tag with the results were printed, if they came
pub record Ends (e : Errand) (talked : Talked) (p0 p1 : SinkLog) (end : Ending) : Type 0 where
  pub shown : Shows e p0 p1 (tag_of e.request.id talked.report)
  pub ending_is : end ≡ ending_for e talked (tag_of e.request.id talked.report)
