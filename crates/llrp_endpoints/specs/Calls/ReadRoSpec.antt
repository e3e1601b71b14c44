-- What reading the text of a plan's ROSpec from a source answers.
use Rattle.std.specs.Prelude.{◌≡◌, ◌≤◌, ℕ, ◌⊎◌, List, ◌++◌}
use Rattle.llrp_schema.specs.declared.kinds.KindSet.{KindSet}
use Rattle.llrp_tree.specs.Tree.{Tree}
use Rattle.llrp_tree.specs.Lawful.{IsLawfulTree, tree_octets}
use Rattle.llrp_stream.specs.Device.{SourceLog}
use Rattle.llrp_listing.specs.Copying.{ReadAll, WasGiven}
use Rattle.llrp_endpoints.specs.Calls.Plans.{longest_rospec, rospec_kind}
use Rattle.llrp_endpoints.specs.Calls.PlanTexts.{ListsRoSpec}

-- no text that begins so lists a lawful ROSpec which is short enough for a plan
abbrev pub BeginsNoRoSpec : List ℕ → Type 0
BeginsNoRoSpec text = (set : KindSet) (more : List ℕ) (t : Tree) → t.kind ≡ rospec_kind set → IsLawfulTree t → tree_octets t ≤ longest_rospec → ListsRoSpec set (text ++ more) t → ⊥

-- the text is all that the source gave, or what it gave until no text that begins so can list such a ROSpec
abbrev pub IsEnough : SourceLog → SourceLog → List ℕ → Type 0
IsEnough r0 r1 text = ReadAll r0 r1 text ⊎ (WasGiven r0 r1 text × BeginsNoRoSpec text)
