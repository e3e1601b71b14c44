-- Beside Calls/LawfulWords: words of private functions.
use Rattle.std.specs.Prelude.{◌≡◌, ◌+◌, ◌≤◌}
use Rattle.llrp_schema.specs.declared.kinds.ParamKind.TheVariants.{RoSpec}
use Rattle.llrp_tree.specs.declared.TheConstants.{MAX_LIMIT}
use Rattle.llrp_tree.specs.Lawful.{tree_octets}
use Rattle.llrp_session.specs.Contents.{Command, Add}

-- ---- the words of a client

-- what the code has to know of a command before it makes its message: a ROSpec is one, and not too long for any message
abbrev pub FitsMessage : Command → Type 0
FitsMessage (Add spec) = (spec.kind ≡ RoSpec) × (10 + tree_octets spec ≤ MAX_LIMIT)
FitsMessage _ = Unit {0}
