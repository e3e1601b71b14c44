use Rattle.std.proofs.Common.{◌≡◌, ◌++◌, take}
use Rattle.std.specs.List.{flat_map}
use Rattle.llrp_endpoints.specs.TagLines.{other_member}
use Rattle.llrp_endpoints.proofs.gathering.objects.push_others.Given as goal

-- the members of the kinds before were appended
abbrev pub invariant-loop-kind : goal.invariant-loop-kind
invariant-loop-kind l = l.text ≡ l.fn.text ++ flat_map (other_member l.tag) (take l.kind-index l.kinds)
