use Rattle.std.proofs.Common.{◌≡◌, drop}
use Rattle.std.specs.List.{list_all}
use Rattle.llrp_access.specs.Calls.Targets.{hits, pattern_of}
use Rattle.llrp_access.specs.declared.access_spec.Target.{Target}
use Rattle.llrp_access.proofs.access_spec.is_for.Given as goal

-- what is left decides
abbrev pub invariant-loop-target : goal.invariant-loop-target
invariant-loop-target l = list_all (λ (t : Target). hits l.memory (pattern_of t)) (drop l.target-index l.spec.targets.items) ≡ list_all (λ (t : Target). hits l.memory (pattern_of t)) l.spec.targets.items
