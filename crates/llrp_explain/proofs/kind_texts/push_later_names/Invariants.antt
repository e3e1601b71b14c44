use Rattle.std.proofs.Common.{◌≡◌, ◌++◌, ◌∷◌, take, map}
use Rattle.std.specs.List.{flat_map}
use Rattle.llrp_schema.specs.Schema.{name_of}
use Rattle.llrp_explain.proofs.kind_texts.push_later_names.Given as goal

abbrev pub invariant-loop-kind : goal.invariant-loop-kind
invariant-loop-kind l = l.text.items ≡ l.fn.text.items ++ flat_map (λ name. 44 ∷ 32 ∷ name) (map name_of (take l.kind-index l.kinds))
