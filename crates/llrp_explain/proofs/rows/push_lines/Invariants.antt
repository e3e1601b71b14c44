use Rattle.std.proofs.Common.{◌≡◌, ◌++◌, take}
use Rattle.std.specs.List.{flat_map}
use Rattle.llrp_explain.specs.Calls.KindTexts.{kind_text}
use Rattle.llrp_explain.proofs.rows.push_lines.Given as goal

abbrev pub invariant-loop-kind : goal.invariant-loop-kind
invariant-loop-kind l = l.text.items ≡ l.fn.text.items ++ flat_map (kind_text l.kinds) (take l.kind-index l.of)
