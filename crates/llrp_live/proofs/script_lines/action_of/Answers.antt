use Rattle.std.proofs.Common.{rules, ap, ◌∙◌, ◌≡◌, ◌++◌, List, ℕ, codes}
use Rattle.llrp_endpoints.specs.Calls.Script.{IsEntryLine}
use Rattle.llrp_live.proofs.LineLemmas.{said_by}
use Rattle.llrp_live.proofs.script_lines.action_of.Goals as goal

pub returns-in-Some : goal.returns-in-Some
returns-in-Some c =
    let line : IsEntryLine c.in-Some.entry c.as_slice.result.now = rw c.in-Some.is at c.in_ok-entry.ensures in
    let first : c.extend_from_slice.new.self.items ≡ codes "0 0 " = search rules in
    let text : c.as_slice.result.now ≡ codes "0 0 " ++ c.args.text.now = c.as_slice.ensures.value ∙ c.in_ok-extend_from_slice-2.ensures.items ∙ ap (λ (x : List ℕ). x ++ c.args.text.now) first in
    said_by c.in-Some.entry c.as_slice.result.now c.args.text.now c.action_in.result line text c.action_in.ensures
