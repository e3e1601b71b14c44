use Rattle.std.proofs.Common.{◌≡◌, ap, sym, ◌∙◌, ◌++◌, List, ℕ, length, rules}
use Rattle.std.proofs.lemmas.List.{append-nil}
use Rattle.llrp_explain.specs.Calls.ExplainJson.{lines_json, lines_of}
use Rattle.llrp_explain.proofs.JsonLemmas.{end_lines, next_line}
use Rattle.llrp_explain.proofs.PrintedLemmas.{on_written}
use Rattle.llrp_explain.proofs.json.push_lines.Goals as goal

pub returns-in_default : goal.returns-in_default
returns-in_default c =
    let step = rw c.in_default.is at (c.in_ok-next.ensures (lines_json (lines_of c.cut.result.1.now))) in
    let line = next_line c.lines.rest.now c.cut.result.0.now c.cut.result.1.now c.lines.place.first c.lines.place.refused c.cut.ensures.front c.cut.ensures.back in
    sym (append-nil c.push_line.new.json.items) ∙ sym step ∙ ap (λ (x : List ℕ). c.lines.json.items ++ x) (sym line) ∙ c.lines.invariant

pub lines-preserved : goal.lines-preserved
lines-preserved c =
    let step = rw c.in-Some.is at (c.in_ok-next.ensures (lines_json (lines_of c.cut.result.1.now))) in
    let line = next_line c.lines.rest.now c.cut.result.0.now c.cut.result.1.now c.lines.place.first c.lines.place.refused c.cut.ensures.front c.cut.ensures.back in
    sym step ∙ ap (λ (x : List ℕ). c.lines.json.items ++ x) (sym line) ∙ c.lines.invariant

pub returns : goal.returns
returns c =
    let none : length c.lines.rest.now ≡ 0 = search rules in
    on_written c.extend_from_slice.result _ _ _ _ c.extend_from_slice.ensures.items
    (λ e. e ∙ ap (λ (x : List ℕ). c.lines.json.items ++ x) (sym (end_lines c.lines.rest.now c.lines.place.first c.lines.place.refused none)) ∙ c.lines.invariant)
