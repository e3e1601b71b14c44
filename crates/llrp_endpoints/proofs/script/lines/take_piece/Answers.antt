use Rattle.std.proofs.Common.{◌≡◌, ◌∙◌, ◌+◌, List, ℕ, length, ap, rules, subst, sym}
use Rattle.llrp_listing.specs.declared.outcome.ToolErr.{ToolErr}
use Rattle.llrp_listing.specs.declared.outcome.ToolErr.TheVariants.{Script}
use Rattle.llrp_endpoints.specs.declared.script.Entry.{Entry}
use Rattle.llrp_endpoints.specs.Calls.ReadScript.{EndsInLine}
use Rattle.llrp_endpoints.specs.Calls.Script.{IsLawfulScript}
use Rattle.llrp_endpoints.specs.Private.Script.{MayGoOn, RefusesText}
use Rattle.llrp_endpoints.proofs.ScriptReading.{ends_in_line, front_refused}
use Rattle.llrp_endpoints.proofs.script.lines.take_piece.Goals as goal

pub refusal_after-requires : goal.refusal_after-requires
refusal_after-requires c = subst IsLawfulScript (sym c.as_slice-then-not-may_go_on.ensures.value) c.in_ok-line.ensures.taken.lawful

pub returns-then-not-may_go_on-clause-refused : goal.returns-then-not-may_go_on-clause-refused
returns-then-not-may_go_on-clause-refused c = λ whole b.
    let entries = c.take_lines.new.entries.items in
    let line = c.in_ok-line.line.now in
    let never : MayGoOn entries line → ⊥ = λ m. (let t = c.may_go_on.ensures.1 (subst (λ (x : List Entry). MayGoOn x line) (sym c.as_slice.ensures.value) m) in let f = c.if-not-may_go_on.true in cc) in
    let is : c.refusal_after.result ≡ Script (length entries + 1) = c.refusal_after.ensures ∙ ap (λ (x : List Entry). Script (length x + 1)) c.as_slice-then-not-may_go_on.ensures.value in
    subst (λ (e : ToolErr). RefusesText whole e) (sym is) (front_refused whole entries line c.in_ok-line.ensures.taken.unended never (c.in_ok-line.ensures.taken.begins whole b))

pub returns-clause-taken : goal.returns-clause-taken
returns-clause-taken c = λ whole b.
    let entries = c.take_lines.new.entries.items in
    let line = c.in_ok-line.line.now in
    let copied : c.in_ok-to_vec.field-0.items ≡ line = search rules in
    let may : MayGoOn entries line = subst (λ (x : List Entry). MayGoOn x line) c.as_slice.ensures.value (c.may_go_on.ensures.0 c.if-not-may_go_on.false) in
    subst (λ (x : List ℕ). EndsInLine whole entries x) (sym copied) (ends_in_line whole entries line c.in_ok-line.ensures.taken.unended may (c.in_ok-line.ensures.taken.begins whole b))
