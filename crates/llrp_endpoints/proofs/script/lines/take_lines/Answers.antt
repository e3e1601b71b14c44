use Rattle.std.proofs.Common.{◌≡◌, ◌∙◌, ◌+◌, List, length, ap, subst, sym}
use Rattle.llrp_listing.specs.declared.outcome.ToolErr.{ToolErr}
use Rattle.llrp_listing.specs.declared.outcome.ToolErr.TheVariants.{Script}
use Rattle.llrp_endpoints.specs.declared.script.Entry.{Entry}
use Rattle.llrp_endpoints.specs.Private.Script.{Follows, NoneFollows, RefusesText}
use Rattle.llrp_endpoints.proofs.ScriptReading.{line_refused, take_more}
use Rattle.llrp_endpoints.proofs.script.lines.take_lines.Goals as goal

pub returns-in_default-next_entry-clause-refused : goal.returns-in_default-next_entry-clause-refused
returns-in_default-next_entry-clause-refused c = λ whole b.
    let entries = c.lines.entries.items in
    let none : NoneFollows entries c.in-Some.line.now = subst (λ (x : List Entry). NoneFollows x c.in-Some.line.now) c.as_slice.ensures.value c.in_default-next_entry.ensures in
    let is : c.refusal_after.result ≡ Script (length entries + 1) = c.refusal_after.ensures ∙ ap (λ (x : List Entry). Script (length x + 1)) c.as_slice-in_default-next_entry.ensures.value in
    subst (λ (e : ToolErr). RefusesText whole e) (sym is) (line_refused whole entries c.lines.rest.now c.in-Some.line.now c.in-Some.after.now c.in-Some.ensures none (c.lines.invariant.1 whole b))

pub lines-preserved : goal.lines-preserved
lines-preserved c =
    let follows : Follows c.lines.entries.items c.in-Some.line.now c.in-Some-next_entry.entry = subst (λ (x : List Entry). Follows x c.in-Some.line.now c.in-Some-next_entry.entry) c.as_slice.ensures.value c.in-Some-next_entry.ensures in
    take_more c.args.entries.now.items c.lines.entries.items c.push.new.self.items c.args.text.now c.lines.rest.now c.in-Some.line.now c.in-Some.after.now c.in-Some-next_entry.entry c.lines.invariant c.in-Some.ensures follows c.in_ok-push.ensures.items

pub returns-clause-taken : goal.returns-clause-taken
returns-clause-taken c = record { lawful = c.lines.invariant.0; begins = c.lines.invariant.1; unended = c.in_default.ensures }
