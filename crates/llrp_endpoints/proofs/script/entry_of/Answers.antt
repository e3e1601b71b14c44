use Rattle.std.proofs.Common.{arith}
use Rattle.llrp_listing.proofs.SplitWords.{at_none}
use Rattle.llrp_endpoints.proofs.ScriptLines.{entry_first, entry_second, entry_parts}
use Rattle.llrp_endpoints.proofs.script.entry_of.Goals as goal

pub returns-in_err-after : goal.returns-in_err-after
returns-in_err-after c = at_none _ _ _ c.from_residual.ensures (λ e r h. entry_first e c.args.line.now c.in_err-after.ensures h)

pub returns-in_err-now : goal.returns-in_err-now
returns-in_err-now c = at_none _ _ _ c.from_residual-in_err-now.ensures (λ e r h. entry_second e c.args.line.now c.in_ok-after.after.now c.in_ok-after.rest.now c.in_ok-after.ensures c.in_err-now.ensures r h)

pub returns-in_err-after-2 : goal.returns-in_err-after-2
returns-in_err-after-2 c = at_none _ _ _ c.from_residual-in_err-after-2.ensures (λ e r h.
    let p = entry_parts e c.args.line.now c.in_ok-after.after.now c.in_ok-after.rest.now c.in_ok-now.now.now c.in_ok-now.action.now c.in_ok-after.ensures c.in_ok-now.ensures r h in
    let t = r.after in
    c.in_err-after-2.ensures e.after (omega (arith, t)) p.0)

pub returns-in_err-now-2 : goal.returns-in_err-now-2
returns-in_err-now-2 c = at_none _ _ _ c.from_residual-in_err-now-2.ensures (λ e r h.
    let p = entry_parts e c.args.line.now c.in_ok-after.after.now c.in_ok-after.rest.now c.in_ok-now.now.now c.in_ok-now.action.now c.in_ok-after.ensures c.in_ok-now.ensures r h in
    let t = r.now in
    c.in_err-now-2.ensures e.now (omega (arith, t)) p.1)

pub returns-in_err-action : goal.returns-in_err-action
returns-in_err-action c = at_none _ _ _ c.from_residual-in_err-action.ensures (λ e r h.
    let p = entry_parts e c.args.line.now c.in_ok-after.after.now c.in_ok-after.rest.now c.in_ok-now.now.now c.in_ok-now.action.now c.in_ok-after.ensures c.in_ok-now.ensures r h in
    c.in_err-action.ensures e.action r.action p.2)
