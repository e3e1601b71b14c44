use Rattle.std.proofs.lemmas.Bool.{leb-true, le-leb}
use Rattle.llrp_endpoints.proofs.ScriptEntries.{may_follow, last_now}
use Rattle.llrp_endpoints.proofs.script.may_follow.Goals as goal

pub returns : goal.returns
returns c =
    let item = c.in-Some.ensures.item in (
      λ t. may_follow c.args.entries.now c.in-Some.last.now c.args.after c.args.now c.requires item.3.0 item.3.1 c.if-after-last.false (leb-true _ _ t) c.if-entries-ge-MOST_ENTRIES.false,
      λ may. le-leb _ _ (last_now c.args.entries.now c.in-Some.last.now c.args.after c.args.now item.3.0 item.3.1 may),
    )
