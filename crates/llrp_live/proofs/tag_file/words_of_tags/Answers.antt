use Rattle.std.proofs.Common.{List, ℕ, sym, subst}
use Rattle.llrp_live.specs.Calls.TagFiles.{TagsFollow}
use Rattle.llrp_live.proofs.TagLemmas.{follow_more}
use Rattle.llrp_live.proofs.tag_file.words_of_tags.Goals as goal

pub lines-preserved : goal.lines-preserved
lines-preserved c =
    let next = c.in-Some.next in
    let one = follow_more c.args.text.now c.lines.words.items c.lines.rest.now next.1.now next.0 c.lines.invariant c.in-Some.ensures in
    subst (λ (x : List ℕ). TagsFollow c.args.text.now x next.1.now) (sym c.in_ok-push.ensures.items) one
