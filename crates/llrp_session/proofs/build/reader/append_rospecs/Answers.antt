use Rattle.std.proofs.Common.{◌∙◌, ◌++◌, ◌∷◌, [], ap}
use Rattle.llrp_tree.specs.Tree.{Tree}
use Rattle.llrp_session.proofs.ListedLemmas.{listing_more, told_more}
use Rattle.llrp_session.proofs.build.reader.append_rospecs.Goals as goal

pub loop-entry-preserved : goal.loop-entry-preserved
loop-entry-preserved c =
    let more = c.in_ok-push.ensures.items ∙ ap (λ (t : Tree). c.loop-entry.nodes.items ++ t ∷ []) c.in_ok-listed.ensures.listed in (
      listing_more c.args.entries.now c.loop-entry.entry-index c.entry-item.result c.args.nodes.now.items c.loop-entry.nodes.items c.push.new.self.items c.loop-entry-test.true c.entry-item.is
          c.loop-entry.invariant.0 more,
      told_more c.args.entries.now c.loop-entry.entry-index c.entry-item.result c.loop-entry-test.true c.entry-item.is c.loop-entry.invariant.1 c.told.ensures,
    )
