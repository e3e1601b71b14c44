use Rattle.std.proofs.Common.{sym, ◌∙◌}
use Rattle.llrp_stream.proofs.BuildingLemmas.{none_around, none_left}
use Rattle.llrp_stream.proofs.engine.open_nodes.OpenNodes.finish.Goals as goal

pub invariant_of-self : goal.invariant_of-self
invariant_of-self c =
    let some = sym c.take.ensures.value ∙ c.in-Some.is in
    none_left c.take.new.self c.self.inside.outer.items c.take.ensures.after (none_around c.self.inside.top c.self.inside.outer.items c.in-Some.node c.requires.node some (c.self.view_is ∙ c.requires.are))
