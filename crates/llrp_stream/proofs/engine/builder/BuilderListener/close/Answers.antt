use Rattle.std.proofs.Common.{ℕ, sym, subst, List}
use Rattle.std.specs.Prelude.{OnOk}
use Rattle.llrp_tree.specs.OpenTree.{Begun}
use Rattle.llrp_stream.specs.Calls.Received.{CanClose, IsReady, with_closed}
use Rattle.llrp_stream.specs.Building.{Building}
use Rattle.llrp_stream.specs.Private.Building.{HasOpen}
use Rattle.llrp_stream.proofs.BuildingLemmas.{can_close, closed_on_ok}
use Rattle.llrp_stream.proofs.engine.builder.BuilderListener.close.Goals as goal

pub returns : goal.returns
returns c =
    let now : Building = record { version = c.self.inside.version; id = c.self.inside.id; nodes = c.self.inside.nodes; done = c.self.inside.done } in
    let can = can_close now (subst (λ (b : Building). CanClose (HasOpen b)) (sym c.self.view_is) c.requires.1) in
    subst (λ (b : Building). OnOk c.close.result (List ℕ → (t : List Begun) → HasOpen b t → IsReady t → HasOpen (record now { nodes = c.close.new.self }) (with_closed t))) c.self.view_is
    (closed_on_ok c.close.result now c.close.new.self IsReady can c.close.ensures.ok)
