use Rattle.std.proofs.Common.{◌≡◌, ℕ, List, length, subst}
use Rattle.std.specs.Prelude.{OnOk}
use Rattle.llrp_tree.specs.OpenTree.{Begun}
use Rattle.llrp_stream.specs.Calls.Received.{IsNextValue, with_value}
use Rattle.llrp_stream.specs.Building.{Building}
use Rattle.llrp_stream.specs.Private.Building.{HasOpen}
use Rattle.llrp_stream.proofs.ValueLemmas.{valued_on_ok}
use Rattle.llrp_stream.proofs.engine.builder.BuilderListener.value.Goals as goal

pub returns : goal.returns
returns c =
    let now : Building = record { version = c.self.inside.version; id = c.self.inside.id; nodes = c.self.inside.nodes; done = c.self.inside.done } in
    subst (λ (b : Building). OnOk c.push_parameter.result (List ℕ → (t : List Begun) → HasOpen b t → length t ≡ c.args._level → IsNextValue t c.args.kind c.args.value → HasOpen (record now { nodes = c.push_parameter.new.self }) (with_value c.args.kind c.args.value t))) c.self.view_is
    (valued_on_ok c.push_parameter.result now c.args.kind c.args.value c.args._level c.push_parameter.new.self c.push_parameter.ensures.ok)
