use Rattle.std.proofs.Common.{rules, ◌∙◌, ap, List}
use Rattle.std.specs.Prelude.{filter}
use Rattle.std.proofs.lemmas.Fn.{filter_same}
use Rattle.llrp_live.specs.declared.expectations.Expectation.{Expectation}
use Rattle.llrp_live.specs.Calls.Expectations.{is_awaited_after}
use Rattle.llrp_live.proofs.expectations.Expectations.meet.Goals as goal

pub returns : goal.returns
returns c =
    filter_same _ (is_awaited_after c.args.kind) _ (λ x b f' k. search rules) _ _ c.retain.ensures.filtered
    ∙ ap (λ (x : List Expectation). filter (is_awaited_after c.args.kind) x) c.self.view_is
