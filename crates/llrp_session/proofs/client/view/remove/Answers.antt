use Rattle.std.proofs.Common.{◌∙◌, sym, rules}
use Rattle.std.specs.Prelude.{not}
use Rattle.std.proofs.lemmas.Fn.{filter_same}
use Rattle.llrp_session.specs.Table.{names}
use Rattle.llrp_session.proofs.ViewLemmas.{view_without-filter}
use Rattle.llrp_session.proofs.client.view.remove.Goals as goal

pub returns : goal.returns
returns c =
    filter_same _ (λ v. not (names c.args.n v.id)) _ (λ v b f k. search rules) _ _ c.retain.ensures.filtered
    ∙ sym (view_without-filter c.args.n c.args.view.now.items)
