use Rattle.std.proofs.Common.{rules, ◌∙◌, sym}
use Rattle.std.proofs.lemmas.Fn.{filter_same}
use Rattle.llrp_session.proofs.TableChanges.{without-filter, is_left}
use Rattle.llrp_session.proofs.reader.table.remove.Goals as goal

pub returns : goal.returns
returns c = filter_same _ (is_left c.args.n) _ (λ x b f' k. search rules) _ _ c.retain.ensures.filtered ∙ sym (without-filter c.args.n c.args.table.now.items)
