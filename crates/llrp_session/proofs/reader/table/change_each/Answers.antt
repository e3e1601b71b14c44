use Rattle.std.proofs.Common.{refl, ◌∙◌, ap, arith, get_or}
use Rattle.llrp_session.specs.Table.{change}
use Rattle.llrp_session.specs.Private.ReaderParts.{changing}
use Rattle.llrp_session.proofs.TableChanges.{changed_one, changed_all}
use Rattle.llrp_session.proofs.reader.table.change_each.Goals as goal

pub loop-entry-init : goal.loop-entry-init
unfolding change
loop-entry-init c = refl

pub loop-entry-preserved : goal.loop-entry-preserved
loop-entry-preserved c =
    changed_one (changing c.args.change) _ c.loop-entry.table c.loop-entry.entry-index c.entry-item.result c.changed-entry.result (omega arith) c.loop-entry.invariant
    (c.changed-entry.ensures ∙ ap (λ id. changing c.args.change id (get_or c.loop-entry.table c.loop-entry.entry-index c.entry-item.result).state) (ap (λ s. s.id) c.settings.ensures))

pub returns : goal.returns
returns c = c.loop-entry.invariant ∙ changed_all (changing c.args.change) _ c.loop-entry.entry-index (omega arith)
