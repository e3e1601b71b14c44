use Rattle.std.proofs.Common.{arith, ap}
use Rattle.llrp_session.specs.Private.ReaderParts.{changing}
use Rattle.llrp_session.specs.Table.{octets_of}
use Rattle.llrp_session.proofs.TableChanges.{octets-change}
use Rattle.llrp_session.proofs.reader.Reader.change.Goals as goal

pub invariant_of-self : goal.invariant_of-self
invariant_of-self c =
    let kept = c.self.invariant in
    let h = octets-change (changing c.args.change) c.self.inside.table.items in
    let e = ap octets_of c.change.ensures in
    record { version = kept.version; least = kept.least; limit = kept.limit; octets = let most = kept.octets in omega (arith, most); reports = kept.reports; few = kept.few }
