use Rattle.std.proofs.Common.{arith, ap}
use Rattle.llrp_session.specs.Table.{octets_of}
use Rattle.llrp_session.proofs.TableChanges.{octets-without}
use Rattle.llrp_session.proofs.reader.Reader.remove.Goals as goal

pub invariant_of-self : goal.invariant_of-self
invariant_of-self c =
    let kept = c.self.invariant in
    let h = octets-without c.args.n c.self.inside.table.items in
    let e = ap octets_of c.remove.ensures in
    record { version = kept.version; least = kept.least; limit = kept.limit; octets = let most = kept.octets in omega (arith, most); reports = kept.reports; few = kept.few }
