use Rattle.std.proofs.Common.{arith, ◌<◌, length, length-append, sym, subst}
use Rattle.llrp_session.specs.ReaderMachine.{Reader as Machine}
use Rattle.llrp_session.proofs.TableChanges.{AreReports-append}
use Rattle.llrp_session.proofs.reader.Reader.hold.Goals as goal

pub invariant_of-self-2 : goal.invariant_of-self-2
invariant_of-self-2 c =
    let kept = c.self.invariant in
    let items = c.in_ok-push.ensures.items in
    let room = subst (λ (r : Machine). length r.held < 64) (sym c.self.view_is) c.requires.room in
    record { version = kept.version; least = kept.least; limit = kept.limit; octets = kept.octets; reports = rw items (AreReports-append _ _ kept.reports c.requires.report); few = rw items (rw length-append (omega arith)) }
