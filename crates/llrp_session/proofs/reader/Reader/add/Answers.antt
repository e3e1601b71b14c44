use Rattle.std.proofs.Common.{◌≡◌, ◌∙◌, ap, sym, arith}
use Rattle.llrp_session.specs.RoSpec.{RoSpec, rospec_of}
use Rattle.llrp_session.specs.Table.{octets_of}
use Rattle.llrp_session.specs.ReaderMachine.{Reader as Machine, add_status}
use Rattle.llrp_session.proofs.TableChanges.{octets-enter}
use Rattle.llrp_session.proofs.Adding.{added-fits}
use Rattle.llrp_session.proofs.reader.Reader.add.Goals as goal

pub invariant_of-self-2 : goal.invariant_of-self-2
invariant_of-self-2 c =
    let kept = c.self.invariant in
    let h = octets-enter c.taken.result c.reserve.new.self.items in
    let e = ap octets_of c.enter.ensures in
    let o = ap octets_of c.reserve.ensures.items in
    let rospec = c.requires.adds.0 in
    let taken : c.taken.result ≡ rospec_of rospec = c.taken.ensures rospec c.requires.adds.1 in
    let is : add_status c.args.self.now.limit c.args.self.now.table (rospec_of rospec) ≡ 0 = sym (c.add_status-status.ensures (rospec_of rospec) c.requires.adds.2) ∙ c.if-status-ne-SUCCESS.false in
    let fits = added-fits c.args.self.now.limit c.args.self.now.table (rospec_of rospec) is in
    let t = ap (λ (s : RoSpec). s.octets) taken in
    let l = ap (λ (r : Machine). r.limit) c.self.view_is in
    let m = ap (λ (r : Machine). octets_of r.table) c.self.view_is in
    record { version = kept.version; least = kept.least; limit = kept.limit; octets = let most = kept.octets in omega (arith, fits, most); reports = kept.reports; few = kept.few }
