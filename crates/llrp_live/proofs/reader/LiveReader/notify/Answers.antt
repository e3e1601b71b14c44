use Rattle.std.proofs.Common.{refl}
use Rattle.llrp_live.specs.Calls.Doings.{Dated, Notes}
use Rattle.llrp_live.proofs.LiveLemmas.{happened, said_one}
use Rattle.llrp_live.proofs.reader.LiveReader.notify.Goals as goal

pub returns-clause-notes : goal.returns-clause-notes
returns-clause-notes c = λ b before bytes items h.
    let d : Dated = record { now = c.args.now; doing = Notes c.args.event } in
    record {
      said = said_one d c.args.self.now.core c.args.out.now.items c.notify.new.out.items c.in_ok-notify.ensures.ok.sent;
      lives = happened d b before bytes items c.args.self.now _ h c.in_ok-notify.ensures.ok.reader refl refl refl refl refl;
    }
