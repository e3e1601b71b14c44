use Rattle.std.proofs.Common.{refl}
use Rattle.llrp_session.specs.Calls.ReaderSteps.{event_of}
use Rattle.llrp_live.specs.Calls.Doings.{Dated, Happens}
use Rattle.llrp_live.proofs.LiveLemmas.{happened, said_one}
use Rattle.llrp_live.proofs.reader.LiveReader.happen.Goals as goal

pub returns-clause-happens : goal.returns-clause-happens
returns-clause-happens c = λ b before bytes items h.
    let d : Dated = record { now = c.args.now; doing = Happens (event_of c.args.event) } in
    record {
      said = said_one d c.args.self.now.core c.args.out.now.items c.happen.new.out.items c.in_ok-happen.ensures.ok.said;
      lives = happened d b before bytes items c.args.self.now _ h c.in_ok-happen.ensures.ok.reader refl refl refl refl refl;
    }
