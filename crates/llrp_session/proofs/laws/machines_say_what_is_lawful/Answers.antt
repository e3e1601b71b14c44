use Rattle.llrp_session.proofs.LawfulReaders.{reader_as_new}
use Rattle.llrp_session.proofs.laws.machines_say_what_is_lawful.Goals as goal

pub returns-clause-reader_as_new : goal.returns-clause-reader_as_new
returns-clause-reader_as_new c = reader_as_new
