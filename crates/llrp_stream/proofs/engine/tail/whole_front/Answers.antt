use Rattle.std.proofs.Common.{sym}
use Rattle.std.proofs.lemmas.Str.{utf8_valid_len-IsUtf8}
use Rattle.llrp_stream.proofs.engine.tail.whole_front.Goals as goal

pub returns-in-Ok : goal.returns-in-Ok
returns-in-Ok c = rw c.in-Text.is (sym (utf8_valid_len-IsUtf8 c.args.octets.now c.in-Ok.ensures.cases.1))
