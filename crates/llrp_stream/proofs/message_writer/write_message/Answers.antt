use Rattle.std.proofs.Common.{arith}
use Rattle.llrp_tree.proofs.LengthLemmas.{spelled_length}
use Rattle.llrp_stream.proofs.WritingLemmas.{writes_frame}
use Rattle.llrp_stream.proofs.message_writer.write_message.Goals as goal

pub returns-clause-written : goal.returns-clause-written
returns-clause-written g c =
    let s = c.new.ensures in
    writes_frame c.args.message.now c.args.limit c.new.result _ _ c.write_left.result
    (record { lawful = s.lawful; octets = s.octets; spelled = s.spelled; short = omega (arith, spelled_length c.args.message.now c.new.result s.spelled, c.length.ensures, c.if-length-limit.false) })
    c.write_left.ensures
