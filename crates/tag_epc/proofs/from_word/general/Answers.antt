use Rattle.std.proofs.Common.{arith}
use Rattle.tag_epc.proofs.EpcFields.{gid_spelled}
use Rattle.tag_epc.proofs.from_word.general.Goals as goal

pub returns : goal.returns
returns c =
    gid_spelled c.take-manager.result c.take-object_class.result c.take-serial.result c.args.reader c.take-manager.new.self c.take-object_class.new.self c.take-serial.new.self
    c.take-manager.ensures.below c.take-object_class.ensures.below c.take-serial.ensures.below c.take-manager.ensures.read c.take-object_class.ensures.read c.take-serial.ensures.read (omega arith)
