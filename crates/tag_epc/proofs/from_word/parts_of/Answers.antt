use Rattle.tag_epc.proofs.EpcFields.{header_fault}
use Rattle.tag_epc.proofs.from_word.parts_of.Goals as goal

pub returns-in_default-clause-err : goal.returns-in_default-clause-err
returns-in_default-clause-err c =
    header_fault c.args.word c.take-header.result c.new-reader.result c.take-header.new.self c.at.result c.new-reader.ensures.whole c.take-header.ensures.read c.take-header.ensures.below c.in_default.ensures c.at.ensures
