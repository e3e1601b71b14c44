use Rattle.tag_epc.proofs.EpcFields.{written_gid}
use Rattle.tag_epc.proofs.to_word.general.Goals as goal

pub returns : goal.returns
returns c =
    written_gid c.args.manager c.args.object_class c.args.serial c.new-writer.result c.push.new.self c.push-2.new.self c.push-3.new.self c.push-4.new.self _
    c.new-writer.ensures c.push.ensures.pushed c.push-2.ensures.pushed c.push-3.ensures.pushed c.push-4.ensures.pushed c.word.ensures c.requires
