use Rattle.std.proofs.Common.{◌∙◌, refl, arith}
use Rattle.llrp_session.specs.Contents.{KeepaliveSent}
use Rattle.llrp_session.proofs.ToldMessages.{reader_told, reader_lawful}
use Rattle.llrp_session.proofs.build.reader.keepalive.Goals as goal

pub message-requires : goal.message-requires
message-requires c =
    reader_lawful c.args.version c.args.id _ c.new.result.items KeepaliveSent refl c.new.ensures.items c.requires (omega arith) tt

pub returns : goal.returns
returns c = c.message.ensures ∙ reader_told c.args.version c.args.id _ c.new.result.items KeepaliveSent refl c.new.ensures.items
