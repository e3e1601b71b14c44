use Rattle.std.proofs.Common.{◌∙◌, refl, arith}
use Rattle.llrp_session.specs.Contents.{Report}
use Rattle.llrp_session.proofs.ToldMessages.{reader_told, reader_lawful}
use Rattle.llrp_session.proofs.build.reader.report.Goals as goal

pub message-requires : goal.message-requires
message-requires c =
    reader_lawful c.args.version c.args.id _ c.args.tags.items (Report c.args.tags.items) refl refl c.requires.version (omega arith) (c.requires.reports, c.requires.few)

pub returns : goal.returns
returns c = c.message.ensures ∙ reader_told c.args.version c.args.id _ c.args.tags.items (Report c.args.tags.items) refl refl
