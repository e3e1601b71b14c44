use Rattle.std.proofs.Common.{[], ◌∙◌, refl, arith}
use Rattle.llrp_session.specs.Contents.{Acknowledges}
use Rattle.llrp_session.proofs.ToldMessages.{client_told, client_lawful}
use Rattle.llrp_session.proofs.build.client.acknowledgement.Goals as goal

pub message-requires : goal.message-requires
message-requires c = client_lawful c.args.id _ [] c.new.result.items Acknowledges refl refl c.new.ensures.items (omega arith) tt

pub returns : goal.returns
returns c = c.message.ensures ∙ client_told c.args.id _ [] c.new.result.items Acknowledges refl refl c.new.ensures.items
