use Rattle.std.proofs.Common.{[], ◌∷◌, ◌∙◌, ap, arith}
use Rattle.llrp_tree.specs.Tree.{Tree}
use Rattle.llrp_session.specs.Contents.{Response}
use Rattle.llrp_session.proofs.LawfulMessages.{status_lawful}
use Rattle.llrp_session.proofs.ToldMessages.{reader_told, reader_lawful}
use Rattle.llrp_session.proofs.build.reader.response.Goals as goal

pub leaf-status-requires : goal.leaf-status-requires
leaf-status-requires c = status_lawful c.args.status (omega arith)

pub message-requires : goal.message-requires
message-requires c =
    reader_lawful c.args.version c.args.id _ c.in_ok-children.children.items (Response c.args.operation c.args.status) c.response_kind.ensures
    (c.in_ok-children.ensures ∙ ap (λ (t : Tree). t ∷ []) c.leaf-status.ensures) c.requires (omega arith) (omega arith)

pub returns : goal.returns
returns c =
    c.message.ensures ∙ reader_told c.args.version c.args.id _ c.in_ok-children.children.items (Response c.args.operation c.args.status) c.response_kind.ensures
    (c.in_ok-children.ensures ∙ ap (λ (t : Tree). t ∷ []) c.leaf-status.ensures)
