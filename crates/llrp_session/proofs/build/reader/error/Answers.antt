use Rattle.std.proofs.Common.{[], ◌∷◌, ◌∙◌, refl, ap, arith}
use Rattle.llrp_tree.specs.Tree.{Tree}
use Rattle.llrp_session.specs.Contents.{Error}
use Rattle.llrp_session.proofs.LawfulMessages.{status_lawful}
use Rattle.llrp_session.proofs.ToldMessages.{reader_told, reader_lawful}
use Rattle.llrp_session.proofs.build.reader.error.Goals as goal

pub leaf-status-requires : goal.leaf-status-requires
leaf-status-requires c = status_lawful c.args.status (omega arith)

pub message-requires : goal.message-requires
message-requires c =
    reader_lawful c.args.version c.args.id _ c.in_ok-children.children.items (Error c.args.status) refl
    (c.in_ok-children.ensures ∙ ap (λ (t : Tree). t ∷ []) c.leaf-status.ensures) c.requires (omega arith) (omega arith)

pub returns : goal.returns
returns c =
    c.message.ensures ∙ reader_told c.args.version c.args.id _ c.in_ok-children.children.items (Error c.args.status) refl
    (c.in_ok-children.ensures ∙ ap (λ (t : Tree). t ∷ []) c.leaf-status.ensures)
