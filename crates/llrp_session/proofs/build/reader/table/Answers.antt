use Rattle.std.proofs.Common.{[], ◌∷◌, ◌++◌, ◌∙◌, refl, ap, arith}
use Rattle.std.specs.Prelude.{List}
use Rattle.llrp_tree.specs.Tree.{Tree}
use Rattle.llrp_session.specs.Table.{listing}
use Rattle.llrp_session.specs.Contents.{Listed}
use Rattle.llrp_session.proofs.LawfulMessages.{status_lawful}
use Rattle.llrp_session.proofs.ToldMessages.{reader_told, reader_lawful}
use Rattle.llrp_session.proofs.build.reader.table.Goals as goal

pub leaf-status-requires : goal.leaf-status-requires
leaf-status-requires c = status_lawful 0 (omega arith)

pub message-requires : goal.message-requires
message-requires c =
    reader_lawful c.args.version c.args.id _ c.append_rospecs.new.nodes.items (Listed c.args.entries.now) refl
    (c.in_ok-append_rospecs.ensures.rospecs ∙ ap (λ (ts : List Tree). ts ++ listing c.args.entries.now) (c.in_ok-children.ensures ∙ ap (λ (t : Tree). t ∷ []) c.leaf-status.ensures))
    c.requires.version (omega arith) (c.in_ok-append_rospecs.ensures.told, c.requires.fits)

pub returns : goal.returns
returns c =
    c.message.ensures ∙ reader_told c.args.version c.args.id _ c.append_rospecs.new.nodes.items (Listed c.args.entries.now) refl
    (c.in_ok-append_rospecs.ensures.rospecs ∙ ap (λ (ts : List Tree). ts ++ listing c.args.entries.now) (c.in_ok-children.ensures ∙ ap (λ (t : Tree). t ∷ []) c.leaf-status.ensures))
