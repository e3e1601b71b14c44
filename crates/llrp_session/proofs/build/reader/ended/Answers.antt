use Rattle.std.proofs.Common.{[], ◌∷◌, refl, ap, arith}
use Rattle.llrp_tree.specs.Tree.{Tree}
use Rattle.llrp_session.specs.Contents.{Ended}
use Rattle.llrp_session.specs.ReaderMessages.{notification_data}
use Rattle.llrp_session.proofs.LawfulMessages.{change_lawful}
use Rattle.llrp_session.proofs.ToldMessages.{reader_told, reader_lawful}
use Rattle.llrp_session.proofs.build.reader.ended.Goals as goal

pub leaf-event-requires : goal.leaf-event-requires
leaf-event-requires c = change_lawful 1 c.args.rospec (omega arith) (omega arith)

pub notification-requires : goal.notification-requires
notification-requires c =
    reader_lawful c.args.version c.args.id _ (notification_data c.args.now c.leaf-event.result ∷ []) (Ended c.args.now c.args.rospec) refl
    (ap (λ (t : Tree). notification_data c.args.now t ∷ []) c.leaf-event.ensures) c.requires (omega arith) (omega arith, omega arith)

pub returns : goal.returns
returns c =
    rw (← reader_told c.args.version c.args.id _ (notification_data c.args.now c.leaf-event.result ∷ []) (Ended c.args.now c.args.rospec) refl
    (ap (λ (t : Tree). notification_data c.args.now t ∷ []) c.leaf-event.ensures)) c.notification.ensures
