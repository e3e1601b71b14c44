use Rattle.std.proofs.Common.{[], ◌∷◌, ◌∙◌, refl, arith}
use Rattle.llrp_session.specs.Contents.{SetKeepalive, Asks}
use Rattle.llrp_session.proofs.LawfulMessages.{keepalive_lawful, keepalive_fits}
use Rattle.llrp_session.proofs.ToldMessages.{client_told, client_lawful, keepalive_told}
use Rattle.llrp_session.proofs.build.client.set_keepalive.Goals as goal

pub leaf-spec-requires : goal.leaf-spec-requires
leaf-spec-requires c =
    let fits = keepalive_fits c.args.ms (omega arith) in
    keepalive_lawful c.keepalive_type.result c.args.ms (rw c.keepalive_type.ensures.trigger fits.0) (omega arith)

pub message-requires : goal.message-requires
message-requires c =
    let told = keepalive_told c.args.ms c.keepalive_type.result c.in-Ok.children.items c.leaf-spec.result c.in-Ok.ensures c.leaf-spec.ensures c.keepalive_type.ensures.trigger c.keepalive_type.ensures.period in
    client_lawful c.args.id _ (0 ∷ []) c.in-Ok.children.items (Asks (SetKeepalive c.args.ms)) refl refl told (omega arith) (omega arith)

pub returns-in-Ok-clause-ok : goal.returns-in-Ok-clause-ok
returns-in-Ok-clause-ok c =
    let told = keepalive_told c.args.ms c.keepalive_type.result c.in-Ok.children.items c.leaf-spec.result c.in-Ok.ensures c.leaf-spec.ensures c.keepalive_type.ensures.trigger c.keepalive_type.ensures.period in
    c.message.ensures ∙ client_told c.args.id _ (0 ∷ []) c.in-Ok.children.items (Asks (SetKeepalive c.args.ms)) refl refl told
