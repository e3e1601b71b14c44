use Rattle.std.proofs.Common.{◌≡◌, ◌<◌, ◌^◌, ◌∙◌, [], ◌∷◌, ℕ, ap, sym, subst, refl, arith}
use Rattle.std.specs.Prelude.{◌⊎◌}
use Rattle.llrp_tree.specs.Tree.{Tree}
use Rattle.llrp_session.specs.declared.types.Operation.TheVariants.{Deleting}
use Rattle.llrp_session.specs.Contents.{Response}
use Rattle.llrp_session.specs.ReaderMessages.{reader_message}
use Rattle.llrp_session.proofs.LawfulMessages.{status_lawful}
use Rattle.llrp_session.proofs.ToldMessages.{reader_told, reader_lawful}
use Rattle.llrp_endpoints.proofs.hearing.granted.Goals as goal

pub leaf-status-requires : goal.leaf-status-requires
leaf-status-requires c = status_lawful 0 (omega arith)

pub deletion_response-requires : goal.deletion_response-requires
deletion_response-requires c =
    reader_lawful c.version.result c.id.result _ c.in_ok-children.children.items (Response Deleting 0) refl (c.in_ok-children.ensures.items ∙ ap (λ (t : Tree). t ∷ []) c.leaf-status.ensures)
    (subst (λ (n : ℕ). (n ≡ 1) ⊎ (n ≡ 2)) (sym c.version.ensures) c.lawful.ensures.version) (subst (λ (n : ℕ). n < 2 ^ 32) (sym c.id.ensures) c.lawful.ensures.id) (omega arith)

pub returns : goal.returns
returns c =
    c.deletion_response.ensures
    ∙ reader_told c.version.result c.id.result _ c.in_ok-children.children.items (Response Deleting 0) refl (c.in_ok-children.ensures.items ∙ ap (λ (t : Tree). t ∷ []) c.leaf-status.ensures)
    ∙ ap (λ (n : ℕ). reader_message (record { version = n; id = c.id.result; word = Response Deleting 0 })) c.version.ensures
    ∙ ap (λ (n : ℕ). reader_message (record { version = c.args.message.now.version; id = n; word = Response Deleting 0 })) c.id.ensures
