use Rattle.std.proofs.Common.{sym, subst, ℕ, [], ◌∷◌}
use Rattle.llrp_schema.specs.declared.kinds.ParamKind.TheVariants.{WholeLlrpStatus}
use Rattle.llrp_tree.specs.Tree.{none}
use Rattle.llrp_tree.specs.Lawful.{AreLawful}
use Rattle.llrp_session.specs.Calls.Answers.{of_access}
use Rattle.llrp_session.proofs.AnswersLawful.{status_lawful, access_items, message_lawful, message_is}
use Rattle.llrp_session.proofs.answers.of_access.Goals as goal

pub leaf-status-requires : goal.leaf-status-requires
leaf-status-requires c = subst (λ (s : ℕ). AreLawful WholeLlrpStatus (s ∷ []) [] none) (sym c.status_of.ensures) (status_lawful c.args.fields.now)

pub message-requires : goal.message-requires
unfolding of_access
message-requires c = message_lawful c.args.version c.args.id (of_access c.args.kind c.args.fields.now) c.in_ok-parts.parts.items
    (access_items c.args.kind c.args.fields.now c.status_of.result c.in_ok-parts.parts.items _ c.in_ok-parts.ensures c.leaf-status.ensures c.status_of.ensures) c.requires

pub returns : goal.returns
unfolding of_access
returns c = message_is c.args.version c.args.id (of_access c.args.kind c.args.fields.now) c.in_ok-parts.parts.items c.message.result
    (access_items c.args.kind c.args.fields.now c.status_of.result c.in_ok-parts.parts.items _ c.in_ok-parts.ensures c.leaf-status.ensures c.status_of.ensures) c.message.ensures
