use Rattle.std.proofs.Common.{◌≡◌, [], ◌∷◌, ◌++◌, List, ◌∙◌, ap, refl, arith}
use Rattle.llrp_tree.specs.Tree.{Tree}
use Rattle.llrp_session.specs.Contents.{Add, Asks}
use Rattle.llrp_session.proofs.ToldMessages.{client_told, client_lawful}
use Rattle.llrp_session.proofs.build.client.add.Goals as goal

pub message-requires : goal.message-requires
message-requires c =
    let items : c.push.new.self.items ≡ c.args.spec ∷ [] = c.in-Ok-push.ensures.items ∙ ap (λ (ts : List Tree). ts ++ c.args.spec ∷ []) c.in-Ok.ensures.items in
    client_lawful c.args.id _ [] c.push.new.self.items (Asks (Add c.args.spec)) refl refl items (omega arith)
    (record { kind = c.requires.0; lawful = c.lawful.ensures; within = c.requires.1 })

pub returns-in-Ok-push-clause-ok : goal.returns-in-Ok-push-clause-ok
returns-in-Ok-push-clause-ok c =
    let items : c.push.new.self.items ≡ c.args.spec ∷ [] = c.in-Ok-push.ensures.items ∙ ap (λ (ts : List Tree). ts ++ c.args.spec ∷ []) c.in-Ok.ensures.items in
    c.message.ensures ∙ client_told c.args.id _ [] c.push.new.self.items (Asks (Add c.args.spec)) refl refl items
