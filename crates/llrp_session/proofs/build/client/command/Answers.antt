use Rattle.std.proofs.Common.{[], ◌∷◌, ◌∙◌, ap, refl, sym, arith}
use Rattle.llrp_session.specs.Contents.{Command, Delete, Start, Stop, Enable, Disable, GetRospecs, GetReport, Close, Asks}
use Rattle.llrp_session.specs.ClientMessages.{client_message}
use Rattle.llrp_session.proofs.ToldMessages.{client_told, client_lawful}
use Rattle.llrp_session.proofs.build.client.command.Goals as goal

pub about-requires : goal.about-requires
about-requires c = client_lawful c.args.id _ (c.in-Delete.rospec ∷ []) [] (Asks (Delete c.in-Delete.rospec)) refl refl refl (omega arith) (omega arith)

pub returns-in-Delete-clause-ok : goal.returns-in-Delete-clause-ok
returns-in-Delete-clause-ok c =
    c.about.ensures ∙ client_told c.args.id _ (c.in-Delete.rospec ∷ []) [] (Asks (Delete c.in-Delete.rospec)) refl refl refl
    ∙ ap (λ (k : Command). client_message (record { id = c.args.id; word = Asks k })) (sym c.in-Delete.is)

pub about-requires-in-Start : goal.about-requires-in-Start
about-requires-in-Start c = client_lawful c.args.id _ (c.in-Start.rospec ∷ []) [] (Asks (Start c.in-Start.rospec)) refl refl refl (omega arith) (omega arith)

pub returns-in-Start-clause-ok : goal.returns-in-Start-clause-ok
returns-in-Start-clause-ok c =
    c.about-in-Start.ensures ∙ client_told c.args.id _ (c.in-Start.rospec ∷ []) [] (Asks (Start c.in-Start.rospec)) refl refl refl
    ∙ ap (λ (k : Command). client_message (record { id = c.args.id; word = Asks k })) (sym c.in-Start.is)

pub about-requires-in-Stop : goal.about-requires-in-Stop
about-requires-in-Stop c = client_lawful c.args.id _ (c.in-Stop.rospec ∷ []) [] (Asks (Stop c.in-Stop.rospec)) refl refl refl (omega arith) (omega arith)

pub returns-in-Stop-clause-ok : goal.returns-in-Stop-clause-ok
returns-in-Stop-clause-ok c =
    c.about-in-Stop.ensures ∙ client_told c.args.id _ (c.in-Stop.rospec ∷ []) [] (Asks (Stop c.in-Stop.rospec)) refl refl refl
    ∙ ap (λ (k : Command). client_message (record { id = c.args.id; word = Asks k })) (sym c.in-Stop.is)

pub about-requires-in-Enable : goal.about-requires-in-Enable
about-requires-in-Enable c = client_lawful c.args.id _ (c.in-Enable.rospec ∷ []) [] (Asks (Enable c.in-Enable.rospec)) refl refl refl (omega arith) (omega arith)

pub returns-in-Enable-clause-ok : goal.returns-in-Enable-clause-ok
returns-in-Enable-clause-ok c =
    c.about-in-Enable.ensures ∙ client_told c.args.id _ (c.in-Enable.rospec ∷ []) [] (Asks (Enable c.in-Enable.rospec)) refl refl refl
    ∙ ap (λ (k : Command). client_message (record { id = c.args.id; word = Asks k })) (sym c.in-Enable.is)

pub about-requires-in-Disable : goal.about-requires-in-Disable
about-requires-in-Disable c = client_lawful c.args.id _ (c.in-Disable.rospec ∷ []) [] (Asks (Disable c.in-Disable.rospec)) refl refl refl (omega arith) (omega arith)

pub returns-in-Disable-clause-ok : goal.returns-in-Disable-clause-ok
returns-in-Disable-clause-ok c =
    c.about-in-Disable.ensures ∙ client_told c.args.id _ (c.in-Disable.rospec ∷ []) [] (Asks (Disable c.in-Disable.rospec)) refl refl refl
    ∙ ap (λ (k : Command). client_message (record { id = c.args.id; word = Asks k })) (sym c.in-Disable.is)

pub message-requires : goal.message-requires
message-requires c = client_lawful c.args.id _ [] c.new.result.items (Asks GetRospecs) refl refl c.new.ensures.items (omega arith) tt

pub returns-in-GetRospecs-clause-ok : goal.returns-in-GetRospecs-clause-ok
returns-in-GetRospecs-clause-ok c =
    c.message.ensures ∙ client_told c.args.id _ [] c.new.result.items (Asks GetRospecs) refl refl c.new.ensures.items
    ∙ ap (λ (k : Command). client_message (record { id = c.args.id; word = Asks k })) (sym c.in-GetRospecs.is)

pub message-requires-in-GetReport : goal.message-requires-in-GetReport
message-requires-in-GetReport c = client_lawful c.args.id _ [] c.new-in-GetReport.result.items (Asks GetReport) refl refl c.new-in-GetReport.ensures.items (omega arith) tt

pub returns-in-GetReport-clause-ok : goal.returns-in-GetReport-clause-ok
returns-in-GetReport-clause-ok c =
    c.message-in-GetReport.ensures ∙ client_told c.args.id _ [] c.new-in-GetReport.result.items (Asks GetReport) refl refl c.new-in-GetReport.ensures.items
    ∙ ap (λ (k : Command). client_message (record { id = c.args.id; word = Asks k })) (sym c.in-GetReport.is)

pub message-requires-in-Close : goal.message-requires-in-Close
message-requires-in-Close c = client_lawful c.args.id _ [] c.new-in-Close.result.items (Asks Close) refl refl c.new-in-Close.ensures.items (omega arith) tt

pub returns-in-Close-clause-ok : goal.returns-in-Close-clause-ok
returns-in-Close-clause-ok c =
    c.message-in-Close.ensures ∙ client_told c.args.id _ [] c.new-in-Close.result.items (Asks Close) refl refl c.new-in-Close.ensures.items
    ∙ ap (λ (k : Command). client_message (record { id = c.args.id; word = Asks k })) (sym c.in-Close.is)
