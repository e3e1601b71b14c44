use Rattle.std.proofs.Common.{[], ◌∷◌, ◌++◌, ◌∙◌, ap, sym, List}
use Rattle.std.proofs.lemmas.Result.{err_from_is_err_and}
use Rattle.llrp_tree.specs.Tree.{MessageTree}
use Rattle.llrp_session.specs.Contents.{Asks}
use Rattle.llrp_session.specs.ClientMachine.{Sending}
use Rattle.llrp_session.specs.ClientMessages.{client_message}
use Rattle.llrp_endpoints.proofs.AsideSteps.{aside_is, said_is}
use Rattle.llrp_endpoints.specs.Asides.{instead}
use Rattle.llrp_endpoints.proofs.GatheringLemmas.{none_left, refused, some_all, some_more, sent_some, sent_all, awaits_tags, sends_none}
use Rattle.llrp_endpoints.proofs.GatheringSteps.{some_of}
use Rattle.llrp_endpoints.proofs.SendingLemmas.{adds_more}
use Rattle.llrp_endpoints.specs.declared.course.Step.{Step}
use Rattle.llrp_endpoints.specs.Calls.GatheringStands.{steps_left}
use Rattle.llrp_endpoints.specs.Private.GatheringStands.{awaited_after}
use Rattle.llrp_endpoints.proofs.gathering.Gathering.go_on.Goals as goal

pub returns-in_default-clause-does : goal.returns-in_default-clause-does
returns-in_default-clause-does c = λ d r h opened. none_left d c.args.self.now c.next.new.self c.args.out.now.items r h opened c.in_default.ensures.0 c.in_default.ensures.1

pub returns-in_default-step-clause-does : goal.returns-in_default-step-clause-does
returns-in_default-step-clause-does c = λ d r h opened.
    rw c.awaited_after-self.ensures
    (awaits_tags d c.args.self.now c.next.new.self c.in-Some.step c.args.out.now.items r h opened c.in-Some.ensures.0 (sends_none c.in-Some.step (λ k e. c.in_default-step.not-Send k e)))

pub returns-in-Err-clause-does : goal.returns-in-Err-clause-does
returns-in-Err-clause-does c = λ d r h opened.
    let first = c.in-Some.ensures.0 ∙ ap (λ (x : Step). x ∷ steps_left c.next.new.self) c.in-Send.is in
    rw c.command_error.ensures (refused d c.args.self.now c.args.self.now c.in-Send.command _ c.in-Err.refusal.fault c.args.out.now.items r h first c.in-Err.ensures.refused)

pub returns-in_err-append_frames-clause-does : goal.returns-in_err-append_frames-clause-does
returns-in_err-append_frames-clause-does c = λ d r h opened.
    let p = err_from_is_err_and c.from_residual.result c.from_residual.ensures.1 in
    let k = c.in-Send.command in
    let first = c.in-Some.ensures.0 ∙ ap (λ (x : Step). x ∷ steps_left c.next.new.self) c.in-Send.is in
    let sending : Sending = record { message = record { id = c.args.self.now.client.next_id; word = Asks k }; client = c.command.new.self } in
    let aside = c.aside_messages-asides.ensures ∙ aside_is c.args.self.now c.aside_before-aside.result d h ∙ sym (c.aside_before-aside.ensures d.asides) in
    let said = ap (λ (ms : List MessageTree). ms ++ instead d.asides.whole (client_message sending.message) ∷ []) aside in
    rw (p.1, p.2, c.in_err-append_frames.ensures.err.0)
    (sent_some d c.args.self.now c.args.self.now k _ sending _ c.args.out.now.items c.append_frames.new.out.items r h first c.in_default-command.ensures.step said
    (some_of c.aside_messages-asides.result.now (instead d.asides.whole (client_message sending.message) ∷ []) c.args.out.now.items c.append_frames.new.out.items c.in_err-append_frames.ensures.err.1))

pub returns-in_err-said-clause-does : goal.returns-in_err-said-clause-does
returns-in_err-said-clause-does c = λ d r h opened.
    let p = err_from_is_err_and c.from_residual-in_err-said.result c.from_residual-in_err-said.ensures.1 in
    let k = c.in-Send.command in
    let first = c.in-Some.ensures.0 ∙ ap (λ (x : Step). x ∷ steps_left c.next.new.self) c.in-Send.is in
    let sending : Sending = record { message = record { id = c.args.self.now.client.next_id; word = Asks k }; client = c.command.new.self } in
    let aside = c.aside_messages-asides.ensures ∙ aside_is c.args.self.now c.aside_before-aside.result d h ∙ sym (c.aside_before-aside.ensures d.asides) in
    let said = ap (λ (ms : List MessageTree). ms ++ instead d.asides.whole (client_message sending.message) ∷ []) aside in
    rw (p.1, p.2)
    (sent_some d c.args.self.now c.args.self.now k _ sending _ c.args.out.now.items c.append_frames.new.out.items r h first c.in_default-command.ensures.step said
    (some_of c.aside_messages-asides.result.now (instead d.asides.whole (client_message sending.message) ∷ []) c.args.out.now.items c.append_frames.new.out.items (some_all c.aside_messages-asides.result.now c.args.out.now.items c.append_frames.new.out.items c.in_ok-append_frames.ensures.ok)))

pub returns-in_err-append_frames-2-clause-does : goal.returns-in_err-append_frames-2-clause-does
returns-in_err-append_frames-2-clause-does c = λ d r h opened.
    let p = err_from_is_err_and c.from_residual-in_err-append_frames-2.result c.from_residual-in_err-append_frames-2.ensures.1 in
    let k = c.in-Send.command in
    let first = c.in-Some.ensures.0 ∙ ap (λ (x : Step). x ∷ steps_left c.next.new.self) c.in-Send.is in
    let sending : Sending = record { message = record { id = c.args.self.now.client.next_id; word = Asks k }; client = c.command.new.self } in
    let aside = c.aside_messages-asides.ensures ∙ aside_is c.args.self.now c.aside_before-aside.result d h ∙ sym (c.aside_before-aside.ensures d.asides) in
    let own = c.as_slice.ensures.value ∙ said_is c.args.self.now d h sending.message c.in_ok-said.said.items _ c.in_ok-said.ensures (c.in_default-command.ensures.sent ∙ ap (λ (ms : List MessageTree). ms ++ client_message sending.message ∷ []) c.new-messages.ensures.items) in
    let said = ap (λ (ms : List MessageTree). c.aside_messages-asides.result.now ++ ms) own ∙ ap (λ (ms : List MessageTree). ms ++ instead d.asides.whole (client_message sending.message) ∷ []) aside in
    rw (p.1, p.2, c.in_err-append_frames-2.ensures.err.0)
    (sent_some d c.args.self.now c.args.self.now k _ sending _ c.args.out.now.items c.append_frames-2.new.out.items r h first c.in_default-command.ensures.step said
    (some_more c.aside_messages-asides.result.now c.as_slice.result.now c.args.out.now.items c.append_frames.new.out.items c.append_frames-2.new.out.items c.in_ok-append_frames.ensures.ok c.in_err-append_frames-2.ensures.err.1))

pub returns-clause-does : goal.returns-clause-does
returns-clause-does c = λ d r h opened.
    let k = c.in-Send.command in
    let first = c.in-Some.ensures.0 ∙ ap (λ (x : Step). x ∷ steps_left c.next.new.self) c.in-Send.is in
    let sending : Sending = record { message = record { id = c.args.self.now.client.next_id; word = Asks k }; client = c.command.new.self } in
    let aside = c.aside_messages-asides.ensures ∙ aside_is c.args.self.now c.aside_before-aside.result d h ∙ sym (c.aside_before-aside.ensures d.asides) in
    let own = c.as_slice.ensures.value ∙ said_is c.args.self.now d h sending.message c.in_ok-said.said.items _ c.in_ok-said.ensures (c.in_default-command.ensures.sent ∙ ap (λ (ms : List MessageTree). ms ++ client_message sending.message ∷ []) c.new-messages.ensures.items) in
    let said = ap (λ (ms : List MessageTree). c.aside_messages-asides.result.now ++ ms) own ∙ ap (λ (ms : List MessageTree). ms ++ instead d.asides.whole (client_message sending.message) ∷ []) aside in
    let awaits = c.awaited_after-self.ensures ∙ ap awaited_after c.in-Send.is in
    rw awaits
    (sent_all d c.args.self.now c.next.new.self k sending _ c.args.out.now.items c.append_frames-2.new.out.items r h opened first c.in_default-command.ensures.step said
    (adds_more c.aside_messages-asides.result.now c.as_slice.result.now c.args.out.now.items c.append_frames.new.out.items c.append_frames-2.new.out.items c.in_ok-append_frames.ensures.ok c.in_ok-append_frames-2.ensures.ok))
