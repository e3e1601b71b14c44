use Rattle.std.proofs.Common.{◌++◌, ◌∙◌, ap, sym, map, List}
use Rattle.std.proofs.lemmas.Result.{err_from_is_err_and}
use Rattle.llrp_tree.specs.Tree.{MessageTree}
use Rattle.llrp_session.specs.ClientMachine.{Client, Taking, take}
use Rattle.llrp_session.specs.ClientMessages.{client_message}
use Rattle.llrp_endpoints.proofs.AsideLemmas.{only_acknowledged}
use Rattle.llrp_session.specs.Calls.ClientSteps.{sent_by}
use Rattle.llrp_session.specs.Reading.{heard_of}
use Rattle.llrp_endpoints.proofs.GatheringSteps.{message_refused, answered_some, answered_all, taken_in}
use Rattle.llrp_endpoints.proofs.gathering.Gathering.take_message.Goals as goal

pub returns-in-Err-clause-does : goal.returns-in-Err-clause-does
returns-in-Err-clause-does c = λ d h opened.
    let step = λ (a : Client). take a c.args.message.id (heard_of c.args.message) in
    rw c.message_error.ensures
    (message_refused d c.args.self.now (step d.client) (step c.args.self.now.client) c.in-Err.refusal.fault c.args.out.now.items c.args.report.now.items (ap step h.client_is) c.in-Err.ensures.refused)

pub returns-in_err-append_frames-clause-does : goal.returns-in_err-append_frames-clause-does
returns-in_err-append_frames-clause-does c = λ d h opened.
    let p = err_from_is_err_and c.from_residual.result c.from_residual.ensures.1 in
    let step = λ (a : Client). take a c.args.message.id (heard_of c.args.message) in
    let taking : Taking = record { taken = c.in-Ok.taken; sent = sent_by (step c.args.self.now.client); client = c.take.new.self } in
    let messages = c.as_slice.ensures.value ∙ c.in-Ok.ensures.sent ∙ ap (λ (ms : List MessageTree). ms ++ map client_message taking.sent) c.new-answers.ensures.items ∙ only_acknowledged d.asides c.args.self.now.client c.args.message.id (heard_of c.args.message) taking c.in-Ok.ensures.step in
    rw (p.1, p.2, c.in_err-append_frames.ensures.err.0)
    (answered_some d c.args.self.now (step d.client) taking _ c.args.out.now.items c.append_frames.new.out.items c.args.report.now.items (ap step (sym h.client_is) ∙ c.in-Ok.ensures.step) messages c.in_err-append_frames.ensures.err.1)

pub returns-clause-does : goal.returns-clause-does
returns-clause-does c = λ d h opened.
    let step = λ (a : Client). take a c.args.message.id (heard_of c.args.message) in
    let taking : Taking = record { taken = c.in-Ok.taken; sent = sent_by (step c.args.self.now.client); client = c.take.new.self } in
    let messages = c.as_slice.ensures.value ∙ c.in-Ok.ensures.sent ∙ ap (λ (ms : List MessageTree). ms ++ map client_message taking.sent) c.new-answers.ensures.items ∙ only_acknowledged d.asides c.args.self.now.client c.args.message.id (heard_of c.args.message) taking c.in-Ok.ensures.step in
    answered_all d c.follow.new.self (step d.client) taking _ c.args.out.now.items c.append_frames.new.out.items c.follow.new.out.items c.args.report.now.items c.follow.new.report.items c.follow.result opened
    (ap step (sym h.client_is) ∙ c.in-Ok.ensures.step) messages c.in_ok-append_frames.ensures.ok (c.follow.ensures.does _ (taken_in d c.args.self.now taking h) opened)
