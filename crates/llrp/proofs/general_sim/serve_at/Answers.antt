use Rattle.std.proofs.Common.{ℕ, subst}
use Rattle.std.specs.Prelude.{Result}
use Rattle.std.proofs.lemmas.Result.{err_from_is_err_and}
use Rattle.llrp_stream.specs.Device.{SinkLog}
use Rattle.llrp_listing.specs.declared.outcome.ToolErr.{ToolErr}
use Rattle.llrp.specs.Calls.Clients.{most_clients}
use Rattle.llrp.specs.Calls.GeneralClients.{ServesGenerals}
use Rattle.llrp.proofs.ClientLemmas.{is_silent, says, says_not}
use Rattle.llrp.proofs.general_sim.serve_at.Goals.{then-words+in_ok-say_ready, else-words}
use Rattle.llrp.proofs.general_sim.serve_at.Goals as goal

pub returns-in_err-say_ready : goal.returns-in_err-say_ready
returns-in_err-say_ready g c =
    let p = err_from_is_err_and c.from_residual.result c.from_residual.ensures.1 in
    rw (p.1, p.2) (says_not (λ (a b : SinkLog) (r : Result ℕ ToolErr). ServesGenerals c.args.answers.now.text.items c.args.words.keep c.args.script.now (most_clients c.args.words.clients) a b r) c.args.words (g.E.Sink.log c.args.e.now) (g.E.Sink.log c.say_ready.new.e) c.listens_on-address.result.now c.port_of.result c.in_err-say_ready.field-0.0 c.if-words.true c.listens_on-address.ensures c.port_of.ensures c.in_err-say_ready.ensures)

pub returns : goal.returns
returns g c = elim c.if-words.branch [
  | then-words+in_ok-say_ready w ↦ says (λ (a b : SinkLog) (r : Result ℕ ToolErr). ServesGenerals c.args.answers.now.text.items c.args.words.keep c.args.script.now (most_clients c.args.words.clients) a b r) c.args.words (g.E.Sink.log c.args.e.now) (g.E.Sink.log w.say_ready.new.e) (g.E.Sink.log c.serve_clients.new.e) c.listens_on-address.result.now w.port_of.result c.serve_clients.result w.if-words.true c.listens_on-address.ensures w.port_of.ensures w.in_ok-say_ready.ensures
      (subst (λ (n : ℕ). ServesGenerals c.args.answers.now.text.items c.args.words.keep c.args.script.now n (g.E.Sink.log w.say_ready.new.e) (g.E.Sink.log c.serve_clients.new.e) c.serve_clients.result) c.most_clients-most.ensures
      (subst (λ x. ServesGenerals c.args.answers.now.text.items c.args.words.keep c.args.script.now c.most_clients-most.result (g.E.Sink.log x) (g.E.Sink.log c.serve_clients.new.e) c.serve_clients.result) w.e-is c.serve_clients.ensures))
  | else-words w ↦ is_silent (λ (a b : SinkLog) (r : Result ℕ ToolErr). ServesGenerals c.args.answers.now.text.items c.args.words.keep c.args.script.now (most_clients c.args.words.clients) a b r) c.args.words (g.E.Sink.log c.args.e.now) (g.E.Sink.log c.serve_clients.new.e) c.serve_clients.result w.if-words.false
      (subst (λ (n : ℕ). ServesGenerals c.args.answers.now.text.items c.args.words.keep c.args.script.now n (g.E.Sink.log c.args.e.now) (g.E.Sink.log c.serve_clients.new.e) c.serve_clients.result) c.most_clients-most.ensures
      (subst (λ x. ServesGenerals c.args.answers.now.text.items c.args.words.keep c.args.script.now c.most_clients-most.result (g.E.Sink.log x) (g.E.Sink.log c.serve_clients.new.e) c.serve_clients.result) w.e-is c.serve_clients.ensures))
]
