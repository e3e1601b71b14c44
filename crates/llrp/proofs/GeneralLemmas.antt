-- How general clients are served one after another.
use Rattle.std.proofs.Common.{◌≡◌, ℕ, ◌+◌, ◌<◌, Bool, List, Some, None, Ok, Err, refl, subst, ◌∙◌, inl, inr}
use Rattle.std.specs.Prelude.{Result}
use Rattle.llrp_stream.specs.Device.{SourceLog, SinkLog}
use Rattle.llrp_stream.specs.Calls.Device.{new_sink, new_source}
use Rattle.llrp_session.specs.ReaderMachine.{Reader, new_reader}
use Rattle.llrp_listing.specs.declared.outcome.ToolErr.{ToolErr}
use Rattle.llrp_listing.specs.declared.outcome.ToolErr.TheVariants.{Memory}
use Rattle.llrp_answers.specs.declared.answers.Pair.{Pair}
use Rattle.llrp_answers.specs.Calls.Answers.{IsFile}
use Rattle.llrp_endpoints.specs.declared.script.Entry.{Entry}
use Rattle.llrp_general.specs.Calls.Serving.{RunsServeAmong, setting}
use Rattle.llrp_commands.specs.declared.command.TheConstants.{LIMIT}
use Rattle.llrp.specs.declared.network.TheConstants.{FIRST_ID}
use Rattle.llrp.specs.Calls.Network.{Concludes}
use Rattle.llrp.specs.Calls.Clients.{IsGreater}
use Rattle.llrp.specs.Calls.GeneralClients.{ServedGenerals, ServesGeneral, ServesGenerals, next_reader, none, one_more}
use Rattle.llrp.proofs.ClientLemmas.{concluded}

pub serves_general : (answers : List Pair) (entries : List Entry) (core left : Reader) (r0 r1 : SourceLog) (w0 w1 : SinkLog) (count : ℕ) (outcome : Result (Unit {0}) ToolErr) → r0 ≡ new_source None → w0 ≡ new_sink None
    → RunsServeAmong (setting core answers entries) count left r0 r1 w0 w1 outcome → ServesGeneral answers entries core left outcome
serves_general answers entries core left r0 r1 w0 w1 count outcome source sink run = (r1, w1, count, rw (source, sink) at run)

module _ (text : List ℕ) (keep : Bool) (entries : List Entry) where
  pub none_failed : (n status : ℕ) (core : Reader) (e0 e1 : SinkLog) → ServedGenerals text keep entries n core e0 e1 status → e1.failures ≡ e0.failures
  none_failed n status core e0 e1 (none e) = refl
  none_failed n status core e0 e1 (one_more m before ended greater last left answers e0' e e1' run served file runs is greatest) = concluded run e e1' ended is ∙ none_failed m before last e0' e served

  pub first_served : (core : Reader) (e : SinkLog) → core ≡ new_reader LIMIT FIRST_ID → ServedGenerals text keep entries 0 core e e 0
  first_served core e same = rw same (none e)

  pub more_served : (n status ended greater : ℕ) (core left next : Reader) (answers : List Pair) (e0 e1 e2 : SinkLog) (run : Result (Unit {0}) ToolErr) → ServedGenerals text keep entries n core e0 e1 status → IsFile text answers → ServesGeneral answers entries core left run → next ≡ next_reader keep left
      → Concludes (Some run) e1 e2 (Ok ended) → IsGreater status ended greater → ServedGenerals text keep entries (n + 1) next e0 e2 greater
  more_served n status ended greater core left next answers e0 e1 e2 run served file runs is ends greatest = rw is (one_more n status ended greater core left answers e0 e1 e2 run served file runs ends greatest)

  -- ---- why no more are served

  pub no_network : (most n status : ℕ) (core : Reader) (e0 e e1 : SinkLog) (answer : Result ℕ ToolErr) → n < most → ServedGenerals text keep entries n core e0 e status → Concludes None e e1 answer → ServesGenerals text keep entries most e0 e1 answer
  no_network most n status core e0 e e1 answer less served is = inr (n, status, core, e, less, served, inl is)

  pub no_memory : (most n status : ℕ) (core : Reader) (e0 e e1 : SinkLog) (answer : Result ℕ ToolErr) → n < most → ServedGenerals text keep entries n core e0 e status → Concludes (Some (Err Memory)) e e1 answer → ServesGenerals text keep entries most e0 e1 answer
  no_memory most n status core e0 e e1 answer less served is = inr (n, status, core, e, less, served, inr (inl is))

  pub no_line : (most n status : ℕ) (core left : Reader) (answers : List Pair) (e0 e e1 : SinkLog) (run : Result (Unit {0}) ToolErr) (fault : ToolErr) → n < most → ServedGenerals text keep entries n core e0 e status → IsFile text answers → ServesGeneral answers entries core left run
      → Concludes (Some run) e e1 (Err fault) → ServesGenerals text keep entries most e0 e1 (Err fault)
  no_line most n status core left answers e0 e e1 run fault less served file runs is = inr (n, status, core, e, less, served, inr (inr (left, answers, run, fault, file, runs, is, refl)))

  pub all_served : (most n status : ℕ) (core : Reader) (e0 e1 : SinkLog) → n ≡ most → ServedGenerals text keep entries n core e0 e1 status → ServesGenerals text keep entries most e0 e1 (Ok status)
  all_served most n status core e0 e1 same served = inl (status, core, subst (λ (k : ℕ). ServedGenerals text keep entries k core e0 e1 status) same served, refl)
