-- How clients are served one after another.
use Rattle.std.proofs.Common.{◌≡◌, ℕ, ◌<◌, ◌≤◌, Bool, true, false, List, Some, None, Ok, Err, refl, sym, ap, subst, ◌∙◌, inl, inr}
use Rattle.std.specs.Prelude.{Result}
use Rattle.llrp_stream.specs.Device.{SinkLog}
use Rattle.llrp_listing.specs.declared.outcome.ToolErr.{ToolErr}
use Rattle.llrp_listing.specs.declared.outcome.ToolErr.TheVariants.{Memory}
use Rattle.llrp_endpoints.specs.declared.script.Entry.{Entry}
use Rattle.llrp_commands.specs.Calls.Command.{Answers, fine_status}
use Rattle.llrp.specs.Calls.Network.{Concludes, Serves}
use Rattle.llrp_words.specs.declared.arguments.sim_words.SimWords.{SimWords}
use Rattle.llrp.specs.Calls.Clients.{FailsToSay, IsGreater, IsPortOf, MaySay, SaysReady, ServedClients, ServesClients, ServesThere, listens_on, none, one_more}

-- ---- no write has failed

answered : (outcome : Result ℕ ToolErr) (e0 e1 : SinkLog) (status : ℕ) → Answers outcome e0 e1 (Ok status) → e1.failures ≡ e0.failures
answered (Ok s) e0 e1 status (same, is) = ap (λ (e : SinkLog). e.failures) is
answered (Err error) e0 e1 status (same, wrote) = ap (λ (e : SinkLog). e.failures) wrote.counts

pub concluded : (run : Result (Unit {0}) ToolErr) (e0 e1 : SinkLog) (status : ℕ) → Concludes (Some run) e0 e1 (Ok status) → e1.failures ≡ e0.failures
concluded run e0 e1 status is = answered (fine_status run) e0 e1 status is

pub none_failed : (entries : List Entry) (n status : ℕ) (e0 e1 : SinkLog) → ServedClients entries n e0 e1 status → e1.failures ≡ e0.failures
none_failed entries n status e0 e1 (none e) = refl
none_failed entries n status e0 e1 (one_more m before ended greater e0' e e1' run served runs is greatest) =
    concluded run e e1' ended is ∙ none_failed entries m before e0' e served

-- ---- one client more

pub greater_of : (status ended greater : ℕ) → (status ≤ greater) → (ended ≤ greater) → (greater ≡ ended) → IsGreater status ended greater
greater_of status ended greater a b same = record { first = a; second = b; one = inr same }

pub not_greater : (status ended greater : ℕ) → (status ≤ greater) → (ended ≤ greater) → (greater ≡ status) → IsGreater status ended greater
not_greater status ended greater a b same = record { first = a; second = b; one = inl same }

-- ---- why no more are served

pub no_network : (entries : List Entry) (most n status : ℕ) (e0 e e1 : SinkLog) (answer : Result ℕ ToolErr) → n < most → ServedClients entries n e0 e status → Concludes None e e1 answer → ServesClients entries most e0 e1 answer
no_network entries most n status e0 e e1 answer less served is = inr (n, status, e, less, served, inl is)

pub no_memory : (entries : List Entry) (most n status : ℕ) (e0 e e1 : SinkLog) (answer : Result ℕ ToolErr) → n < most → ServedClients entries n e0 e status → Concludes (Some (Err Memory)) e e1 answer → ServesClients entries most e0 e1 answer
no_memory entries most n status e0 e e1 answer less served is = inr (n, status, e, less, served, inr (inl is))

pub no_line : (entries : List Entry) (most n status : ℕ) (e0 e e1 : SinkLog) (run : Result (Unit {0}) ToolErr) (fault : ToolErr) → n < most → ServedClients entries n e0 e status → Serves entries run → Concludes (Some run) e e1 (Err fault)
    → ServesClients entries most e0 e1 (Err fault)
no_line entries most n status e0 e e1 run fault less served runs is = inr (n, status, e, less, served, inr (inr (run, fault, runs, is, refl)))

pub all_served : (entries : List Entry) (most n status : ℕ) (e0 e1 : SinkLog) → n ≡ most → ServedClients entries n e0 e1 status → ServesClients entries most e0 e1 (Ok status)
all_served entries most n status e0 e1 same served = inl (status, subst (λ (k : ℕ). ServedClients entries k e0 e1 status) same served, refl)

-- ---- where it listens, and that it says so

-- clients are served so
module _ (Serve : SinkLog → SinkLog → Result ℕ ToolErr → Type 0) where
  pub says_not : (words : SimWords) (e0 e1 : SinkLog) (address : List ℕ) (port : ℕ) (fault : ToolErr) → words.ready ≡ true → address ≡ listens_on words.bind → IsPortOf words.port port → SaysReady address port e0 e1 (Err fault) → ServesThere words Serve e0 e1 (Err fault)
  says_not words e0 e1 address port fault ready same of is =
      let fails : FailsToSay true (listens_on words.bind) port e0 e1 (Err fault) = (fault, subst (λ (a : List ℕ). SaysReady a port e0 e1 (Err fault)) same is, refl) in
      inr (inl (port, of, subst (λ (b : Bool). FailsToSay b (listens_on words.bind) port e0 e1 (Err fault)) (sym ready) fails))

  pub says : (words : SimWords) (e0 e e1 : SinkLog) (address : List ℕ) (port : ℕ) (answer : Result ℕ ToolErr) → words.ready ≡ true → address ≡ listens_on words.bind → IsPortOf words.port port → SaysReady address port e0 e (Ok tt) → Serve e e1 answer → ServesThere words Serve e0 e1 answer
  says words e0 e e1 address port answer ready same of is serves =
      let said : MaySay true (listens_on words.bind) port e0 e = subst (λ (a : List ℕ). SaysReady a port e0 e (Ok tt)) same is in
      inr (inr (port, e, of, subst (λ (b : Bool). MaySay b (listens_on words.bind) port e0 e) (sym ready) said, serves))

  pub is_silent : (words : SimWords) (e0 e1 : SinkLog) (answer : Result ℕ ToolErr) → words.ready ≡ false → Serve e0 e1 answer → ServesThere words Serve e0 e1 answer
  is_silent words e0 e1 answer ready serves =
      let said : MaySay false (listens_on words.bind) words.port e0 e0 = refl in
      inr (inr (words.port, e0, inr refl, subst (λ (b : Bool). MaySay b (listens_on words.bind) words.port e0 e0) (sym ready) said, serves))
