-- What serving has said is the first of what is said.
use Rattle.std.proofs.Common.{ℕ, ◌+◌, Bool, true, false, List, [], ◌∷◌, ◌++◌, length, map, Result, Ok, Err, sym, ap, ◌∙◌}
use Rattle.std.proofs.lemmas.List.{append-nil}
use Rattle.llrp_tree.specs.Tree.{MessageTree}
use Rattle.llrp_session.specs.ReaderMachine.{Reader}
use Rattle.llrp_listing.specs.declared.outcome.ToolErr.{ToolErr}
use Rattle.llrp_listing.specs.declared.outcome.ToolErr.TheVariants.{Listing, Script, Hex, Read, Write, Bound, Broken, Memory, Peer, Strange, Early}
use Rattle.llrp_endpoints.specs.declared.script.Entry.{Entry}
use Rattle.llrp_endpoints.specs.declared.serving.Serving.{Serving}
use Rattle.llrp_endpoints.specs.Serving.{Happening, happening, entries_at, closing_events, run, said, waiting, broken, StaysOpen, HasClosed, BeginsServing}
use Rattle.llrp_endpoints.specs.Calls.ServingStands.{Goes}
use Rattle.llrp_endpoints.proofs.ActingLemmas.{said-append}
use Rattle.llrp_endpoints.proofs.ServingEvents.{events-snoc}

-- what stays open has said the first of what is said
pub begins_open : (reader : Reader) (entries : List Entry) (bytes : List ℕ) (messages : List MessageTree) (standing : _) → StaysOpen reader entries bytes messages standing → BeginsServing reader entries bytes messages
begins_open reader entries bytes messages standing h = record { items = h.items; rest = h.rest; later = []; are = h.are; messages_are = sym h.messages_are ∙ sym (append-nil messages) }

pub begins_closed : (reader : Reader) (entries : List Entry) (bytes : List ℕ) (messages : List MessageTree) → HasClosed reader entries bytes messages → BeginsServing reader entries bytes messages
begins_closed reader entries bytes messages h =
    let due : List Happening = map happening (entries_at (length h.items + 1) entries) in
    let hs : List Happening = closing_events entries h.items h.last in
    record {
      items = h.items ++ h.last ∷ [];
      rest = h.rest;
      later = said (run (run reader hs).reader due);
      are = h.are;
      messages_are = ap (λ (ks : List Happening). said (run reader ks)) (events-snoc entries h.items h.last) ∙ said-append reader hs due ∙ ap (λ (ms : List MessageTree). ms ++ said (run (run reader hs).reader due)) (sym h.messages_are);
    }

pub begins_goes : (reader : Reader) (entries : List Entry) (bytes : List ℕ) (messages : List MessageTree) (s : Serving) (answer : Result Bool ToolErr) → Goes reader entries bytes messages s answer → BeginsServing reader entries bytes messages
begins_goes reader entries bytes messages s (Ok false) h = begins_open reader entries bytes messages waiting h.stays
begins_goes reader entries bytes messages s (Ok true) h = begins_closed reader entries bytes messages h
begins_goes reader entries bytes messages s (Err Broken) h = begins_open reader entries bytes messages broken h
begins_goes reader entries bytes messages s (Err Memory) h = h
begins_goes reader entries bytes messages s (Err (Listing line reason)) h = absurd h
begins_goes reader entries bytes messages s (Err (Script line)) h = absurd h
begins_goes reader entries bytes messages s (Err Hex) h = absurd h
begins_goes reader entries bytes messages s (Err Read) h = absurd h
begins_goes reader entries bytes messages s (Err Write) h = absurd h
begins_goes reader entries bytes messages s (Err Bound) h = absurd h
begins_goes reader entries bytes messages s (Err Early) h = absurd h
begins_goes reader entries bytes messages s (Err (Peer status)) h = absurd h
begins_goes reader entries bytes messages s (Err Strange) h = absurd h
