-- Serving by the calls of a server.
use Rattle.std.proofs.Common.{◌≡◌, ℕ, Bool, true, false, List, [], ◌++◌, Result, Ok, Err}
use Rattle.llrp_tree.specs.Tree.{MessageTree}
use Rattle.llrp_session.specs.ReaderMachine.{Reader}
use Rattle.llrp_listing.specs.declared.outcome.ToolErr.{ToolErr}
use Rattle.llrp_listing.specs.declared.outcome.ToolErr.TheVariants.{Listing, Script, Hex, Read, Write, Bound, Broken, Memory, Peer, Strange, Early}
use Rattle.llrp_endpoints.specs.declared.script.Entry.{Entry}
use Rattle.llrp_endpoints.specs.declared.serving.Serving.{Serving}
use Rattle.llrp_endpoints.specs.Serving.{waiting, Serves, BeginsServing}
use Rattle.llrp_endpoints.specs.Calls.ServingStands.{IsOpen, Starts as StartsServing, Feeds as FeedsServing, Goes as GoesOn}
use Rattle.llrp_endpoints.specs.Private.Server.{Starts, Goes, Feeds}
use Rattle.llrp_endpoints.specs.Calls.Acting.{phase_after}
use Rattle.llrp_endpoints.proofs.ServingBegins.{begins_open, begins_goes}

pub started : (reader : Reader) (entries : List Entry) (new : Serving) (out0 out1 : List ℕ) (answer : Result (Unit {0}) ToolErr) → StartsServing reader entries new out0 out1 answer → Starts (IsOpen reader entries) (Serves reader entries) (BeginsServing reader entries) new out0 out1 answer
started reader entries new out0 out1 (Ok u) h = (h.0, h.1, begins_open reader entries [] h.0 waiting h.2.stands.stays, (h.2, h.2.stands.stays))
started reader entries new out0 out1 (Err error) h = (h.1, h.2, h.3, h.0)

pub fed : (reader : Reader) (entries : List Entry) (bytes : List ℕ) (messages : List MessageTree) (piece : List ℕ) (new : Serving) (out0 out1 : List ℕ) (answer : Result Bool ToolErr) → FeedsServing reader entries bytes messages piece new out0 out1 answer
    → Feeds (IsOpen reader entries) (Serves reader entries) (BeginsServing reader entries) bytes messages piece new out0 out1 answer
fed reader entries bytes messages piece new out0 out1 answer f = (f.0, f.1, begins_goes reader entries (bytes ++ piece) (messages ++ f.0) new answer f.2, went answer f.2 f.3)
  where
    went : (answer : Result Bool ToolErr) → GoesOn reader entries (bytes ++ piece) (messages ++ f.0) new answer → new.phase ≡ phase_after answer → Goes (IsOpen reader entries) (Serves reader entries) (bytes ++ piece) (messages ++ f.0) new answer
    went (Ok false) h phase = (record { stands = h; phase = phase }, h.stays)
    went (Ok true) h phase = h
    went (Err Broken) h phase = h
    went (Err Memory) h phase = tt
    went (Err (Listing line reason)) h phase = absurd h
    went (Err (Script line)) h phase = absurd h
    went (Err Hex) h phase = absurd h
    went (Err Read) h phase = absurd h
    went (Err Write) h phase = absurd h
    went (Err Bound) h phase = absurd h
    went (Err (Peer status)) h phase = absurd h
    went (Err Strange) h phase = absurd h
    went (Err Early) h phase = absurd h
