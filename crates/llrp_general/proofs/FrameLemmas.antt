-- Writing what is said.
use Rattle.std.proofs.Common.{◌≡◌, ℕ, List, [], ◌++◌, Result, Ok, Err, sym, ap, subst, ◌∙◌}
use Rattle.llrp_tree.specs.Tree.{MessageTree}
use Rattle.llrp_stream.specs.Device.{SinkLog}
use Rattle.llrp_listing.specs.declared.outcome.ToolErr.{ToolErr}
use Rattle.llrp_listing.specs.declared.outcome.ToolErr.TheVariants.{Listing, Script, Hex, Read, Write, Bound, Broken, Memory, Peer, Strange, Early}
use Rattle.llrp_listing.specs.Calls.Copying.{Writes}
use Rattle.llrp_endpoints.specs.Sending.{Adds, AreFrames}
use Rattle.llrp_general.specs.Private.Standing.{Speaks}

pub spoke : (messages : List MessageTree) (old out : List ℕ) (w0 w1 : SinkLog) (answer : Result (Unit {0}) ToolErr) → old ≡ [] → Adds messages old out → Writes out w0 w1 answer → Speaks messages w0 w1 answer
spoke messages old out w0 w1 answer none adds wrote = by answer wrote
  where
    text_is : out ≡ adds.text
    text_is = adds.whole ∙ ap (λ (x : List ℕ). x ++ adds.text) none

    frames : AreFrames messages out
    frames = subst (λ (x : List ℕ). AreFrames messages x) (sym text_is) adds.frames

    by : (answer : Result (Unit {0}) ToolErr) → Writes out w0 w1 answer → Speaks messages w0 w1 answer
    by (Ok u) w = (out, frames, w)
    by (Err Write) w = (out, w.0, frames, w.1, w.2)
    by (Err Memory) w = absurd w.2
    by (Err Read) w = absurd w.2
    by (Err Bound) w = absurd w.2
    by (Err (Script line)) w = absurd w.2
    by (Err Hex) w = absurd w.2
    by (Err Broken) w = absurd w.2
    by (Err Early) w = absurd w.2
    by (Err (Peer status)) w = absurd w.2
    by (Err Strange) w = absurd w.2
    by (Err (Listing line reason)) w = absurd w.2
