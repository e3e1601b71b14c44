use Rattle.std.proofs.Common.{◌≡◌, ℕ, List, ◌++◌, ap, subst, ◌∙◌, codes, decimal}
use Rattle.llrp_commands.specs.Calls.Command.{error_line}
use Rattle.llrp_listing.specs.Calls.Copying.{Writes}
use Rattle.llrp_commands.proofs.command.write_error.Goals as goal

pub returns-in-Listing : goal.returns-in-Listing
unfolding error_line
returns-in-Listing g c = rw c.in-Listing.is c.write_refusal.ensures

pub returns-in-Script : goal.returns-in-Script
unfolding error_line
returns-in-Script g c =
    let number : c.as_bytes-number.result.now ≡ decimal c.in-Script.line = c.as_bytes-number.ensures.value ∙ c.format.ensures.text in
    rw c.in-Script.is
    (subst (λ (text : List ℕ). Writes text (g.E.Sink.log c.args.e.now) (g.E.Sink.log c.write_parts.new.w) c.write_parts.result)
    (ap (λ (n : List ℕ). codes "llrp: script line " ++ (n ++ codes "\n")) number) c.write_parts.ensures)

pub returns-in-Hex : goal.returns-in-Hex
unfolding error_line
returns-in-Hex g c = rw c.in-Hex.is c.write_all.ensures

pub returns-in-Read : goal.returns-in-Read
unfolding error_line
returns-in-Read g c = rw c.in-Read.is c.write_all-in-Read.ensures

pub returns-in-Write : goal.returns-in-Write
unfolding error_line
returns-in-Write g c = rw c.in-Write.is c.write_all-in-Write.ensures

pub returns-in-Bound : goal.returns-in-Bound
unfolding error_line
returns-in-Bound g c = rw c.in-Bound.is c.write_all-in-Bound.ensures

pub returns-in-Memory : goal.returns-in-Memory
unfolding error_line
returns-in-Memory g c = rw c.in-Memory.is c.write_all-in-Memory.ensures

pub returns-in-Broken : goal.returns-in-Broken
unfolding error_line
returns-in-Broken g c = rw c.in-Broken.is c.write_all-in-Broken.ensures

pub returns-in-Peer : goal.returns-in-Peer
unfolding error_line
returns-in-Peer g c =
    let number : c.as_bytes-number-in-Peer.result.now ≡ decimal c.in-Peer.status = c.as_bytes-number-in-Peer.ensures.value ∙ c.format-in-Peer.ensures.text in
    rw c.in-Peer.is
    (subst (λ (text : List ℕ). Writes text (g.E.Sink.log c.args.e.now) (g.E.Sink.log c.write_parts-in-Peer.new.w) c.write_parts-in-Peer.result)
    (ap (λ (n : List ℕ). codes "llrp: status " ++ (n ++ codes "\n")) number) c.write_parts-in-Peer.ensures)

pub returns-in-Strange : goal.returns-in-Strange
unfolding error_line
returns-in-Strange g c = rw c.in-Strange.is c.write_all-in-Strange.ensures

pub returns-in-Early : goal.returns-in-Early
unfolding error_line
returns-in-Early g c = rw c.in-Early.is c.write_all-in-Early.ensures
