-- Where writing the answer to one text stopped.
use Rattle.std.proofs.Common.{ℕ, List, Err}
use Rattle.llrp_listing.specs.declared.outcome.ToolErr.{ToolErr}
use Rattle.llrp_listing.specs.declared.outcome.ToolErr.TheVariants.{Listing, Script, Hex, Read, Write, Bound, Memory, Broken, Peer, Strange, Early}
use Rattle.llrp_listing.specs.declared.outcome.Verdict.{Verdict}
use Rattle.llrp_listing.specs.Calls.Copying.{Writes}
use Rattle.llrp_stream.specs.Device.{SinkLog}
use Rattle.llrp_keys.specs.TextLines.{Prints}

-- where writing the lines failed, a front of them was written
pub front_printed : (are : Verdict → List ℕ → Type 0) (verdict : Verdict) (lines : List ℕ) (w0 w1 : SinkLog) (e : ToolErr) → are verdict lines → Writes lines w0 w1 (Err e) → Prints are w0 w1 (Err e)
front_printed are verdict lines w0 w1 Write is stopped = (verdict, lines, stopped.0, is, stopped.1, stopped.2)
front_printed are verdict lines w0 w1 Memory is stopped = absurd stopped.2
front_printed are verdict lines w0 w1 Read is stopped = absurd stopped.2
front_printed are verdict lines w0 w1 Bound is stopped = absurd stopped.2
front_printed are verdict lines w0 w1 Hex is stopped = absurd stopped.2
front_printed are verdict lines w0 w1 (Listing at reason) is stopped = absurd stopped.2
front_printed are verdict lines w0 w1 (Script at) is stopped = absurd stopped.2
front_printed are verdict lines w0 w1 Broken is stopped = absurd stopped.2
front_printed are verdict lines w0 w1 Early is stopped = absurd stopped.2
front_printed are verdict lines w0 w1 (Peer status) is stopped = absurd stopped.2
front_printed are verdict lines w0 w1 Strange is stopped = absurd stopped.2
