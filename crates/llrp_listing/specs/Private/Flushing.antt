-- The octets of closed messages are handed on.
use Rattle.std.specs.Prelude.{ℕ, List}
use Rattle.llrp_stream.specs.Device.{SinkLog}
use Rattle.llrp_listing.specs.Private.Copying.{HandsOn}
use Rattle.llrp_listing.specs.declared.encode.buffer.EncodeBuffer.{EncodeBuffer}
use Rattle.llrp_listing.specs.Private.OpenNodes.{OpenNode}
use Rattle.llrp_listing.specs.Private.TakingLines.{Rests}

-- The octets of closed messages were handed on, or stay, and the same lines are open.
pub record PassesOn (new : EncodeBuffer) (out : List ℕ) (ns : List OpenNode) (w0 w1 : SinkLog) : Type 0 where
  pub left : List ℕ
  pub hands : HandsOn out left w0 w1
  pub rests : Rests new left ns
