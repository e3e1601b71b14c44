-- How far a frame is read.
use Rattle.llrp_stream.specs.declared.engine.body.Body.{Body}

-- What the engine keeps of the nodes that it is in. A caller only hands it on, from one call of a decoder to the next.
pub record Progress : Type 0 where
  pub body : Body
