-- Why a machine refuses an event, a command or a message. Memory is not among them: it is the code's alone.

pub data Refusal : Type 0 where
  Closed : Refusal  -- the connection is closed
  NotConnected : Refusal  -- a reader has no client yet
  AlreadyUp : Refusal  -- a reader has its client already
  NotReady : Refusal  -- a client is not accepted yet
  Busy : Refusal  -- a client has a request pending
  OverLimit : Refusal  -- a message would be longer than the limit
  IdsSpent : Refusal  -- a client's message ids are used up
  Unexpected : Refusal  -- a client takes no such message now
