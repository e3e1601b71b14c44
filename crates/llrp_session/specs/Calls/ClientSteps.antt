-- What a client that runs answers, as the machine has it.
use Rattle.std.specs.Prelude.{◌≡◌, List, [], Result, Ok, Err, IsOk}
use Rattle.llrp_session.specs.declared.client.refusal.CmdFault.{CmdFault}
use Rattle.llrp_session.specs.declared.client.refusal.CmdFault.TheVariants as cmd
use Rattle.llrp_session.specs.declared.client.refusal.TakeFault.{TakeFault}
use Rattle.llrp_session.specs.declared.client.refusal.TakeFault.TheVariants as take
use Rattle.llrp_session.specs.Refusal.{Refusal, Closed, NotReady, Busy, OverLimit, IdsSpent, Unexpected}
use Rattle.llrp_session.specs.Contents.{ClientMessage}
use Rattle.llrp_session.specs.ClientMachine.{Sending, Taking}

-- why a command is refused: as the machine refuses it; memory can run out only where the machine sends it
abbrev pub IsCmdFault : Result Sending Refusal → CmdFault → Type 0
IsCmdFault step cmd.Closed = step ≡ Err Closed
IsCmdFault step cmd.NotReady = step ≡ Err NotReady
IsCmdFault step cmd.Busy = step ≡ Err Busy
IsCmdFault step cmd.OverLimit = step ≡ Err OverLimit
IsCmdFault step cmd.IdsSpent = step ≡ Err IdsSpent
IsCmdFault step cmd.Memory = IsOk step

-- why a message is refused: as the machine refuses it; memory can run out only where the machine takes it
abbrev pub IsTakeFault : Result Taking Refusal → TakeFault → Type 0
IsTakeFault step take.Closed = step ≡ Err Closed
IsTakeFault step take.Unexpected = step ≡ Err Unexpected
IsTakeFault step take.Memory = IsOk step

-- what a step sends: nothing where it is refused
abbrev pub sent_by : Result Taking Refusal → List ClientMessage
sent_by (Ok taking) = taking.sent
sent_by (Err refusal) = []
