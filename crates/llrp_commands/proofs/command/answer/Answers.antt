use Rattle.std.proofs.Common.{rules}
use Rattle.llrp_commands.proofs.command.answer.Goals as goal

pub returns-in_err-write_error-in-Err : goal.returns-in_err-write_error-in-Err
returns-in_err-write_error-in-Err c = search rules

pub returns-in_ok-write_error-in-Err : goal.returns-in_ok-write_error-in-Err
returns-in_ok-write_error-in-Err c = search rules
