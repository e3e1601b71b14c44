use Rattle.std.proofs.Common.{codes}
use Rattle.llrp_operations.specs.Calls.Lines.{operation_text}
use Rattle.llrp_operations.proofs.LineLemmas.{three_parts}
use Rattle.llrp_operations.proofs.lines.push_what.Goals as goal

pub returns : goal.returns
returns c = three_parts (codes ",\"operation\":\"") (operation_text c.args.operation.now) (codes "\"") _ _ _ _ c.in_ok-push_text.ensures c.in_ok-push_operation.ensures c.in_ok-push_text-2.ensures
