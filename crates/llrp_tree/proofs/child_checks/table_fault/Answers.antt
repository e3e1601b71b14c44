use Rattle.std.proofs.Common.{rules}
use Rattle.llrp_tree.proofs.child_checks.table_fault.Goals as goal

pub returns : goal.returns
unfolding Rattle.llrp_tree.specs.Checks.table_tests
returns c = search rules

pub returns-then-not-none_too_many : goal.returns-then-not-none_too_many
unfolding Rattle.llrp_tree.specs.Checks.table_tests
returns-then-not-none_too_many c = search rules
