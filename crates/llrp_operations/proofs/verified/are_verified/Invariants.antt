use Rattle.std.proofs.Common.{◌≡◌, ◌+◌, ◌≤◌, drop, filter, length}
use Rattle.llrp_tree.specs.Tree.{trees}
use Rattle.llrp_operations.specs.Calls.Changes.{is_verified, say_words}
use Rattle.llrp_operations.specs.Calls.Results.{is_result}
use Rattle.llrp_operations.proofs.verified.are_verified.Given as goal

-- the results that are left have to give back what the operations that are left wrote
abbrev pub invariant-loop-operation : goal.invariant-loop-operation
invariant-loop-operation l =
    (is_verified l.fn.operations l.fn.tag ≡ say_words (drop l.operation-index l.fn.operations) (drop l.place (filter is_result (trees l.fn.tag.children))))
    × (l.place ≤ length l.fn.operations + l.operation-index)
