use Rattle.std.proofs.Common.{arith}
use Rattle.llrp_tree.proofs.TestLemmas.{by_table, by_depth, by_length, no_fault}
use Rattle.llrp_tree.proofs.child_checks.first_fault.Goals as goal

pub returns-in-Some : goal.returns-in-Some
returns-in-Some c = by_table c.args.kind c.args.values.now c.args.tail.now c.args.nodes.now c.in-Some.fault c.in-Some.ensures

pub returns-then-levels-ge-MAX_DEPTH : goal.returns-then-levels-ge-MAX_DEPTH
returns-then-levels-ge-MAX_DEPTH c = by_depth c.args.kind c.args.values.now c.args.tail.now c.args.nodes.now c.in_default.ensures (omega (arith, c.requires.few))

pub returns-then-octets : goal.returns-then-octets
returns-then-octets c = by_length c.args.kind c.args.values.now c.args.tail.now c.args.nodes.now c.in_default.ensures (omega (arith, c.requires.few)) (omega (arith, c.requires.long))

pub returns : goal.returns
returns c = no_fault c.args.kind c.args.values.now c.args.tail.now c.args.nodes.now c.in_default.ensures (omega (arith, c.requires.few)) (omega (arith, c.requires.long))
