use Rattle.std.proofs.Common.{arith}
use Rattle.llrp_tree.proofs.TestLemmas.{by_message_table, by_message_length, no_message_fault}
use Rattle.llrp_tree.proofs.child_checks.first_message_fault.Goals as goal

pub returns-in-Some : goal.returns-in-Some
returns-in-Some c = by_message_table c.args.version c.args.kind c.args.values.now c.args.tail.now c.args.nodes.now c.is_known_version-known.result c.is_known_version-known.ensures c.in-Some.fault c.in-Some.ensures

pub returns-then-octets : goal.returns-then-octets
returns-then-octets c = by_message_length c.args.version c.args.kind c.args.values.now c.args.tail.now c.args.nodes.now c.is_known_version-known.result c.is_known_version-known.ensures c.in_default.ensures (omega (arith, c.requires))

pub returns : goal.returns
returns c = no_message_fault c.args.version c.args.kind c.args.values.now c.args.tail.now c.args.nodes.now c.is_known_version-known.result c.is_known_version-known.ensures c.in_default.ensures (omega (arith, c.requires))
