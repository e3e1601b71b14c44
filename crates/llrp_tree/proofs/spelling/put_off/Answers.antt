use Rattle.std.proofs.Common.{◌∙◌, length, arith, sym}
use Rattle.std.proofs.lemmas.Bool.{eqb-true}
use Rattle.llrp_tree.specs.Private.HeadOctets.{following}
use Rattle.llrp_tree.proofs.SpelledLemmas.{empty_row, following-push, AreDeep-push, room_for, some_row}
use Rattle.llrp_tree.proofs.spelling.put_off.Goals as goal

pub returns-then-is_empty-clause-octets : goal.returns-then-is_empty-clause-octets
returns-then-is_empty-clause-octets c =
    empty_row c.args.row.now (following c.args.rows.now.items) (eqb-true (length c.args.row.now) 0 (sym c.is_empty.ensures ∙ c.if-is_empty.true))

pub push-requires : goal.push-requires
push-requires c =
    (omega arith, room_for (length c.args.rows.now.items) c.args.row.now (some_row c.args.row.now (sym c.is_empty.ensures ∙ c.if-is_empty.false)) c.requires.level)

pub returns-clause-deep : goal.returns-clause-deep
returns-clause-deep c =
    rw c.push.ensures.items
    (AreDeep-push 0 c.args.rows.now.items c.args.row c.requires.deep (some_row c.args.row.now (sym c.is_empty.ensures ∙ c.if-is_empty.false)) (omega (arith, c.requires.level)))

pub returns-clause-octets : goal.returns-clause-octets
returns-clause-octets c = rw c.push.ensures.items (following-push c.args.rows.now.items c.args.row)
