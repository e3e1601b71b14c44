use Rattle.std.proofs.Common.{◌-◌, ◌/◌, drop}
use Rattle.llrp_tree.proofs.SpelledLemmas.{last_octets, last_behind, one_after_other}
use Rattle.llrp_tree.proofs.heads.as_more_octets.Goals as goal

pub returns-clause-spelled : goal.returns-clause-spelled
returns-clause-spelled c =
    let first = c.to_be_bytes-2.result in
    let octets = c.behind_eight-octets.result in
    one_after_other _ (drop (16 - c.args.head.bits / 8) first) (drop (24 - c.args.rest.bits / 8) octets) _ _ c.put_last.ensures
    (last_octets first c.args.head.bits c.args.head.number c.requires.few c.requires.whole c.requires.below c.to_be_bytes-2.ensures)
    (last_behind octets c.to_be_bytes.result c.args.rest.bits c.args.rest.number c.requires.rest_few c.requires.rest_whole c.requires.rest_below c.to_be_bytes.ensures c.behind_eight-octets.ensures)
