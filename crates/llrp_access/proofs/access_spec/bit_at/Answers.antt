use Rattle.std.proofs.Common.{◌≡◌, ◌<◌, ◌/◌}
use Rattle.llrp_access.proofs.BitLemmas.{bit_at_is, no_bit}
use Rattle.llrp_access.proofs.access_spec.bit_at.Goals as goal

pub returns-in-Some : goal.returns-in-Some
returns-in-Some c =
    let small : c.in-Some.word.now < 65536 = rw (c.in-Some.ensures.lookup.3.1 0) (c.type_inv.words (c.args.place / 16)).fits in
    bit_at_is c.args.words.now c.args.place c.in-Some.word.now c.get-in-Some.result c.in-Some.ensures.lookup.3.0 (c.in-Some.ensures.lookup.3.1 0) small c.get-in-Some.ensures.below c.get-in-Some.ensures.digits

pub returns-in-None : goal.returns-in-None
returns-in-None c = no_bit c.args.words.now c.args.place c.in-None.ensures.lookup.3
