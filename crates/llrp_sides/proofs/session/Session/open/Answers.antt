use Rattle.std.proofs.Common.{◌<◌, ◌≤◌, arith, length, refl}
use Rattle.llrp_sides.proofs.SessionLemmas.{opens_added, opens_old}
use Rattle.llrp_sides.proofs.session.Session.open.Goals as goal

pub returns-then-place-len : goal.returns-then-place-len
returns-then-place-len c =
    let within : c.in-Ok.place < length c.args.self.now.pairs.items = grind (arith, c.len.ensures, c.if-place-len.true) in
    opens_old c.args.stream c.in-Ok.place c.args.self.now _ c.requires c.in-Ok.ensures.ok within refl refl

pub returns : goal.returns
returns c =
    let beyond : length c.args.self.now.pairs.items ≤ c.in-Ok.place = grind (arith, c.len.ensures, c.if-place-len.false) in
    opens_added c.args.stream c.in-Ok.place c.args.self.now c.add_pair.new.self c.open.new.self c.requires c.in-Ok.ensures.ok beyond c.in_ok-add_pair.ensures
