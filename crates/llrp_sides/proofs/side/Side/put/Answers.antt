use Rattle.std.proofs.Common.{◌≡◌, ◌<◌, arith, length}
use Rattle.std.proofs.lemmas.Bool.Decides.{nat_tests}
use Rattle.std.proofs.lemmas.Result.{on_ok_weaker}
use Rattle.llrp_sides.proofs.SideLemmas.{puts_none, puts_some}
use Rattle.llrp_sides.proofs.StretchTakes.{no_octets}
use Rattle.llrp_sides.proofs.side.Side.put.Goals as goal

pub returns-then-is_empty-clause-puts : goal.returns-then-is_empty-clause-puts
returns-then-is_empty-clause-puts c =
    let none : length c.args.octets.now ≡ 0 = grind (arith, nat_tests) in
    puts_none c.args.stamp c.args.sequence c.args.octets.now c.args.reassembly.now c.args.self.now c.args.text.now (no_octets c.args.octets.now none)

pub returns-in-Ok-Taken-clause-puts : goal.returns-in-Ok-Taken-clause-puts
returns-in-Ok-Taken-clause-puts c =
    let some : 0 < length c.args.octets.now = grind (arith, nat_tests) in
    on_ok_weaker c.take_octets.result (λ e. puts_some c.args.stamp c.args.sequence c.args.octets.now c.new-handed.result.items c.take.new.handed.items c.as_slice.result.now c.in-Ok-Taken.field-0 c.args.reassembly.now c.take.new.self c.args.self.now c.take_octets.new.self
    c.args.text.now c.take_octets.new.text some c.in-Ok-Taken.field-0-is c.new-handed.ensures.items c.as_slice.ensures.value c.in-Ok-Taken.ensures.takes e) c.take_octets.ensures
