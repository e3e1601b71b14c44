use Rattle.std.proofs.Common.{◌-◌, arith}
use Rattle.std.proofs.Math.Nat.{one-le-pow}
use Rattle.tag_schemes.proofs.WriteFacts.{pad_none, pad_more, pad_length}
use Rattle.tag_schemes.proofs.write_text.+push_padded.Goals as goal

pub returns-then-count-eq0 : goal.returns-then-count-eq0
returns-then-count-eq0 n c = record { digits = pad_none c.args.text.now.bytes c.args.count c.args.number c.if-count-eq0.true; len = omega (arith, c.if-count-eq0.true) }

pub nonzero_div-digit : goal.nonzero_div-digit
nonzero_div-digit n c = rw c.power.ensures (one-le-pow (c.args.count - 1) 10 (omega arith))

pub returns : goal.returns
returns n c =
    let digits = pad_more c.args.text.now.bytes _ _ c.args.count (c.args.count - 1) c.args.number c.power.result c.from.result (omega arith) c.power.ensures c.from.ensures (c.push.ensures.ascii (omega arith)) c.push_padded.ensures.digits in
    record { digits = digits; len = pad_length _ _ c.args.count c.args.number digits }
