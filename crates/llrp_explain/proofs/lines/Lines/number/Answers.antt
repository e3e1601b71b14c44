use Rattle.std.proofs.Common.{arith, refl}
use Rattle.llrp_explain.specs.Calls.ExplainLines.{line}
use Rattle.llrp_explain.proofs.PrintedLemmas.{adds_empty, adds_line}
use Rattle.llrp_explain.proofs.lines.Lines.number.Goals as goal

pub returns-then-width-eq0 : goal.returns-then-width-eq0
returns-then-width-eq0 c = adds_empty (line c.args.level c.args.name.now c.args.width c.args.value) c.args.self.now (omega (arith, c.if-width-eq0.true))

pub returns : goal.returns
returns c =
    adds_line (line c.args.level c.args.name.now c.args.width c.args.value) c.args.self.now (record { text = c.push_read_line.new.text; bit = c.bit_after-self.result; kind = c.args.self.now.kind }) (omega (arith, c.if-width-eq0.false)) c.in_ok-push_read_line.ensures c.bit_after-self.ensures refl
