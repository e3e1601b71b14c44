use Rattle.std.proofs.Common.{arith, refl, Some}
use Rattle.llrp_explain.specs.Calls.ExplainLines.{kind_line}
use Rattle.llrp_explain.proofs.PrintedLemmas.{adds_line}
use Rattle.llrp_explain.proofs.lines.Lines.kind_number.Goals as goal

pub returns : goal.returns
returns c =
    adds_line (kind_line c.args.level c.args.name.now c.args.width c.args.kind) c.args.self.now (record { text = c.push_kind_line.new.text; bit = c.bit_after-self.result; kind = Some c.args.kind }) (omega (arith, c.requires)) (c.in_ok-push_kind_line.ensures c.args.self.now.kind) c.bit_after-self.ensures refl
