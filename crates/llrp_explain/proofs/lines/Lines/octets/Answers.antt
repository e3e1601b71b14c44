use Rattle.std.proofs.Common.{ℕ, List, ◌++◌, ◌∙◌, ap, arith, refl}
use Rattle.llrp_explain.specs.Calls.ExplainLines.{octets_line}
use Rattle.llrp_explain.proofs.PrintedLemmas.{adds_empty, adds_line, octets_read}
use Rattle.llrp_explain.proofs.lines.Lines.octets.Goals as goal

pub returns-then-count-eq0 : goal.returns-then-count-eq0
returns-then-count-eq0 c = adds_empty (octets_line c.args.level c.args.name.now c.args.octets.now) c.args.self.now (omega (arith, c.if-count-eq0.true))

pub returns : goal.returns
returns c =
    adds_line (octets_line c.args.level c.args.name.now c.args.octets.now) c.args.self.now (record { text = c.push_octets_line.new.text; bit = c.bit_after-self.result; kind = c.args.self.now.kind }) (omega (arith, c.if-count-eq0.false))
    (c.in_ok-push_octets_line.ensures ∙ ap (λ (t : List ℕ). c.args.self.now.text.items ++ t) (octets_read c.args.self.now.kind c.args.self.now.bit c.args.level c.args.name.now c.args.octets.now)) c.bit_after-self.ensures refl
