use Rattle.std.proofs.Common.{◌≡◌, ◌<◌, arith, length}
use Rattle.std.proofs.lemmas.Result.{IfOk-weaker}
use Rattle.llrp_sides.specs.Private.LineSteps.{EndsText}
use Rattle.llrp_sides.specs.Private.Sessions.{EndsOpen}
use Rattle.llrp_sides.proofs.LineLemmas.{ends_last, ends_whole}
use Rattle.llrp_sides.proofs.line_reader.Lines.end.Goals as goal

pub returns-then-is_empty : goal.returns-then-is_empty
returns-then-is_empty c =
    let none : length c.args.self.now.line.items ≡ 0 = grind (arith, c.is_empty.ensures, c.if-is_empty.true) in
    IfOk-weaker c.end.result (EndsOpen c.args.self.now.session c.args.text.now c.end.new.text) (EndsText c.args.self.now c.args.text.now c.end.new.text)
    (λ verdict e. λ form port bytes done s. ends_whole form port bytes done c.args.self.now c.args.text.now c.end.new.text verdict s none e) c.end.ensures

pub returns : goal.returns
returns c =
    let some : 0 < length c.args.self.now.line.items = grind (arith, c.is_empty.ensures, c.if-is_empty.false) in
    IfOk-weaker c.end-2.result (EndsOpen c.end_line.new.self.session c.end_line.new.text c.end-2.new.text) (EndsText c.args.self.now c.args.text.now c.end-2.new.text)
    (λ verdict e. λ form port bytes done s. ends_last form port bytes done c.args.self.now c.end_line.new.self c.args.text.now c.end_line.new.text c.end-2.new.text verdict s some c.in_ok-end_line.ensures e) c.end-2.ensures
