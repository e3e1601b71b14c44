use Rattle.std.proofs.Common.{subst}
use Rattle.llrp_explain.specs.Private.Printing.{IsGiven}
use Rattle.llrp_explain.proofs.FrameTexts.{whole_outcome}
use Rattle.llrp_explain.proofs.fault_texts.push_outcome.Goals as goal

pub push_fault-requires-clause-refused : goal.push_fault-requires-clause-refused
push_fault-requires-clause-refused c =
    let w = c.requires.some in
    let g = subst (IsGiven c.args.printer.now c.args.set c.args.limit w.0) c.in-Bad.is w.1 in
    (w.0, g.1, w.2.whole)

pub returns-in_ok-extend_from_slice-in-Whole : goal.returns-in_ok-extend_from_slice-in-Whole
returns-in_ok-extend_from_slice-in-Whole c = λ frame g is.
    whole_outcome c.args.set c.args.limit frame c.args.text.now.items c.extend_from_slice.new.self.items c.as_slice.result.now c.args.printer.now c.requires.most (subst (IsGiven c.args.printer.now c.args.set c.args.limit frame) c.in-Whole.is g) c.as_slice.ensures.value c.in_ok-extend_from_slice-in-Whole.ensures.items

pub returns-in_ok-push_fault-in-Bad : goal.returns-in_ok-push_fault-in-Bad
returns-in_ok-push_fault-in-Bad c = λ frame g is.
    let h = subst (IsGiven c.args.printer.now c.args.set c.args.limit frame) c.in-Bad.is g in
    (c.in-Bad.fault.bit, c.in-Bad.fault.reason, h.0, c.in_ok-push_fault-in-Bad.ensures frame h.1 is.whole)
