use Rattle.std.proofs.Common.{ℕ, ◌≤◌, ◌++◌, List, [], length, subst, sym, ap, ◌∙◌}
use Rattle.std.proofs.lemmas.Result.{on_ok_weaker}
use Rattle.tag_bits.specs.Digits.{digits_of_bytes}
use Rattle.llrp_explain.specs.Calls.Explained.{fault_text}
use Rattle.llrp_explain.proofs.FrameTexts.{header_long, header_refused_text, body_refused_text}
use Rattle.llrp_explain.proofs.PrintedLemmas.{on_written}
use Rattle.llrp_explain.proofs.fault_texts.push_fault.Goals as goal

pub push_faulty_header-requires : goal.push_faulty_header-requires
push_faulty_header-requires c =
    let w = c.requires.refused in
    subst (λ (x : List ℕ). 10 ≤ length x) (sym c.as_slice.ensures.value) (header_long c.args.set c.args.limit w.0 c.args.fault c.args.printer.now w.1 w.2 c.if-printer.true c.requires.kept)

pub returns-then-printer : goal.returns-then-printer
returns-then-printer c = on_ok_weaker c.push_faulty_header.result
    (λ t frame r whole. header_refused_text c.args.set c.args.limit frame c.args.fault c.args.printer.now c.args.text.now.items c.push_faulty_header.new.text.items r whole c.if-printer.true c.requires.kept
    (λ later. t later ∙ ap (λ (x : List ℕ). c.args.text.now.items ++ fault_text c.args.set c.args.limit [] c.args.fault.bit c.args.fault.reason (digits_of_bytes x ++ later)) c.as_slice.ensures.value))
    c.push_faulty_header.ensures

pub returns : goal.returns
returns c = on_written c.extend_from_slice-2.result _ _ _ _ c.extend_from_slice-2.ensures.items
    (λ e frame r whole. body_refused_text c.args.set c.args.limit frame c.args.fault c.args.printer.now c.args.text.now.items c.extend_from_slice.new.self.items c.extend_from_slice-2.new.self.items c.requires.most r whole c.if-printer.false c.requires.kept
    (c.in_ok-extend_from_slice.ensures.items ∙ ap (λ (x : List ℕ). c.args.text.now.items ++ x) c.as_slice-2.ensures.value)
    (e ∙ ap (λ (x : List ℕ). c.extend_from_slice.new.self.items ++ x) c.as_slice-3.ensures.value))
