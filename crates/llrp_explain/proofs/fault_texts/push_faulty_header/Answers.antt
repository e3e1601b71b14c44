use Rattle.std.proofs.Common.{◌++◌}
use Rattle.tag_bits.specs.Digits.{digits_of_bytes}
use Rattle.llrp_explain.proofs.FrameTexts.{heading_text, header_fault_text}
use Rattle.llrp_explain.proofs.PrintedLemmas.{on_written}
use Rattle.llrp_explain.proofs.fault_texts.push_faulty_header.Goals as goal

pub returns : goal.returns
returns c = on_written c.extend_from_slice.result _ _ _ _ c.extend_from_slice.ensures.items
    (λ e later. header_fault_text c.args.set c.args.limit c.args.fault.bit c.args.fault.reason (digits_of_bytes c.args.header.now ++ later) c.args.text.now.items c.push_header.new.text.items c.push_place.new.text.items c.push_header_sentence.new.text.items c.extend_from_slice.new.self.items
    (heading_text c.header_count-count.result c.args.fault.reason (digits_of_bytes c.args.header.now ++ later) c.args.text.now.items c.push_heading_of.new.text.items c.push_header.new.text.items c.in_ok-push_heading_of.ensures.some c.in_ok-push_heading_of.ensures.none c.header_count-count.ensures.fields (c.in_ok-push_header.ensures later))
    c.in_ok-push_place.ensures (c.in_ok-push_header_sentence.ensures later) e)
