use Rattle.std.proofs.Common.{◌++◌, ◌∙◌}
use Rattle.std.proofs.lemmas.Result.{on_ok_weaker}
use Rattle.llrp_explain.proofs.FrameTexts.{type_sentence, length_sentence}
use Rattle.llrp_explain.proofs.PrintedLemmas.{on_written}
use Rattle.tag_bits.specs.Digits.{digits_of_bytes}
use Rattle.llrp_explain.proofs.fault_texts.push_header_sentence.Goals as goal

pub returns-in_ok-extend_from_slice-in-MessageType-2 : goal.returns-in_ok-extend_from_slice-in-MessageType-2
returns-in_ok-extend_from_slice-in-MessageType-2 c = on_written c.extend_from_slice-in-MessageType-3.result _ _ _ _ c.extend_from_slice-in-MessageType-3.ensures.items
    (λ e later. type_sentence c.args.set c.args.limit c.from_bit-in-MessageType.result c.args.reason (digits_of_bytes c.args.header.now ++ later) c.args.text.now.items c.extend_from_slice-in-MessageType.new.self.items c.push_digits-in-MessageType.new.text.items c.extend_from_slice-in-MessageType-2.new.self.items c.extend_from_slice-in-MessageType-3.new.self.items c.as_bytes.result.now
    c.in-MessageType.is (c.from_bit-in-MessageType.ensures.value later) (c.as_bytes.ensures.value ∙ c.set_words.ensures) c.in_ok-extend_from_slice-in-MessageType.ensures.items c.in_ok-push_digits-in-MessageType.ensures c.in_ok-extend_from_slice-in-MessageType-2.ensures.items e)

pub returns-in_ok-extend_from_slice-in-MessageLength-2 : goal.returns-in_ok-extend_from_slice-in-MessageLength-2
returns-in_ok-extend_from_slice-in-MessageLength-2 c = on_ok_weaker c.push_digits-in-MessageLength-2.result
    (λ e later. length_sentence c.args.set c.args.limit c.from_bit-in-MessageLength.result c.args.reason (digits_of_bytes c.args.header.now ++ later) c.args.text.now.items c.extend_from_slice-in-MessageLength.new.self.items c.push_digits-in-MessageLength.new.text.items c.extend_from_slice-in-MessageLength-2.new.self.items c.push_digits-in-MessageLength-2.new.text.items
    c.in-MessageLength.is (c.from_bit-in-MessageLength.ensures.value later) c.in_ok-extend_from_slice-in-MessageLength.ensures.items c.in_ok-push_digits-in-MessageLength.ensures c.in_ok-extend_from_slice-in-MessageLength-2.ensures.items e)
    c.push_digits-in-MessageLength-2.ensures
