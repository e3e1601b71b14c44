use Rattle.llrp_explain.proofs.WalkLemmas.{octets_added, bits_added, words_added, text_added}
use Rattle.llrp_explain.proofs.walk.push_tail.Goals as goal

pub returns-in-Absent : goal.returns-in-Absent
returns-in-Absent c = octets_added c.octets.result c.args.level c.args.form c.args.tail.now c.args.lines.now c.octets.new.self c.in-Absent.is c.octets.ensures

pub returns-in_ok-number-in-Words : goal.returns-in_ok-number-in-Words
returns-in_ok-number-in-Words c = words_added c.octets-in-Words.result c.args.level c.args.form c.args.tail.now c.args.lines.now c.number.new.self c.octets-in-Words.new.self c.in-Words.is c.in_ok-number-in-Words.ensures c.octets-in-Words.ensures

pub returns-in_ok-number-in-Text : goal.returns-in_ok-number-in-Text
returns-in_ok-number-in-Text c = text_added c.octets-in-Text.result c.args.level c.args.form c.args.tail.now c.args.lines.now c.number-in-Text.new.self c.octets-in-Text.new.self c.in-Text.is c.in_ok-number-in-Text.ensures c.octets-in-Text.ensures

pub returns-in-Bits : goal.returns-in-Bits
returns-in-Bits c = bits_added c.octets-in-Bits.result c.args.level c.args.form c.args.tail.now c.args.lines.now c.octets-in-Bits.new.self c.in-Bits.is c.octets-in-Bits.ensures
