use Rattle.llrp_tree.proofs.ReadingLemmas.{data_spans}
use Rattle.llrp_tree.proofs.decode.tail.tail_at.Goals as goal

pub returns-in-Words : goal.returns-in-Words
returns-in-Words c = rw c.in-Words.is (c.words_at.ensures c.args.fields.now)

pub returns-in-Text : goal.returns-in-Text
returns-in-Text c = rw c.in-Text.is (c.text_at.ensures c.args.fields.now)

pub returns-in-Bits : goal.returns-in-Bits
returns-in-Bits c = rw c.in-Bits.is (c.bits_at.ensures _)

pub returns-in-Data : goal.returns-in-Data
returns-in-Data c = rw c.in-Data.is (data_spans _ c.args.at c.args.stop _ c.requires.before)
