use Rattle.tag_bits.specs.Digits.{word_digits}
use Rattle.tag_epc.proofs.OneReading.{has_word, one_word, one_epc}
use Rattle.tag_epc.proofs.laws.one_word_one_epc.Goals as goal

pub returns-clause-word : goal.returns-clause-word
returns-clause-word c epc a = has_word epc a

pub returns-clause-one_word : goal.returns-clause-one_word
returns-clause-one_word c epc v w p q a b = one_word epc v w p q a b

pub returns-clause-one_epc : goal.returns-clause-one_epc
returns-clause-one_epc c d e w a b = one_epc d e (word_digits w) a b
