use Rattle.llrp_json.specs.Private.StandardNames.{standard_chain}
use Rattle.llrp_json.proofs.standard_printer.StandardPrinterItemPrinter.drop_whole.Goals as goal

pub returns-clause-begins : goal.returns-clause-begins
returns-clause-begins c = λ was t a. (c.drop_whole.ensures.begins was (standard_chain t) a.0, a.1)

pub returns-clause-stands : goal.returns-clause-stands
returns-clause-stands c = λ was t h. c.drop_whole.ensures.stands was (standard_chain t) h
