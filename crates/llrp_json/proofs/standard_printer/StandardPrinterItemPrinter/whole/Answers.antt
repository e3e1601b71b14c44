use Rattle.std.proofs.Common.{inl, inr}
use Rattle.llrp_json.specs.Private.StandardNames.{standard_chain}
use Rattle.llrp_json.proofs.standard_printer.StandardPrinterItemPrinter.whole.Goals as goal

pub returns : goal.returns
returns c = λ was has. c.whole.ensures was (standard_chain has.0, elim has.1 [ inl a ↦ inl a.0 | inr h ↦ inr h ])
