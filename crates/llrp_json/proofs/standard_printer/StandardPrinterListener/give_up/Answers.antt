use Rattle.std.proofs.Common.{inl, inr}
use Rattle.llrp_json.specs.Private.StandardNames.{standard_chain}
use Rattle.llrp_json.proofs.standard_printer.StandardPrinterListener.give_up.Goals as goal

pub returns : goal.returns
returns c = λ was t either. c.give_up.ensures was (standard_chain t) (elim either [ inl a ↦ inl a.0 | inr h ↦ inr h ])
