use Rattle.std.proofs.Common.{List, ℕ, [], ◌∷◌, ◌++◌, refl}
use Rattle.llrp_json.specs.JsonLines.{fault_json}
use Rattle.llrp_json.proofs.HeldItems.{more_held}
use Rattle.llrp_json.proofs.printer.JsonPrinterItemPrinter.push_fault.Goals as goal

pub returns : goal.returns
returns c = λ was h.
    let line : List ℕ = fault_json c.args.id c.args.fault ++ 10 ∷ [] in
    (line, refl, more_held c.args.self.now.mark _ c.args.self.now.depth c.args.self.now.is_parent c.args.self.now.text _ was line h c.in_ok-push_fault.ensures c.len-self.ensures)
