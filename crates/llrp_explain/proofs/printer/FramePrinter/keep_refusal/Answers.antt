use Rattle.std.proofs.Common.{ℕ, List, ◌∷◌, ◌++◌, ap, ◌∙◌}
use Rattle.llrp_explain.specs.Calls.FaultSentences.{refusal_text}
use Rattle.llrp_explain.proofs.PrinterLemmas.{kept_part, on_both}
use Rattle.llrp_explain.proofs.printer.FramePrinter.keep_refusal.Goals as goal

pub returns-clause-kept : goal.returns-clause-kept
returns-clause-kept c = on_both c.push_refusal.result _ _ _ c.push_refusal.ensures.utf8 c.push_refusal.ensures.other
    (λ u o b outer told is. kept_part c.args.self.now c.args.stopped b outer c.args.octets.now c.args.fault c.push_refusal.new.text.items told is
    (λ e t ts rest f. u e t ts rest f ∙ ap (λ (x : List ℕ). x ++ refusal_text (t ∷ ts) c.args.fault.bit c.args.fault.reason rest) c.clear.ensures.items)
    (λ e t ts rest n d m. o e t ts rest n d m ∙ ap (λ (x : List ℕ). x ++ refusal_text (t ∷ ts) c.args.fault.bit c.args.fault.reason rest) c.clear.ensures.items))
