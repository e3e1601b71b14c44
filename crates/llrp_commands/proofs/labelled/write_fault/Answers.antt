use Rattle.std.proofs.Common.{◌≡◌, ℕ, List, ◌++◌, ap, ap₂, sym, subst, ◌∙◌, append_assoc, codes, decimal}
use Rattle.llrp_labels.specs.LabelledRuns.{label_fault_name}
use Rattle.llrp_listing.specs.Calls.Copying.{Writes}
use Rattle.llrp_commands.specs.Calls.Labelled.{label_line}
use Rattle.llrp_commands.proofs.labelled.write_fault.Goals as goal

pub returns : goal.returns
unfolding label_line
returns g c =
    let number : c.as_bytes-number.result.now ≡ decimal c.args.line = c.as_bytes-number.ensures.value ∙ c.format.ensures.text in
    let name : c.as_bytes.result.now ≡ c.names.result.0.now = c.as_bytes.ensures.value in
    let inner : c.as_bytes-2.result.now ≡ c.names.result.1.now = c.as_bytes-2.ensures.value in
    let words : c.as_bytes.result.now ++ (c.as_bytes-2.result.now ++ codes "\n") ≡ label_fault_name c.args.fault ++ codes "\n" =
    ap₂ (λ (n i : List ℕ). n ++ (i ++ codes "\n")) name inner ∙ sym (append_assoc c.names.result.0.now c.names.result.1.now (codes "\n")) ∙ ap (λ (w : List ℕ). w ++ codes "\n") c.names.ensures in
    subst (λ (text : List ℕ). Writes text (g.E.Sink.log c.args.e.now) (g.E.Sink.log c.write_parts.new.w) c.write_parts.result)
    (ap₂ (λ (n w : List ℕ). codes "llrp: line " ++ (n ++ (codes ": " ++ w))) number words) c.write_parts.ensures
