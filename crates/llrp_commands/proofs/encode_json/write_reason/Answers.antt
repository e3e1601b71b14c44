use Rattle.std.proofs.Common.{◌≡◌, ℕ, List, ◌++◌, ap, ap₂, sym, subst, ◌∙◌, append_assoc, codes}
use Rattle.llrp_listing.specs.Calls.Copying.{Writes}
use Rattle.llrp_json_read.specs.Path.{reason_name}
use Rattle.llrp_commands.proofs.encode_json.write_reason.Goals as goal

pub returns : goal.returns
returns g c =
    let name : c.as_bytes.result.now ≡ c.names.result.0.now = c.as_bytes.ensures.value in
    let inner : c.as_bytes-2.result.now ≡ c.names.result.1.now = c.as_bytes-2.ensures.value in
    let words : c.as_bytes.result.now ++ (c.as_bytes-2.result.now ++ codes "\n") ≡ reason_name c.args.reason ++ codes "\n" =
    ap₂ (λ (n i : List ℕ). n ++ (i ++ codes "\n")) name inner ∙ sym (append_assoc c.names.result.0.now c.names.result.1.now (codes "\n")) ∙ ap (λ (w : List ℕ). w ++ codes "\n") c.names.ensures in
    subst (λ (text : List ℕ). Writes text (g.E.Sink.log c.args.e.now) (g.E.Sink.log c.write_parts.new.w) c.write_parts.result) words c.write_parts.ensures
