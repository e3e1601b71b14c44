use Rattle.std.proofs.Common.{◌≡◌, ◌⊎◌, inl, inr, ℕ, List, refl, subst}
use Rattle.std.proofs.lemmas.Result.{err_from_is_err_and}
use Rattle.llrp_listing.specs.declared.outcome.ToolErr.TheVariants.{Hex, Memory}
use Rattle.llrp_listing.specs.Calls.Hexadecimal.{IsNoHex}
use Rattle.llrp_commands.proofs.command.show_digits.Goals as goal

pub returns-in_err-stream : goal.returns-in_err-stream
returns-in_err-stream g c =
    let e = c.in_err-stream.field-0.0 in
    let p = err_from_is_err_and c.from_residual-in_err-stream.result c.from_residual-in_err-stream.ensures.1 in
    let refused : (e ≡ Memory) ⊎ ((e ≡ Hex) × IsNoHex c.in_ok-text.text.items) = subst (λ (text : List ℕ). (e ≡ Memory) ⊎ ((e ≡ Hex) × IsNoHex text)) c.as_slice.ensures.value c.in_err-stream.ensures.refused in
    rw (p.1, p.2) (c.in_ok-text.text.items, inr (inl (c.in_ok-text.ensures.ok, refl, refused)))
