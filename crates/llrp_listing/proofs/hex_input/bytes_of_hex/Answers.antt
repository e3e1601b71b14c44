use Rattle.std.proofs.Common.{rules, ◌≡◌, refl, inl, inr, ◌∙◌}
use Rattle.std.specs.Prelude.{filter, not}
use Rattle.llrp_listing.specs.Calls.Hexadecimal.{is_space}
use Rattle.llrp_listing.proofs.HexadecimalLemmas.{is_hex, is_no_hex}
use Rattle.llrp_listing.proofs.hex_input.bytes_of_hex.Goals as goal

pub returns-in-Ok-clause-bytes : goal.returns-in-Ok-clause-bytes
returns-in-Ok-clause-bytes c =
    let digits : c.as_slice.result.now ≡ filter (λ byte. not (is_space byte)) c.args.text.now = c.as_slice.ensures.value ∙ search rules in
    is_hex c.args.text.now c.as_slice.result.now c.in-Ok.bytes.items digits c.in-Ok.ensures.ok

pub returns : goal.returns
returns c =
    let digits : c.as_slice.result.now ≡ filter (λ byte. not (is_space byte)) c.args.text.now = c.as_slice.ensures.value ∙ search rules in
    record {
      bytes = tt;
      refused = elim c.in-Err.ensures.err [ inl full ↦ absurd (c.in_default.not-OutOfMemory full) | inr bad ↦ inr (refl, is_no_hex c.args.text.now c.as_slice.result.now c.in-Err.error digits bad) ];
    }
