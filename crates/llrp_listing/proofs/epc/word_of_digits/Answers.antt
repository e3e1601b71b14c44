use Rattle.std.proofs.Common.{◌<◌, ◌^◌, ℕ, rules, ap, sym, ◌∙◌}
use Rattle.std.specs.Result.{result_ok}
use Rattle.llrp_listing.specs.Calls.EpcLines.{AreDigitsOf}
use Rattle.llrp_listing.proofs.EpcLemmas.{digits_decode, decoded_digits, some_ok}
use Rattle.llrp_listing.proofs.epc.word_of_digits.Goals as goal

pub returns-in_err-bytes-clause-none : goal.returns-in_err-bytes-clause-none
returns-in_err-bytes-clause-none c =
    let no : (word : ℕ) → AreDigitsOf c.args.text.now word → ⊥ = λ word are. let d = digits_decode c.args.text.now word are in let x = c.in_err-bytes.ensures.value ∙ ap result_ok (c.from_hex.ensures ∙ d.1) in cc in
    rw c.from_residual.ensures no

pub returns-clause-some : goal.returns-clause-some
returns-clause-some c =
    let below : c.of_bytes.result < 2 ^ 96 = search rules in
    let bytes = some_ok c.from_hex.result c.in_ok-bytes.bytes c.in_ok-bytes.ensures.value in
    decoded_digits c.args.text.now c.in_ok-bytes.bytes c.of_bytes.result below (sym c.from_hex.ensures ∙ bytes) c.of_bytes.ensures
