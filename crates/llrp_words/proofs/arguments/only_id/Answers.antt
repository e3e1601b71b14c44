use Rattle.std.proofs.Common.{arith, codes, ◌≡◌, ◌∙◌, ℕ, ap, sym, subst, Option, Some, None, inl, inr}
use Rattle.std.specs.Prelude.{option_map}
use Rattle.std.specs.Str.Parse.{signed_digits_value, ParsesUnsigned, ExplainsUnsignedError, HasUnsignedDigitsIfOk}
use Rattle.clap.specs.Words.{found_of, rows_of, without_minus}
use Rattle.clap.proofs.WalkLemmas.{one_text-rows}
use Rattle.llrp_words.specs.Calls.Arguments.{HasOptionalNumber}
use Rattle.llrp_words.proofs.ArgumentLemmas.{reads_number}
use Rattle.llrp_words.proofs.arguments.only_id.Goals as goal

pub returns : goal.returns
returns c = λ name.
    let found = found_of c.args.inner.now in
    let id = codes "only" in
    elim c.requires [
      | inl none ↦
          let is : c.get_one.result ≡ None = c.get_one.ensures.none (one_text-rows found id ∙ none.0) in
          subst (λ (o : Option ℕ). HasOptionalNumber id (Some (name, rows_of found)) o) (sym is) none.1
      | inr has ↦
          let one = c.get_one.ensures.value (without_minus has.word) (one_text-rows found id ∙ has.read) in
          let got = reads_number _ (λ bs r. ParsesUnsigned 32 10 bs r × ExplainsUnsignedError 10 bs r × HasUnsignedDigitsIfOk bs r) 32 0 4294967295 has.word c.get_one.result one (λ u x g. g.0) (omega arith) has.spells in
          subst (λ (o : Option ℕ). HasOptionalNumber id (Some (name, rows_of found)) o) (sym got.1) (ap (option_map (signed_digits_value 10)) has.given ∙ ap (λ z. Some z) got.2)
    ]
