use Rattle.std.proofs.Common.{arith, codes, subst, ◌≡◌, ◌∙◌, ℕ, ap, sym, Option, Some, is_some}
use Rattle.std.specs.Prelude.{option_map, pos}
use Rattle.std.specs.Str.Parse.{signed_digits_value, ParsesUnsigned, ExplainsUnsignedError, HasUnsignedDigitsIfOk}
use Rattle.clap.specs.Words.{found_of, without_minus}
use Rattle.clap.proofs.WalkLemmas.{one_text-rows}
use Rattle.llrp_words.specs.declared.arguments.TheConstants.{MOST_OCTETS}
use Rattle.llrp_words.specs.Calls.Requests.{IsLimit}
use Rattle.llrp_words.proofs.ArgumentLemmas.{reads_number}
use Rattle.llrp_words.proofs.arguments.limit.Goals as goal

pub unwrap-requires : goal.unwrap-requires
unwrap-requires c =
    let one = c.get_one.ensures.value (without_minus c.requires.word) (one_text-rows (found_of c.args.inner.now) (codes "limit") ∙ c.requires.read) in
    let got = reads_number _ (λ bs r. ParsesUnsigned 32 10 bs r × ExplainsUnsignedError 10 bs r × HasUnsignedDigitsIfOk bs r) 32 10 MOST_OCTETS c.requires.word c.get_one.result one (λ u x g. g.0) (omega arith) c.requires.spells in
    ap (λ (o : Option ℕ). is_some o) got.1

pub returns-clause-number : goal.returns-clause-number
returns-clause-number c = λ name.
    let one = c.get_one.ensures.value (without_minus c.requires.word) (one_text-rows (found_of c.args.inner.now) (codes "limit") ∙ c.requires.read) in
    let got = reads_number _ (λ bs r. ParsesUnsigned 32 10 bs r × ExplainsUnsignedError 10 bs r × HasUnsignedDigitsIfOk bs r) 32 10 MOST_OCTETS c.requires.word c.get_one.result one (λ u x g. g.0) (omega arith) c.requires.spells in
    let same : got.0 ≡ c.unwrap.result = let both : Some got.0 ≡ Some c.unwrap.result = sym got.1 ∙ c.unwrap.ensures in cc in
    ap (option_map (signed_digits_value 10)) c.requires.given ∙ ap (λ z. Some z) got.2 ∙ ap (λ (n : ℕ). Some (pos n)) same

pub returns-clause-limit : goal.returns-clause-limit
returns-clause-limit c =
    let one = c.get_one.ensures.value (without_minus c.requires.word) (one_text-rows (found_of c.args.inner.now) (codes "limit") ∙ c.requires.read) in
    let got = reads_number _ (λ bs r. ParsesUnsigned 32 10 bs r × ExplainsUnsignedError 10 bs r × HasUnsignedDigitsIfOk bs r) 32 10 MOST_OCTETS c.requires.word c.get_one.result one (λ u x g. g.0) (omega arith) c.requires.spells in
    let same : got.0 ≡ c.unwrap.result = let both : Some got.0 ≡ Some c.unwrap.result = sym got.1 ∙ c.unwrap.ensures in cc in
    subst IsLimit same (got.3, got.4)
