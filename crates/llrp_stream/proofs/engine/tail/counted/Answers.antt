use Rattle.std.proofs.Common.{◌++◌, refl}
use Rattle.std.specs.Prelude.{Result, Ok, Err, IfErr}
use Rattle.tag_bits.specs.Digits.{digits_of_bytes}
use Rattle.llrp_stream.proofs.engine.tail.counted.Goals as goal

pub returns-in-Words-clause-says : goal.returns-in-Words-clause-says
returns-in-Words-clause-says c = rw c.in-Words.is (λ fields later known. c.words_counted.ensures.says fields later)

pub returns-in-Text-clause-says : goal.returns-in-Text-clause-says
returns-in-Text-clause-says c = rw c.in-Text.is (λ fields later known. c.text_counted.ensures.says fields later)

pub returns-in-Bits-clause-says : goal.returns-in-Bits-clause-says
returns-in-Bits-clause-says c = rw c.in-Bits.is (λ fields later known. c.bits_counted.ensures fields c.args.octets.now (digits_of_bytes c.args.octets.now ++ later) (known refl))

if_err : {T E : Type 0} (r : Result T E) (P Q : Type 0) → IfErr r (λ e. P) → (P → Q) → IfErr r (λ e. Q)
if_err (Ok x) P Q p f = tt
if_err (Err e) P Q p f = f p

pub returns-in-Words-clause-there : goal.returns-in-Words-clause-there
returns-in-Words-clause-there c = if_err c.words_counted.result _ _ c.words_counted.ensures.there (λ h ne room. h room)

pub returns-in-Text-clause-there : goal.returns-in-Text-clause-there
returns-in-Text-clause-there c = if_err c.text_counted.result _ _ c.text_counted.ensures.there (λ h ne room. h room)

none_there : {T E : Type 0} (r : Result T E) (Q : Type 0) → Q → IfErr r (λ e. Q)
none_there (Ok x) Q q = tt
none_there (Err e) Q q = q

pub returns-in-Bits-clause-there : goal.returns-in-Bits-clause-there
returns-in-Bits-clause-there c = none_there c.bits_counted.result _ (λ ne room. absurd (ne c.in-Bits.is))
