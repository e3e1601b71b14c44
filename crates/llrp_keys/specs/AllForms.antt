-- What `llrp epc --schemes all --forms` prints of one text. Texts are lists of their UTF-8 octets; the lines are this project's own.
use Rattle.std.specs.Prelude.{◌≡◌, ℕ, ◌^◌, ◌<◌, List, [], ◌∷◌, ◌++◌, Option}
use Rattle.tag_forms.specs.declared.all_forms.AllFault.{AllFault}
use Rattle.tag_forms.specs.declared.company.Company.{Company}
use Rattle.tag_forms.specs.AllAnswers.{AreFormLinesInAll, refusal_in_all}
use Rattle.tag_forms.specs.AllForms.{ReadsInAll, RefusesInAll}
use Rattle.tag_forms.specs.Company.{IsCount}
use Rattle.tag_forms.specs.Forms.{form_at}
use Rattle.llrp_listing.specs.declared.outcome.Verdict.{Verdict}
use Rattle.llrp_listing.specs.declared.outcome.Verdict.TheVariants.{Lawful, Faulty}

-- the lines of a text's forms in the set of all schemes: those of its word, or the first rule that refuses the text, each with a line feed (10)
abbrev pub AreFormsInAll : ℕ → Company → List ℕ → Verdict → List ℕ → Type 0
AreFormsInAll filter company text Lawful lines =
    (count : Option ℕ) × (word : ℕ) × IsCount company text count × (word < 2 ^ 96) × ReadsInAll (form_at text) filter count text word × AreFormLinesInAll word lines
AreFormsInAll filter company text Faulty lines =
    (count : Option ℕ) × (f : AllFault) × IsCount company text count × RefusesInAll (form_at text) filter count text f × (lines ≡ refusal_in_all f ++ 10 ∷ [])
