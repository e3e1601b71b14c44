use Rattle.std.proofs.Common.{List, ℕ}
use Rattle.tag_schemes.specs.declared.scheme.Scheme.{Scheme}
use Rattle.tag_schemes.specs.declared.scheme.Scheme.TheVariants.{Giai, Gsrnp, Sgcn, Cpi}
use Rattle.tag_schemes.specs.AllTexts.{BeginsIn}
use Rattle.tag_schemes.proofs.read_text.scheme_in_front.Goals as goal

pub returns-clause-none : goal.returns-clause-none
returns-clause-none c = λ scheme. elim scheme as (λ (s : Scheme). (rest : List ℕ) → BeginsIn c.args.text.now s rest → ⊥) [
  | Giai ↦ λ rest b. c.in_default.ensures.cases rest b.begins
  | Gsrnp ↦ λ rest b. c.in_default-strip_prefix.ensures.cases rest b.begins
  | Sgcn ↦ λ rest b. c.in_default-strip_prefix-2.ensures.cases rest b.begins
  | Cpi ↦ λ rest b. c.in_default-strip_prefix-3.ensures.cases rest b.begins
]
