use Rattle.std.proofs.Common.{◌≡◌, List, ℕ}
use Rattle.tag_schemes.specs.declared.scheme.Scheme.{Scheme}
use Rattle.tag_schemes.specs.declared.scheme.Scheme.TheVariants.{Giai, Gsrnp, Sgcn, Cpi}
use Rattle.tag_scheme_keys.specs.PureIdentity.{id_text_in}
use Rattle.tag_scheme_keys.proofs.id_name.scheme_named.Goals as goal

pub returns-clause-none : goal.returns-clause-none
returns-clause-none c = λ scheme. elim scheme as (λ (s : Scheme). (rest : List ℕ) → c.args.text.now ≡ id_text_in s rest → ⊥) [
  | Giai ↦ λ rest e. c.in_default.ensures.cases rest e
  | Gsrnp ↦ λ rest e. c.in_default-strip_prefix.ensures.cases rest e
  | Sgcn ↦ λ rest e. c.in_default-strip_prefix-2.ensures.cases rest e
  | Cpi ↦ λ rest e. c.in_default-strip_prefix-3.ensures.cases rest e
]
