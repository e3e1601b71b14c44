use Rattle.std.proofs.Common.{◌≡◌, ℕ, List, Option, None, Some, MatchOption, nat_eq, sym, ap, subst, ◌∙◌}
use Rattle.std.specs.Prelude.{find}
use Rattle.llrp_enumerations.specs.declared.enumeration.Enumeration.{Enumeration}
use Rattle.llrp_enumerations.specs.Calls.Enumerations.{NamedValue, name_in, number_name}
use Rattle.llrp_enumerations.proofs.names.name_of.Goals as goal

pub returns-in-Some : goal.returns-in-Some
returns-in-Some c =
    let n = c.args.number in
    let same = ap (λ (o : Option Enumeration). number_name o n) (sym c.enumeration_of.ensures ∙ c.in-Some.is) ∙ ap (λ (vs : List NamedValue). name_in (find (λ v. nat_eq v.number n) vs)) (sym c.values.ensures) in
    subst (λ (x : Option (List ℕ)). MatchOption c.number_named.result (x ≡ None) (λ name. x ≡ Some name.now)) (sym same) c.number_named.ensures
