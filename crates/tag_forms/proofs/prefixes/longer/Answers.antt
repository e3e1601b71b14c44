use Rattle.std.proofs.Common.{◌≡◌, ℕ, List, false, sym, ap, ◌∙◌}
use Rattle.std.specs.Prelude.{◌==◌}
use Rattle.std.specs.List.{starts_with}
use Rattle.tag_forms.specs.Prefixes.{begins_with}
use Rattle.tag_forms.proofs.PrefixLemmas.{not_begun}
use Rattle.tag_forms.proofs.prefixes.longer.Goals as goal

pub returns-then-not-starts_with : goal.returns-then-not-starts_with
returns-then-not-starts_with c =
    let h : begins_with c.args.digits.now c.args.entry.now ≡ false = ap (λ (s : List ℕ). starts_with (λ a b. a == b) c.args.digits.now s) (sym c.as_slice.ensures.value) ∙ sym c.starts_with.ensures.value ∙ c.if-not-starts_with.true in
    not_begun c.args.digits.now c.args.best c.args.entry.now h
