use Rattle.std.proofs.Common.{◌≡◌, ◌<◌, length, refl, rules, sym, ap, ◌∙◌, arith, inl, inr}
use Rattle.std.specs.Prelude.{slice_get}
use Rattle.std.proofs.lemmas.Bool.{cases_lt}
use Rattle.std.proofs.lemmas.Option.{slice_get_read, slice_get_within}
use Rattle.tag_forms.specs.declared.prefixes.Entry.{Entry}
use Rattle.tag_forms.proofs.PrefixLemmas.{same_entry}
use Rattle.tag_forms.proofs.prefixes.entry_with.Goals as goal

pub returns-then-eq : goal.returns-then-eq
returns-then-eq c =
    let same : c.entry-item.result.start.items ≡ c.args.start.now = search rules in
    ((c.loop-entry.entry-index, slice_get_read c.args.entries.now (length c.args.entries.now) c.loop-entry.entry-index c.entry-item.result refl c.loop-entry-test.true c.entry-item.is), same)

pub loop-entry-preserved : goal.loop-entry-preserved
loop-entry-preserved c = λ at entry lt is same.
    let other : c.entry-item.result.start.items ≡ c.args.start.now → ⊥ = search rules in
    elim (cases_lt at c.loop-entry.entry-index) [
      | inl less ↦ c.loop-entry.invariant at entry less is same
      | inr ge ↦
          let here : at ≡ c.loop-entry.entry-index = omega (arith, lt, ge) in
          let e = same_entry entry c.entry-item.result (sym is ∙ ap (slice_get c.args.entries.now) here ∙ slice_get_read c.args.entries.now (length c.args.entries.now) c.loop-entry.entry-index c.entry-item.result refl c.loop-entry-test.true c.entry-item.is) in
          other (ap (λ (y : Entry). y.start.items) (sym e) ∙ same)
    ]

pub returns : goal.returns
returns c = λ at entry is same.
    let within : at < length c.args.entries.now = slice_get_within c.args.entries.now at entry is in
    c.loop-entry.invariant at entry (omega (arith, within, c.loop-entry-test.false)) is same
