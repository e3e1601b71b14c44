use Rattle.std.proofs.Common.{List, refl, subst, inl, inr}
use Rattle.tag_forms.specs.declared.prefixes.Entry.{Entry}
use Rattle.tag_forms.specs.Prefixes.{HasStart, HasNoStart}
use Rattle.tag_forms.proofs.prefixes.Prefixes.add.Goals as goal
use Rattle.tag_forms.proofs.prefixes.Prefixes.add.Goals.{in-Ok-push, in-Err}

pub returns-then-entry-company_digits-clause-ok : goal.returns-then-entry-company_digits-clause-ok
returns-then-entry-company_digits-clause-ok c =
    inl (c.in-Some.entry.now, subst (λ (es : List Entry). HasStart es c.args.start.now c.in-Some.entry.now) c.as_slice.ensures.value c.in-Some.ensures, c.if-entry-company_digits.true, refl)

pub returns-else-entry-company_digits-clause-two : goal.returns-else-entry-company_digits-clause-two
returns-else-entry-company_digits-clause-two c = λ e.
    (c.in-Some.entry.now, subst (λ (es : List Entry). HasStart es c.args.start.now c.in-Some.entry.now) c.as_slice.ensures.value c.in-Some.ensures, c.if-entry-company_digits.false)

pub returns-clause-ok : goal.returns-clause-ok
returns-clause-ok c =
    let none : HasNoStart c.args.self.now.entries.items c.args.start.now = subst (λ (es : List Entry). HasNoStart es c.args.start.now) c.as_slice.ensures.value c.in_default.ensures in
    elim c.match-push.branch [
      | in-Ok-push w ↦
          let entry : Entry = record { start = c.in-Ok.start; company_digits = c.args.company_digits } in
          let items = rw w.in-Ok-push.is at c.push.ensures.items in
          rw w.result-is (inr (none, entry, c.in-Ok.ensures.items, refl, items))
      | in-Err w ↦ rw w.result-is tt
    ]
