use Rattle.std.proofs.Common.{◌∙◌, ◌<◌, ◌^◌, ℕ, sym, subst, arith}
use Rattle.std.proofs.lemmas.Result.{on_ok_weaker}
use Rattle.llrp_schema.specs.Calls.Schema.{field_rule}
use Rattle.llrp_json.specs.Private.StandardNames.{standard_chain}
use Rattle.llrp_json.proofs.StandardTrees.{all_others, awaited_after, awaited_next, awaited_signed, awaited_some, awaited_width, field_chain}
use Rattle.llrp_json.proofs.standard_printer.StandardPrinterListener.field.Goals as goal

pub bounds-self-0 : goal.bounds-self-0
bounds-self-0 c =
    let (was, t, a, nx) = c.requires.some in
    awaited_some t (field_rule c.args._rule.now) c.args.self.now.awaited.now c.args._rule.now nx a.1

pub slice_bounds-self-count : goal.slice_bounds-self-count
slice_bounds-self-count c =
    let (was, t, a, nx) = c.requires.some in
    let some = awaited_some t (field_rule c.args._rule.now) c.args.self.now.awaited.now c.args._rule.now nx a.1 in
    omega (arith, some)

pub slice_bounds-self-start : goal.slice_bounds-self-start
slice_bounds-self-start c =
    let (was, t, a, nx) = c.requires.some in
    let some = awaited_some t (field_rule c.args._rule.now) c.args.self.now.awaited.now c.args._rule.now nx a.1 in
    omega (arith, some)

pub field-requires-clause-fits : goal.field-requires-clause-fits
field-requires-clause-fits c =
    let (was, t, a, nx) = c.requires.some in
    subst (λ (n : ℕ). c.args.value < 2 ^ n) (sym (awaited_width t (field_rule c.args._rule.now) c.args.self.now.awaited.now _ nx a.1)) c.requires.fits

pub field-requires-clause-signed : goal.field-requires-clause-signed
field-requires-clause-signed c =
    let (was, t, a, nx) = c.requires.some in
    λ signed.
    awaited_width t (field_rule c.args._rule.now) c.args.self.now.awaited.now _ nx a.1
    ∙ c.requires.signed (sym (awaited_signed t (field_rule c.args._rule.now) c.args.self.now.awaited.now _ nx a.1) ∙ signed)

pub field-requires-clause-some : goal.field-requires-clause-some
field-requires-clause-some c =
    let (was, t, a, nx) = c.requires.some in
    (was, standard_chain t, a.0, awaited_next t (field_rule c.args._rule.now) c.args.self.now.awaited.now _ nx a.1)

pub returns : goal.returns
returns c =
    on_ok_weaker c.field.result
    (λ e was t a nx. (
      rw (field_chain c.args.value t) (e was (standard_chain t) a.0 (awaited_next t (field_rule c.args._rule.now) c.args.self.now.awaited.now _ nx a.1)),
      rw (all_others c.args.self.now.awaited.now) (awaited_after t (field_rule c.args._rule.now) c.args.self.now.awaited.now c.args._rule.now nx a.1 c.args.value),
    ))
    c.field.ensures
