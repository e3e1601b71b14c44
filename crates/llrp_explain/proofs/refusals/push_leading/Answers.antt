use Rattle.std.proofs.Common.{ℕ, suc, ◌≡◌, ◌<◌, ◌≤◌, List, [], ◌∷◌, length, drop, get_or, drop-cons, sym, ap, ◌∙◌, arith}
use Rattle.std.proofs.Math.ListN.{get_or-map}
use Rattle.std.proofs.lemmas.List.{drop_all, length-map}
use Rattle.std.specs.Prelude.{map}
use Rattle.llrp_schema.specs.declared.kinds.Field.{Field}
use Rattle.llrp_schema.specs.declared.kinds.Kind.{Kind}
use Rattle.llrp_schema.specs.Schema.{FieldRule, fields_of, tail_of}
use Rattle.llrp_schema.specs.Calls.Schema.{field_rule}
use Rattle.llrp_tree.proofs.ReadingLemmas.{rule_width}
use Rattle.std.proofs.lemmas.Result.{on_ok_weaker}
use Rattle.llrp_explain.proofs.RefusedNodes.{due_field, due_tail, due_rest}
use Rattle.llrp_explain.proofs.refusals.push_leading.Goals as goal

rule_here : (fs : List Field) (kind : Kind) (i : ℕ) (d : Field) → map field_rule fs ≡ fields_of kind → i < length fs → drop i (fields_of kind) ≡ field_rule (get_or fs i d) ∷ drop (suc i) (map field_rule fs)
rule_here fs kind i d same lt =
    let all : length (map field_rule fs) ≡ length fs = length-map fs field_rule in
    ap (λ (x : List FieldRule). drop i x) (sym same) ∙ drop-cons (map field_rule fs) i (field_rule d) (omega arith)
    ∙ ap (λ (x : FieldRule). x ∷ drop (suc i) (map field_rule fs)) (get_or-map field_rule fs i d)

all_read : (fs : List Field) (kind : Kind) (n : ℕ) → map field_rule fs ≡ fields_of kind → length fs ≤ n → drop n (fields_of kind) ≡ []
all_read fs kind n same le = let a = length-map fs field_rule in let b = ap (λ (x : List FieldRule). length x) same in drop_all n (fields_of kind) (omega arith)

pub push_next_field-requires-clause-some : goal.push_next_field-requires-clause-some
push_next_field-requires-clause-some c = (rule_width c.fields-rules.result.now c.args.place.node.kind c.args.next _ c.fields-rules.ensures c.if-next-rules.true).0

pub push_next_field-requires-clause-narrow : goal.push_next_field-requires-clause-narrow
push_next_field-requires-clause-narrow c = (rule_width c.fields-rules.result.now c.args.place.node.kind c.args.next _ c.fields-rules.ensures c.if-next-rules.true).1

pub returns-then-next-rules : goal.returns-then-next-rules
returns-then-next-rules c = on_ok_weaker c.push_next_field.result
    (λ f b outer rest n d. f b outer rest n (due_field b c.args.place.node.kind c.args.next _ _ n.level.kind d.0 (rule_here c.fields-rules.result.now c.args.place.node.kind c.args.next _ c.fields-rules.ensures c.if-next-rules.true)))
    c.push_next_field.ensures

pub returns-then-absent : goal.returns-then-absent
returns-then-absent c = on_ok_weaker c.push_below.result
    (λ f b outer rest n d. f b outer rest n (due_rest b c.args.place.node.kind c.args.next c.tail-form.result n.level.kind d.0 d.1 (all_read c.fields-rules.result.now c.args.place.node.kind c.args.next c.fields-rules.ensures c.if-next-rules.false) c.tail-form.ensures (sym c.is_absent-absent.ensures ∙ c.if-absent.true)))
    c.push_below.ensures

pub returns : goal.returns
returns c = on_ok_weaker c.push_next_tail.result
    (λ f b outer rest n d. f b outer rest n (due_tail b c.args.place.node.kind c.args.next c.tail-form.result n.level.kind d.0 d.1 (all_read c.fields-rules.result.now c.args.place.node.kind c.args.next c.fields-rules.ensures c.if-next-rules.false) c.tail-form.ensures (sym c.is_absent-absent.ensures ∙ c.if-absent.false)) (ap (λ (k : Kind). tail_of k) n.level.kind ∙ sym c.tail-form.ensures) d.2)
    c.push_next_tail.ensures
