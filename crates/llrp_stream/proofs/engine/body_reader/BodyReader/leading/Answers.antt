use Rattle.std.proofs.Common.{suc, ◌≡◌, ℕ, ◌+◌, ◌*◌, ◌<◌, ◌≤◌, true, false, List, [], ◌∷◌, refl, sym, ap, ◌∙◌, subst, arith, length, drop, get_or, drop-cons}
use Rattle.std.proofs.Math.ListN.{get_or-map}
use Rattle.std.proofs.lemmas.List.{drop_all, length-map}
use Rattle.std.specs.Prelude.{not, map}
use Rattle.llrp_schema.specs.declared.kinds.Field.{Field}
use Rattle.llrp_schema.specs.declared.kinds.Kind.{Kind}
use Rattle.llrp_schema.specs.Schema.{FieldRule, fields_of}
use Rattle.llrp_schema.specs.Calls.Schema.{field_rule}
use Rattle.llrp_tree.specs.OpenTree.{Begun, kind_of_head, due, Rest}
use Rattle.llrp_stream.specs.Calls.Front.{Reaches}
use Rattle.llrp_stream.specs.Calls.Reading.{HasReadTo}
use Rattle.llrp_tree.specs.OpenTree.{has_tail}
use Rattle.llrp_schema.specs.declared.kinds.Tail.{Tail}
use Rattle.llrp_schema.specs.declared.kinds.Tail.TheVariants.{Absent, Words, Text, Bits, Data}
use Rattle.llrp_tree.proofs.ReadingLemmas.{rule_width}
use Rattle.llrp_schema.proofs.TableLaws.{signed_fields}
use Rattle.llrp_stream.specs.declared.engine.body_reader.Stage.{Stage}
use Rattle.llrp_stream.specs.declared.engine.body_reader.Stage.TheVariants as stage
use Rattle.llrp_stream.specs.declared.engine.body_reader.BodyReader.{BodyReader}
use Rattle.llrp_stream.specs.Calls.Reading.{IsAtStage, IsLeading}
use Rattle.llrp_stream.specs.Private.Reading.{rank}
use Rattle.llrp_stream.proofs.Bounds.{few_fields, fields_in, leading_few}
use Rattle.llrp_stream.proofs.ReadyPart.{resting, aligned, ready_work}
use Rattle.llrp_stream.proofs.engine.body_reader.BodyReader.leading.Goals as goal

rule_here : (fs : List Field) (kind : Kind) (i : ℕ) (d : Field) → map field_rule fs ≡ fields_of kind → i < length fs → drop i (fields_of kind) ≡ field_rule (get_or fs i d) ∷ drop (suc i) (map field_rule fs)
rule_here fs kind i d same lt =
    let all : length (map field_rule fs) ≡ length fs = length-map fs field_rule in
    ap (λ (x : List FieldRule). drop i x) (sym same) ∙ drop-cons (map field_rule fs) i (field_rule d) (omega arith)
    ∙ ap (λ (x : FieldRule). x ∷ drop (suc i) (map field_rule fs)) (get_or-map field_rule fs i d)

all_read : (fs : List Field) (kind : Kind) (n : ℕ) → map field_rule fs ≡ fields_of kind → length fs ≤ n → drop n (fields_of kind) ≡ []
all_read fs kind n same le = let a = length-map fs field_rule in let b = ap (λ (x : List FieldRule). length x) same in drop_all n (fields_of kind) (omega arith)

pub field-requires-clause-place : goal.field-requires-clause-place
field-requires-clause-place g c = let a = few_fields c.args.self.now.top.kind in let b = length-map c.fields-rules.result.now field_rule in let e = ap (λ (x : List FieldRule). length x) c.fields-rules.ensures in omega (arith, c.if-next-rules.true)

signed_width : (fs : List Field) (kind : Kind) (i : ℕ) (d : Field) → map field_rule fs ≡ fields_of kind → i < length fs → (get_or fs i d).signed ≡ true → (get_or fs i d).width ≡ 8
signed_width fs kind i d same lt =
    let long : i < length (fields_of kind) = (let a = length-map fs field_rule in let b = ap (λ (x : List FieldRule). length x) same in omega arith) in
    let w = signed_fields kind i (field_rule d) long in
    let at : get_or (fields_of kind) i (field_rule d) ≡ field_rule (get_or fs i d) = ap (λ (x : List FieldRule). get_or x i (field_rule d)) (sym same) ∙ get_or-map field_rule fs i d in
    λ s. (subst (λ (r : FieldRule). r.signed ≡ true → (r.reserved ≡ false) × (r.width ≡ 8) × (r.greatest ≡ 255)) at w s).1

pub field-requires-clause-signed : goal.field-requires-clause-signed
field-requires-clause-signed g c = signed_width c.fields-rules.result.now c.args.self.now.top.kind c.args.next _ c.fields-rules.ensures c.if-next-rules.true

pub field-requires-clause-some : goal.field-requires-clause-some
field-requires-clause-some g c = (rule_width c.fields-rules.result.now c.args.self.now.top.kind c.args.next _ c.fields-rules.ensures c.if-next-rules.true).0

pub field-requires-clause-narrow : goal.field-requires-clause-narrow
field-requires-clause-narrow g c = (rule_width c.fields-rules.result.now c.args.self.now.top.kind c.args.next _ c.fields-rules.ensures c.if-next-rules.true).1

pub returns-then-next-rules : goal.returns-then-next-rules
returns-then-next-rules g c = λ was front b outer rd told d.
    c.field.ensures was front b outer _ rd told d (rule_here c.fields-rules.result.now c.args.self.now.top.kind c.args.next _ c.fields-rules.ensures c.if-next-rules.true)

no_tail : (form : Tail) → not (has_tail form) ≡ true → form ≡ Absent
no_tail Absent e = refl
no_tail Words e = absurd (let z : false ≡ true = e in cc)
no_tail Text e = absurd (let z : false ≡ true = e in cc)
no_tail Bits e = absurd (let z : false ≡ true = e in cc)
no_tail Data e = absurd (let z : false ≡ true = e in cc)

some_tail : (form : Tail) → not (has_tail form) ≡ false → has_tail form ≡ true
some_tail Absent e = absurd (let z : true ≡ false = e in cc)
some_tail Words e = refl
some_tail Text e = refl
some_tail Bits e = refl
some_tail Data e = refl

all_fields : (fs : List Field) (kind : Kind) (n : ℕ) → map field_rule fs ≡ fields_of kind → length fs ≤ n → n ≤ length (fields_of kind) → n ≡ length (fields_of kind)
all_fields fs kind n same le most = let a = length-map fs field_rule in let b = ap (λ (x : List FieldRule). length x) same in omega (arith, le, most)

pub field-requires-clause-rule : goal.field-requires-clause-rule
field-requires-clause-rule g c = (_, rule_here c.fields-rules.result.now c.args.self.now.top.kind c.args.next _ c.fields-rules.ensures c.if-next-rules.true)

pub field-requires-clause-reads : goal.field-requires-clause-reads
field-requires-clause-reads g c = c.requires.reads

few_leading : (r : BodyReader) (front : List ℕ) (b : Begun) (outer : List Begun) (next : ℕ) → HasReadTo r front b outer → r.stage ≡ stage.Leading next → next ≤ length (fields_of r.top.kind)
few_leading r front b outer next rd s =
    let i : IsLeading next r front b outer = subst (λ (x : Stage). IsAtStage x r front b outer) s rd.stage in
    let a = leading_few (fields_of (kind_of_head b.head)) b.fields (fields_in b outer i.reaches.is_open) in
    let k = ap (λ (x : Kind). length (fields_of x)) rd.level.kind in
    omega (arith, a, k, i.count)

pub begin_tail-requires-clause-stage : goal.begin_tail-requires-clause-stage
begin_tail-requires-clause-stage g c =
    let w = c.requires.reads in
    let most = few_leading c.args.self.now w.0 w.1 w.2 c.args.next w.3 c.requires.stage in
    c.requires.stage ∙ ap (λ (n : ℕ). stage.Leading n) (all_fields c.fields-rules.result.now c.args.self.now.top.kind c.args.next c.fields-rules.ensures c.if-next-rules.false most)

pub begin_tail-requires-clause-form : goal.begin_tail-requires-clause-form
begin_tail-requires-clause-form g c = sym c.tail-form.ensures

pub begin_tail-requires-clause-has : goal.begin_tail-requires-clause-has
begin_tail-requires-clause-has g c = some_tail c.tail-form.result (sym c.is_absent-absent.ensures ∙ c.if-absent.false)

pub begin_tail-requires-clause-some : goal.begin_tail-requires-clause-some
begin_tail-requires-clause-some g c = let w = c.requires.reads in (w.0, w.1, w.2, w.3)

pub returns : goal.returns
returns g c = λ was front b outer rd told d. c.begin_tail.ensures was front b outer rd told d

pub returns-then-absent : goal.returns-then-absent
returns-then-absent g c = λ was front b outer rd told d.
    let r = c.args.self.now in
    let s = subst (λ (x : Stage). IsAtStage x r front b outer) c.requires.stage rd.stage in
    let none_due : drop (length b.fields) (fields_of r.top.kind) ≡ [] = ap (λ (n : ℕ). drop n (fields_of r.top.kind)) s.count ∙ all_read c.fields-rules.result.now r.top.kind c.args.next c.fields-rules.ensures c.if-next-rules.false in
    let rest : due b ≡ Rest = resting b r.top.kind rd.level.kind (ap (λ (x : Begun). x.tail) s.bare) none_due (sym c.tail-form.ensures ∙ no_tail c.tail-form.result (sym c.is_absent-absent.ensures ∙ c.if-absent.true)) in
    let zero : r.bit ≡ 0 = aligned front r.octets b outer r.at r.bit s.reaches rest rd.bit_small in
    let place : 8 * r.at + r.bit ≡ 8 * r.at = omega (arith, zero) in
    record {
      within = omega arith;
      are = record {
        node = b;
        outer = outer;
        reads = record { level = rd.level; levels = rd.levels; stage = record { ready = rest; aligned = zero; reaches = subst (λ (n : ℕ). Reaches r.set front r.octets (b ∷ outer) n) place s.reaches }; before = rd.before; small = rd.small; bit_small = rd.bit_small };
        told = c.in_ok-ready.ensures was (b ∷ outer) told;
      };
      place = omega arith;
      same = refl;
      set = refl;
      less = ready_work r _ (length c.args.octets.now) refl refl (ap rank c.requires.stage) refl;
    }
