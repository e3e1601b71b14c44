use Rattle.std.proofs.Common.{◌≡◌, ◌+◌, ℕ, List, [], ◌∷◌, drop, sym, ap, subst, ◌∙◌, arith}
use Rattle.std.proofs.lemmas.List.{drop_all, drop_more}
use Rattle.json.specs.Value.{items_view, value_view}
use Rattle.llrp_json_read.specs.ObjectRefused.{RefusesParameter}
use Rattle.llrp_json_read.specs.ObjectSays.{SaysEach, SaysParameter}
use Rattle.llrp_json_read.proofs.Parameters.{EachRead, IsMade, all_read, below_refused, made, one_more, one_refused, own_refused}
use Rattle.llrp_json_read.proofs.nodes.+read.Goals as goal

pub read_parameter-returns-in-Err : goal.read_parameter-returns-in-Err
read_parameter-returns-in-Err t c = own_refused c.args.set c.args.levels (value_view c.args.value.now) c.in-Err.error (omega arith) c.in-Err.ensures

pub read_parameter-returns-in-Err-read_below : goal.read_parameter-returns-in-Err-read_below
read_parameter-returns-in-Err-read_below t c = below_refused c.args.set c.args.levels c.in-Ok.parts.0 (value_view c.args.value.now) c.in-Ok.parts.1.items c.in-Ok.parts.2 c.in-Err-read_below.error (omega arith) c.in-Ok.ensures c.in-Err-read_below.ensures

pub read_parameter-returns : goal.read_parameter-returns
read_parameter-returns t c =
    let parts = c.in-Ok.parts in
    made c.args.set c.args.levels parts.0 (value_view c.args.value.now) parts.1.items parts.2 c.in-Ok-read_below.children c.made_parameter.result (omega arith) c.in-Ok.ensures c.in-Ok-read_below.ensures
    (subst (λ (fields : List ℕ). IsMade parts.0 fields parts.2 c.in-Ok-read_below.children c.made_parameter.result) c.as_slice.ensures.value c.made_parameter.ensures)

pub read_parameters-returns-in-Err : goal.read_parameters-returns-in-Err
read_parameters-returns-in-Err t c =
    let xs = c.args.values.now in
    let i = c.loop-value.value-index in
    let x = c.value-item.result in
    let here : drop i xs ≡ x ∷ drop (i + 1) xs = drop_more xs i x (omega arith) ∙ ap (λ y. y ∷ drop (i + 1) xs) (sym c.value-item.is) in
    one_refused (SaysParameter c.args.set c.args.levels) (RefusesParameter c.args.set c.args.levels) (items_view xs) (items_view (drop i xs)) (items_view (drop (i + 1) xs)) c.loop-value.nodes.items (value_view x) c.len.result c.in-Err.error c.at_place.result c.loop-value.invariant (ap items_view here) (grind (arith, c.len.ensures)) c.in-Err.ensures c.at_place.ensures

pub read_parameters-loop-value-preserved : goal.read_parameters-loop-value-preserved
read_parameters-loop-value-preserved t c =
    let xs = c.args.values.now in
    let i = c.loop-value.value-index in
    let x = c.value-item.result in
    let here : drop i xs ≡ x ∷ drop (i + 1) xs = drop_more xs i x (omega arith) ∙ ap (λ y. y ∷ drop (i + 1) xs) (sym c.value-item.is) in
    one_more (SaysParameter c.args.set c.args.levels) (RefusesParameter c.args.set c.args.levels) (items_view xs) (items_view (drop i xs)) (items_view (drop (i + 1) xs)) c.loop-value.nodes.items c.push.new.self.items (value_view x) c.in-Ok.node c.loop-value.invariant (ap items_view here) c.in-Ok.ensures c.in_ok-push-in-Ok.ensures.items

pub read_parameters-returns : goal.read_parameters-returns
read_parameters-returns t c =
    let xs = c.args.values.now in
    let none : drop c.loop-value.value-index xs ≡ [] = drop_all c.loop-value.value-index xs (omega arith) in
    subst (λ ts. SaysEach (SaysParameter c.args.set c.args.levels) (items_view xs) ts) (sym c.new.ensures)
    (all_read (SaysParameter c.args.set c.args.levels) (RefusesParameter c.args.set c.args.levels) (items_view xs) c.loop-value.nodes.items (subst (λ ys. EachRead (SaysParameter c.args.set c.args.levels) (RefusesParameter c.args.set c.args.levels) (items_view xs) c.loop-value.nodes.items (items_view ys)) none c.loop-value.invariant))
