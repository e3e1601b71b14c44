use Rattle.std.proofs.Common.{◌≡◌, ◌+◌, [], ◌∷◌, drop, sym, ap, subst, ◌∙◌, arith}
use Rattle.std.proofs.lemmas.List.{drop_all, drop_more}
use Rattle.json.specs.Value.{items_view, value_view}
use Rattle.llrp_json_read.proofs.WordTexts.{WordsRead, all_read, one_more, word_refused}
use Rattle.llrp_json_read.proofs.tails.read_words.Goals as goal

pub returns-then-not-branch : goal.returns-then-not-branch
returns-then-not-branch c =
    let xs = c.args.values.now in
    let i = c.loop-value.value-index in
    let x = c.value-item.result in
    let here : drop i xs ≡ x ∷ drop (i + 1) xs = drop_more xs i x (omega arith) ∙ ap (λ y. y ∷ drop (i + 1) xs) (sym c.value-item.is) in
    word_refused (items_view xs) (items_view (drop i xs)) (items_view (drop (i + 1) xs)) c.loop-value.octets.items (value_view x) c.loop-value.invariant (ap items_view here) (grind (arith, c.in_ok-push_word.ensures))

pub loop-value-preserved : goal.loop-value-preserved
loop-value-preserved c =
    let xs = c.args.values.now in
    let i = c.loop-value.value-index in
    let x = c.value-item.result in
    let here : drop i xs ≡ x ∷ drop (i + 1) xs = drop_more xs i x (omega arith) ∙ ap (λ y. y ∷ drop (i + 1) xs) (sym c.value-item.is) in
    one_more (items_view xs) (items_view (drop i xs)) (items_view (drop (i + 1) xs)) c.loop-value.octets.items c.push_word.new.octets.items (value_view x) c.loop-value.invariant (ap items_view here) (grind (arith, c.in_ok-push_word.ensures))

pub returns : goal.returns
returns c =
    let xs = c.args.values.now in
    let none : drop c.loop-value.value-index xs ≡ [] = drop_all c.loop-value.value-index xs (omega arith) in
    all_read (items_view xs) c.loop-value.octets.items (subst (λ ys. WordsRead (items_view xs) c.loop-value.octets.items (items_view ys)) none c.loop-value.invariant)
