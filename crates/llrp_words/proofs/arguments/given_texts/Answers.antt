use Rattle.std.proofs.Common.{◌≡◌, ◌∙◌, ap, sym, map, unwrap_or, List, [], Option, Some, None, Bor}
use Rattle.std.proofs.lemmas.Result.{IfOk-weaker}
use Rattle.clap.specs.Words.{Text, all_of, found_of, rows_of}
use Rattle.clap.proofs.WalkLemmas.{raw_values-rows}
use Rattle.llrp_words.proofs.arguments.given_texts.Goals as goal

pub returns-in-Some : goal.returns-in-Some
returns-in-Some c =
    let texts : List (Bor Text) → List Text = map (λ (text : Bor Text). text.now) in
    let some : all_of c.args.id.now (rows_of (found_of c.args.inner.now)) ≡ Some (texts c.in-Some.texts.now) =
    sym (raw_values-rows (found_of c.args.inner.now) c.args.id.now) ∙ sym c.in-Some.ensures in
    IfOk-weaker c.to_vec.result _ _ (λ v same. ap texts (same (λ x y e. e)) ∙ ap (λ (o : Option (List Text)). unwrap_or o []) (sym some)) c.to_vec.ensures.items_if_clones_equal

pub returns-in-None : goal.returns-in-None
returns-in-None c =
    let texts : List (Bor Text) → List Text = map (λ (text : Bor Text). text.now) in
    let none : all_of c.args.id.now (rows_of (found_of c.args.inner.now)) ≡ None =
    sym (raw_values-rows (found_of c.args.inner.now) c.args.id.now) ∙ sym c.in-None.ensures in
    ap texts c.new.ensures.items ∙ ap (λ (o : Option (List Text)). unwrap_or o []) (sym none)
