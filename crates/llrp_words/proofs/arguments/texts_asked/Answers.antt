use Rattle.std.proofs.Common.{◌∙◌, ap, sym, List, [], Bool, Bor, map, if◌then◌else◌}
use Rattle.std.proofs.lemmas.Result.{IfOk-weaker}
use Rattle.clap.specs.Faults.{is_simple_and_free}
use Rattle.clap.specs.Words.{Text, is_simple}
use Rattle.llrp_words.specs.Calls.Arguments.{TextsAsked, command_in, texts_in}
use Rattle.llrp_words.proofs.CommandLemmas.{is_free_program, is_simple_program, found_in, no_texts, only_memory, parsed_if_sound}
use Rattle.llrp_words.proofs.arguments.texts_asked.Goals as goal

pub returns-in-Ok : goal.returns-in-Ok
returns-in-Ok g c =
    let words = map g.S.AsStr.text c.args.words.now in
    let program = c.in_ok-command.ensures in
    let sound = c.in-Ok.ensures.kinds (ap is_simple_and_free program ∙ is_free_program) in
    let found = found_in _ words _ program (c.in-Ok.ensures.matches (ap is_simple program ∙ is_simple_program)).1 in
    let chosen = ap (λ (parsed : Bool). if parsed then texts_in c.args.id.now (command_in words) else []) (parsed_if_sound _ words program sound) in
    IfOk-weaker c.chosen_texts.result _ (λ texts. TextsAsked c.args.id.now words (map (λ (text : Bor Text). text.now) texts.items)) (λ asked h. h ∙ ap (texts_in c.args.id.now) found ∙ sym chosen) c.chosen_texts.ensures

pub returns : goal.returns
returns g c =
    let words = map g.S.AsStr.text c.args.words.now in
    let program = c.in_ok-command.ensures in
    let kinds = c.in-Err.ensures.kinds (ap is_simple_and_free program ∙ is_free_program) in
    let texts : List (Bor Text) → List Text = map (λ (text : Bor Text). text.now) in
    ap texts c.new.ensures.items ∙ no_texts c.args.id.now words (λ parsed. c.in_default.not-OutOfMemory (c.kind.ensures ∙ only_memory _ words c.in-Err.error program parsed kinds))
