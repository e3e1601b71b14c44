use Rattle.std.proofs.Common.{[], ap, if◌then◌else◌, subst, sym, ◌∙◌, Bool, Bor, List, Option, map}
use Rattle.clap.specs.Faults.{fault_of}
use Rattle.clap.specs.Words.{App, Row, Text, is_simple}
use Rattle.clap.specs.Faults.{is_simple_and_free}
use Rattle.llrp_words.specs.Private.Parse.{IsFound}
use Rattle.llrp_words.specs.Calls.Arguments.{command_in, files_in}
use Rattle.llrp_words.specs.Calls.Requests.{IsRequest}
use Rattle.llrp_words.proofs.CommandLemmas.{is_free_program, is_simple_program, found_in, no_files, only_memory, parsed_if_sound, parsed_without_fault}
use Rattle.llrp_words.proofs.AskedLemmas.{asked_as, nothing_asked}
use Rattle.llrp_words.proofs.GivenArguments.{found_if_parsed}
use Rattle.llrp_words.proofs.arguments.asked_of.Goals as goal

pub chosen-requires : goal.chosen-requires
chosen-requires g c =
    let words = map g.S.AsStr.text c.args.words.now in
    let program = c.in_ok-command.ensures in
    let none = c.in-Ok.ensures.kinds (ap is_simple_and_free program ∙ is_free_program) in
    let found = (c.in-Ok.ensures.matches (ap is_simple program ∙ is_simple_program)).1 in
    subst IsFound (sym (found_in _ words _ program found)) (found_if_parsed words (sym (ap (λ (a : App). fault_of a words) program) ∙ none))

pub returns-in-Ok-clause-named : goal.returns-in-Ok-clause-named
returns-in-Ok-clause-named g c = λ parsed.
    let program = c.in_ok-command.ensures in
    let found = (c.in-Ok.ensures.matches (ap is_simple program ∙ is_simple_program)).1 in
    subst (λ (x : Option (Text × List Row)). IsRequest x c.chosen.result) (found_in _ _ _ program found) c.chosen.ensures.request

pub returns-in-Ok-clause-refused : goal.returns-in-Ok-clause-refused
returns-in-Ok-clause-refused g c = λ refused.
    let program = c.in_ok-command.ensures in
    absurd (parsed_without_fault _ _ program (c.in-Ok.ensures.kinds (ap is_simple_and_free program ∙ is_free_program)) refused)

pub returns-then-use_stderr-clause-named : goal.returns-then-use_stderr-clause-named
returns-then-use_stderr-clause-named g c = λ parsed.
    let program = c.in_ok-command.ensures in
    c.in_default.not-OutOfMemory (c.kind.ensures ∙ only_memory _ (map g.S.AsStr.text c.args.words.now) c.in-Err.error program parsed (c.in-Err.ensures.kinds (ap is_simple_and_free program ∙ is_free_program)))

pub returns-clause-named : goal.returns-clause-named
returns-clause-named g c = λ parsed.
    let program = c.in_ok-command.ensures in
    c.in_default.not-OutOfMemory (c.kind.ensures ∙ only_memory _ (map g.S.AsStr.text c.args.words.now) c.in-Err.error program parsed (c.in-Err.ensures.kinds (ap is_simple_and_free program ∙ is_free_program)))

pub returns-in-Ok-clause-asked : goal.returns-in-Ok-clause-asked
returns-in-Ok-clause-asked g c =
    let words = map g.S.AsStr.text c.args.words.now in
    let program = c.in_ok-command.ensures in
    let none = c.in-Ok.ensures.kinds (ap is_simple_and_free program ∙ is_free_program) in
    let found = (c.in-Ok.ensures.matches (ap is_simple program ∙ is_simple_program)).1 in
    asked_as words c.chosen.result (parsed_if_sound _ words program none) (found_if_parsed words (sym (ap (λ (a : App). fault_of a words) program) ∙ none))
    (subst (λ (x : Option (Text × List Row)). IsRequest x c.chosen.result) (found_in _ words _ program found) c.chosen.ensures.request)

pub returns-then-use_stderr-clause-asked : goal.returns-then-use_stderr-clause-asked
returns-then-use_stderr-clause-asked g c =
    let words = map g.S.AsStr.text c.args.words.now in
    let program = c.in_ok-command.ensures in
    nothing_asked words (λ parsed. c.in_default.not-OutOfMemory (c.kind.ensures ∙ only_memory _ words c.in-Err.error program parsed (c.in-Err.ensures.kinds (ap is_simple_and_free program ∙ is_free_program))))

pub returns-clause-asked : goal.returns-clause-asked
returns-clause-asked g c =
    let words = map g.S.AsStr.text c.args.words.now in
    let program = c.in_ok-command.ensures in
    nothing_asked words (λ parsed. c.in_default.not-OutOfMemory (c.kind.ensures ∙ only_memory _ words c.in-Err.error program parsed (c.in-Err.ensures.kinds (ap is_simple_and_free program ∙ is_free_program))))

pub returns-in-Ok-clause-files : goal.returns-in-Ok-clause-files
returns-in-Ok-clause-files g c =
    let words = map g.S.AsStr.text c.args.words.now in
    let program = c.in_ok-command.ensures in
    let sound = c.in-Ok.ensures.kinds (ap is_simple_and_free program ∙ is_free_program) in
    let found = found_in _ words _ program (c.in-Ok.ensures.matches (ap is_simple program ∙ is_simple_program)).1 in
    let chosen = ap (λ (parsed : Bool). if parsed then files_in (command_in words) else []) (parsed_if_sound _ words program sound) in
    c.in_ok-files-in-Ok.ensures ∙ ap files_in found ∙ sym chosen

pub returns-then-use_stderr-clause-files : goal.returns-then-use_stderr-clause-files
returns-then-use_stderr-clause-files g c =
    let words = map g.S.AsStr.text c.args.words.now in
    let program = c.in_ok-command.ensures in
    let kinds = c.in-Err.ensures.kinds (ap is_simple_and_free program ∙ is_free_program) in
    let texts : List (Bor Text) → List Text = map (λ (file : Bor Text). file.now) in
    ap texts c.new-files.ensures.items ∙ no_files words (λ parsed. c.in_default.not-OutOfMemory (c.kind.ensures ∙ only_memory _ words c.in-Err.error program parsed kinds))

pub returns-clause-files : goal.returns-clause-files
returns-clause-files g c =
    let words = map g.S.AsStr.text c.args.words.now in
    let program = c.in_ok-command.ensures in
    let kinds = c.in-Err.ensures.kinds (ap is_simple_and_free program ∙ is_free_program) in
    let texts : List (Bor Text) → List Text = map (λ (file : Bor Text). file.now) in
    ap texts c.new-files.ensures.items ∙ no_files words (λ parsed. c.in_default.not-OutOfMemory (c.kind.ensures ∙ only_memory _ words c.in-Err.error program parsed kinds))
