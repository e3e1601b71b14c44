use Rattle.std.proofs.Common.{◌≡◌, ◌∙◌, Bool, codes, false, inl, inr, None, Option, refl, Some, sym, true, ℕ}
use Rattle.clap.specs.Words.{Text}
use Rattle.llrp_words.specs.Calls.Arguments.{command_in, word_in}
use Rattle.llrp_words.specs.Calls.Asked.{elsewhere, encode, epc, explain, fields, nothing, show, Encode, Epc, Explain, Fields, Show}
use Rattle.llrp_words.proofs.AskedLemmas.{nothing_asked}
use Rattle.llrp_commands.proofs.EpcLemmas.{ran_plain}
use Rattle.llrp_commands.proofs.FormerLemmas.{apart, elsewhere_asked, encode_alone, encode_asked, encode_labelled, epc_asked, epc_file_asked, explain_asked, fields_asked, runs_as, show_alone, show_asked, captured_or, show_labelled, show_named}
use Rattle.llrp_commands.proofs.laws.each_command_runs.Goals as goal

-- show with these arguments
abbrev shown : (hex all json : Bool) → ℕ → Option Text → Bool → Option Text → Bool → Option Text → Show
shown hex all json limit names keys schemes segments port = record { hex = hex; all = all; json = json; limit = limit; names = names; keys = keys; schemes = schemes; segments = segments; port = port }

abbrev encoded : (hex all json : Bool) → ℕ → Bool → Option Text → Encode
encoded hex all json limit keys schemes = record { hex = hex; all = all; json = json; limit = limit; keys = keys; schemes = schemes }

pub returns-clause-show : goal.returns-clause-show
returns-clause-show c = λ words r0 r1 w0 w1 e0 e1 answer runs hex all json limit asks unnamed marks uncut.
    let s = shown hex all json limit None false None false None in
    elim (runs_as words (show s) r0 r1 w0 w1 e0 e1 answer (show_asked words s asks unnamed marks uncut) runs) [ inl none ↦ inl none | inr does ↦ inr (show_alone s r0 r1 w0 w1 e0 e1 answer refl refl refl does) ]

pub returns-clause-names : goal.returns-clause-names
returns-clause-names c = λ words r0 r1 w0 w1 e0 e1 answer runs hex all json limit word asks named marks uncut.
    let s = shown hex all json limit (Some word) false None false None in
    elim (runs_as words (show s) r0 r1 w0 w1 e0 e1 answer (show_asked words s asks named marks uncut) runs) [ inl none ↦ inl none | inr does ↦ inr (show_named s word r0 r1 w0 w1 e0 e1 answer refl refl refl does) ]

pub returns-clause-segments : goal.returns-clause-segments
returns-clause-segments c = λ words r0 r1 w0 w1 e0 e1 answer runs captures hex all json segments limit port asks marks cut on.
    let s = shown hex all json limit (word_in (codes "names") (command_in words)) false None segments port in
    let is = show_asked words s asks refl marks cut in
    elim (runs_as words (show s) r0 r1 w0 w1 e0 e1 answer is runs) [ inl none ↦ inl none | inr does ↦ captured_or s r0 r1 w0 w1 e0 e1 answer refl on does (λ n m. captures s n is m) ]

pub returns-clause-labels_shown : goal.returns-clause-labels_shown
returns-clause-labels_shown c = λ words r0 r1 w0 w1 e0 e1 answer runs hex all json keys segments limit schemes port asks marks cut on.
    let s = shown hex all json limit (word_in (codes "names") (command_in words)) keys schemes segments port in
    elim (runs_as words (show s) r0 r1 w0 w1 e0 e1 answer (show_asked words s asks refl marks cut) runs) [ inl none ↦ inl none | inr does ↦ inr (show_labelled s r0 r1 w0 w1 e0 e1 answer on does) ]

pub returns-clause-encode : goal.returns-clause-encode
returns-clause-encode c = λ words r0 r1 w0 w1 e0 e1 answer runs hex all json limit asks marks.
    let s = encoded hex all json limit false None in
    elim (runs_as words (encode s) r0 r1 w0 w1 e0 e1 answer (encode_asked words s asks marks) runs) [ inl none ↦ inl none | inr does ↦ inr (encode_alone s r0 r1 w0 w1 e0 e1 answer refl does) ]

pub returns-clause-labels_encoded : goal.returns-clause-labels_encoded
returns-clause-labels_encoded c = λ words r0 r1 w0 w1 e0 e1 answer runs hex all json keys limit schemes asks marks on.
    let s = encoded hex all json limit keys schemes in
    elim (runs_as words (encode s) r0 r1 w0 w1 e0 e1 answer (encode_asked words s asks marks) runs) [ inl none ↦ inl none | inr does ↦ inr (encode_labelled s r0 r1 w0 w1 e0 e1 answer on does) ]

pub returns-clause-options : goal.returns-clause-options
returns-clause-options c = λ words r0 r1 w0 w1 e0 e1 answer runs text to schemes forms list json count filter asks.
    let s : Epc = record { text = text; forms = forms; list = list; json = json; to = to; schemes = schemes; count = count; filter = filter; file = None } in
    runs_as words (epc s) r0 r1 w0 w1 e0 e1 answer (epc_asked words s asks) runs

pub returns-clause-epc : goal.returns-clause-epc
returns-clause-epc c = λ words r0 r1 w0 w1 e0 e1 answer runs text asks.
    let s : Epc = record { text = Some text; forms = false; list = false; json = false; to = None; schemes = None; count = None; filter = None; file = None } in
    ran_plain text r0 r1 w0 w1 e0 e1 answer (runs_as words (epc s) r0 r1 w0 w1 e0 e1 answer (epc_asked words s asks) runs)

pub returns-clause-file : goal.returns-clause-file
returns-clause-file c = λ words r0 r1 w0 w1 e0 e1 answer runs file asks.
    let there = epc_file_asked words file asks in
    runs_as words (epc (record there.0 { file = Some file })) r0 r1 w0 w1 e0 e1 answer there.1 runs

pub returns-clause-fields : goal.returns-clause-fields
returns-clause-fields c = λ words r0 r1 w0 w1 e0 e1 answer runs all name asks.
    let s : Fields = record { all = all; name = name } in
    runs_as words (fields s) r0 r1 w0 w1 e0 e1 answer (fields_asked words s asks) runs

pub returns-clause-explain : goal.returns-clause-explain
returns-clause-explain c = λ words r0 r1 w0 w1 e0 e1 answer runs hex all json only limit asks.
    let s : Explain = record { hex = hex; all = all; json = json; limit = limit; only = only } in
    runs_as words (explain s) r0 r1 w0 w1 e0 e1 answer (explain_asked words s asks) runs

pub returns-clause-refused : goal.returns-clause-refused
returns-clause-refused c = λ words r0 r1 w0 w1 e0 e1 answer runs refused.
    let none = nothing_asked words (λ parsed. let bad : true ≡ false = sym parsed ∙ refused in apart bad) in
    elim (runs_as words nothing r0 r1 w0 w1 e0 e1 answer (sym none) runs) [ inl none ↦ none.unread | inr does ↦ does.0 ]

pub returns-clause-elsewhere : goal.returns-clause-elsewhere
returns-clause-elsewhere c = λ words r0 r1 w0 w1 e0 e1 answer runs asks. runs_as words elsewhere r0 r1 w0 w1 e0 e1 answer (elsewhere_asked words asks) runs
