use Rattle.std.proofs.Common.{◌≡◌, List, ℕ, Err, true, sym, ◌∙◌, subst, arith}
use Rattle.std.proofs.lemmas.Result.{err_from_is_err_and}
use Rattle.llrp_listing.specs.LineChecks.{is_printed}
use Rattle.llrp_listing.specs.Private.LineReading.{ReadsStart, Starts}
use Rattle.llrp_listing.proofs.LineSays.{printed_utf8, start_bad, count_bad, message_bad, parameter_bad, message_said, parameter_said, message_count}
use Rattle.llrp_listing.proofs.parse_line.read_line.Goals as goal

pub unreachable-requires : goal.unreachable-requires
unreachable-requires c = c.in_default.ensures.cases.0 (printed_utf8 c.args.line.now (sym c.is_printed.ensures ∙ c.if-not-is_printed.false))

pub returns-in_err-start : goal.returns-in_err-start
returns-in_err-start c =
    let p = err_from_is_err_and c.from_residual.result c.from_residual.ensures.1 in
    let printed : is_printed c.args.line.now ≡ true = sym c.is_printed.ensures ∙ c.if-not-is_printed.false in
    let bad : ReadsStart c.args.set c.args.depth c.args.line.now (Err c.in_err-start.field-0.0) = subst (λ (z : List ℕ). ReadsStart c.args.set c.args.depth z (Err c.in_err-start.field-0.0)) c.in-Ok.ensures.cases.0 c.in_err-start.ensures in
    rw (p.1, p.2) (start_bad c.args.depth c.args.line.now c.in_err-start.field-0.0 (omega arith) printed bad)

pub returns-then-count_words-word_count : goal.returns-then-count_words-word_count
returns-then-count_words-word_count c =
    let printed : is_printed c.args.line.now ≡ true = sym c.is_printed.ensures ∙ c.if-not-is_printed.false in
    let s : Starts c.args.set c.args.depth c.args.line.now c.in_ok-start.start = subst (λ (z : List ℕ). Starts c.args.set c.args.depth z c.in_ok-start.start) c.in-Ok.ensures.cases.0 c.in_ok-start.ensures in
    count_bad c.args.depth c.args.line.now c.in_ok-start.start (omega arith) printed s (λ e. c.if-count_words-word_count.true (c.count_words.ensures ∙ e ∙ sym c.word_count.ensures))

pub read_message-requires : goal.read_message-requires
read_message-requires c =
    let s : Starts c.args.set c.args.depth c.args.line.now c.in_ok-start.start = subst (λ (z : List ℕ). Starts c.args.set c.args.depth z c.in_ok-start.start) c.in-Ok.ensures.cases.0 c.in_ok-start.ensures in
    message_count c.args.depth c.args.line.now c.in_ok-start.start s c.in-Message.kind c.in-Message.is (sym c.count_words.ensures ∙ c.if-count_words-word_count.false ∙ c.word_count.ensures)

pub returns-in_err-line-in-Message : goal.returns-in_err-line-in-Message
returns-in_err-line-in-Message c =
    let p = err_from_is_err_and c.from_residual-in_err-line-in-Message.result c.from_residual-in_err-line-in-Message.ensures.1 in
    let printed : is_printed c.args.line.now ≡ true = sym c.is_printed.ensures ∙ c.if-not-is_printed.false in
    let s : Starts c.args.set c.args.depth c.args.line.now c.in_ok-start.start = subst (λ (z : List ℕ). Starts c.args.set c.args.depth z c.in_ok-start.start) c.in-Ok.ensures.cases.0 c.in_ok-start.ensures in
    rw (p.1, p.2) (message_bad c.args.depth c.args.line.now c.in_ok-start.start (omega arith) printed s c.in-Message.kind c.in_err-line-in-Message.field-0.0 c.in-Message.is (sym c.count_words.ensures ∙ c.if-count_words-word_count.false ∙ c.word_count.ensures) c.in_err-line-in-Message.ensures)

pub returns-in_err-line-in-Parameter : goal.returns-in_err-line-in-Parameter
returns-in_err-line-in-Parameter c =
    let p = err_from_is_err_and c.from_residual-in_err-line-in-Parameter.result c.from_residual-in_err-line-in-Parameter.ensures.1 in
    let printed : is_printed c.args.line.now ≡ true = sym c.is_printed.ensures ∙ c.if-not-is_printed.false in
    let s : Starts c.args.set c.args.depth c.args.line.now c.in_ok-start.start = subst (λ (z : List ℕ). Starts c.args.set c.args.depth z c.in_ok-start.start) c.in-Ok.ensures.cases.0 c.in_ok-start.ensures in
    rw (p.1, p.2) (parameter_bad c.args.depth c.args.line.now c.in_ok-start.start (omega arith) printed s c.in-Parameter.kind c.in_ok-start.start.level c.in_err-line-in-Parameter.field-0.0 c.in-Parameter.is (sym c.count_words.ensures ∙ c.if-count_words-word_count.false ∙ c.word_count.ensures) c.in_err-line-in-Parameter.ensures)

pub returns-in_ok-line-in-Message : goal.returns-in_ok-line-in-Message
returns-in_ok-line-in-Message c =
    let printed : is_printed c.args.line.now ≡ true = sym c.is_printed.ensures ∙ c.if-not-is_printed.false in
    let s : Starts c.args.set c.args.depth c.args.line.now c.in_ok-start.start = subst (λ (z : List ℕ). Starts c.args.set c.args.depth z c.in_ok-start.start) c.in-Ok.ensures.cases.0 c.in_ok-start.ensures in
    message_said c.args.depth c.args.line.now c.in_ok-start.start (omega arith) printed s c.in-Message.kind c.in_ok-line-in-Message.line c.in-Message.is c.in_ok-line-in-Message.ensures

pub returns-in_ok-line-in-Parameter : goal.returns-in_ok-line-in-Parameter
returns-in_ok-line-in-Parameter c =
    let printed : is_printed c.args.line.now ≡ true = sym c.is_printed.ensures ∙ c.if-not-is_printed.false in
    let s : Starts c.args.set c.args.depth c.args.line.now c.in_ok-start.start = subst (λ (z : List ℕ). Starts c.args.set c.args.depth z c.in_ok-start.start) c.in-Ok.ensures.cases.0 c.in_ok-start.ensures in
    parameter_said c.args.depth c.args.line.now c.in_ok-start.start (omega arith) printed s c.in-Parameter.kind c.in_ok-line-in-Parameter.line c.in-Parameter.is c.in_ok-line-in-Parameter.ensures
