use Rattle.std.proofs.Common.{◌≡◌, ◌++◌, ◌∙◌, Bool, Ok, true, false, List, ℕ, ap, subst}
use Rattle.std.proofs.lemmas.Result.{err_from_is_err_and}
use Rattle.llrp_endpoints.specs.Calls.GatheringStands.{FeedsFrom, further, phase_left}
use Rattle.llrp_endpoints.specs.Watching.{IsTold}
use Rattle.llrp_endpoints.proofs.WatchLemmas.{stands_anew, turn_closed, turn_failed, turn_goes, turn_hurries, turn_hurry_fails, turn_untold, turn_unwritten, went}
use Rattle.llrp_endpoints.proofs.watching.take_turn.Goals as goal

pub returns-in_err-hand_on-clause-takes : goal.returns-in_err-hand_on-clause-takes
returns-in_err-hand_on-clause-takes g c = λ b rest opened.
    let p = err_from_is_err_and c.from_residual.result c.from_residual.ensures.1 in
    rw (p.1, p.2) (turn_unwritten b rest c.args.piece.now _ _ _ _ _ _ _ c.feed-fed.new.out.items c.turn-told.result c.in_err-hand_on.field-0.0 c.turn-told.ensures c.in_err-hand_on.ensures.written)

pub returns-in_err-late-clause-takes : goal.returns-in_err-late-clause-takes
returns-in_err-late-clause-takes g c = λ b rest opened.
    let p = err_from_is_err_and c.from_residual-in_err-late.result c.from_residual-in_err-late.ensures.1 in
    rw (p.1, p.2) (turn_untold b rest c.args.piece.now c.as_slice.result.now _ _ _ _ c.in_err-late.field-0.0 c.in_err-late.ensures)

pub returns-in_err-closed-clause-takes : goal.returns-in_err-closed-clause-takes
returns-in_err-closed-clause-takes g c = λ b rest opened.
    let p = err_from_is_err_and c.from_residual-in_err-closed.result c.from_residual-in_err-closed.ensures.1 in
    let told = subst (λ (x : List ℕ). IsTold (g.V.Watcher.has c.args.watcher.now) (g.V.Watcher.has c.turn-told.new.self) c.args.piece.now x (Ok c.in_ok-late.late)) c.as_slice.ensures.value c.in_ok-late.ensures in
    rw (p.1, p.2)
    (turn_failed b rest c.args.piece.now c.in_ok-late.late c.feed-fed.new.self _ _ _ _ c.args.out.now.items c.feed-fed.new.out.items c.args.lines.now.items c.feed-fed.new.report.items c.in_err-closed.field-0.0 c.requires.no_frames c.requires.no_lines
    (c.in_err-closed.ensures.feeds_from b rest rest b.course opened) told c.in_ok-hand_on.ensures.written)

pub returns-then-closed-clause-takes : goal.returns-then-closed-clause-takes
returns-then-closed-clause-takes g c = λ b rest opened.
    let told = subst (λ (x : List ℕ). IsTold (g.V.Watcher.has c.args.watcher.now) (g.V.Watcher.has c.turn-told.new.self) c.args.piece.now x (Ok c.in_ok-late.late)) c.as_slice.ensures.value c.in_ok-late.ensures in
    let fed =
    subst (λ (x : Bool). FeedsFrom b (rest ++ c.args.piece.now) b.course c.feed-fed.new.self c.args.out.now.items c.feed-fed.new.out.items c.args.lines.now.items c.feed-fed.new.report.items (Ok x)) c.if-closed.true (c.in_ok-closed.ensures.feeds_from b rest rest b.course opened) in
    turn_closed b rest c.args.piece.now c.in_ok-late.late c.feed-fed.new.self _ _ _ _ c.args.out.now.items c.feed-fed.new.out.items c.args.lines.now.items c.feed-fed.new.report.items c.requires.no_frames c.requires.no_lines fed told c.in_ok-hand_on.ensures.written

pub returns-then-not-late-clause-takes : goal.returns-then-not-late-clause-takes
returns-then-not-late-clause-takes g c = λ b rest opened.
    let piece = c.args.piece.now in
    let new = c.feed-fed.new.self in
    let o1 = c.feed-fed.new.out.items in
    let l1 = c.feed-fed.new.report.items in
    let early : c.in_ok-late.late ≡ false = cc (c.if-not-late.true) in
    let told = subst (λ (x : Bool). IsTold (g.V.Watcher.has c.args.watcher.now) (g.V.Watcher.has c.turn-told.new.self) piece l1 (Ok x)) early
    (subst (λ (x : List ℕ). IsTold (g.V.Watcher.has c.args.watcher.now) (g.V.Watcher.has c.turn-told.new.self) piece x (Ok c.in_ok-late.late)) c.as_slice.ensures.value c.in_ok-late.ensures) in
    let fed = subst (λ (x : Bool). FeedsFrom b (rest ++ piece) b.course new c.args.out.now.items o1 c.args.lines.now.items l1 (Ok x)) c.if-closed.false (c.in_ok-closed.ensures.feeds_from b rest rest b.course opened) in
    let phase = c.in_ok-closed.ensures.phase opened.phase ∙ ap (λ (x : Bool). phase_left (Ok x)) c.if-closed.false in
    turn_goes b rest piece new _ _ _ _ o1 l1 (went b rest piece new c.args.out.now.items o1 c.args.lines.now.items l1 c.requires.no_frames c.requires.no_lines fed) phase told c.in_ok-hand_on.ensures.written

pub returns-in_err-hurry_on-clause-takes : goal.returns-in_err-hurry_on-clause-takes
returns-in_err-hurry_on-clause-takes g c = λ b rest opened.
    let p = err_from_is_err_and c.from_residual-in_err-hurry_on.result c.from_residual-in_err-hurry_on.ensures.1 in
    let piece = c.args.piece.now in
    let new = c.feed-fed.new.self in
    let o1 = c.feed-fed.new.out.items in
    let l1 = c.feed-fed.new.report.items in
    let late : c.in_ok-late.late ≡ true = cc (c.if-not-late.false) in
    let told = subst (λ (x : Bool). IsTold (g.V.Watcher.has c.args.watcher.now) (g.V.Watcher.has c.turn-told.new.self) piece l1 (Ok x)) late
    (subst (λ (x : List ℕ). IsTold (g.V.Watcher.has c.args.watcher.now) (g.V.Watcher.has c.turn-told.new.self) piece x (Ok c.in_ok-late.late)) c.as_slice.ensures.value c.in_ok-late.ensures) in
    let fed = subst (λ (x : Bool). FeedsFrom b (rest ++ piece) b.course new c.args.out.now.items o1 c.args.lines.now.items l1 (Ok x)) c.if-closed.false (c.in_ok-closed.ensures.feeds_from b rest rest b.course opened) in
    let phase = c.in_ok-closed.ensures.phase opened.phase ∙ ap (λ (x : Bool). phase_left (Ok x)) c.if-closed.false in
    let f = went b rest piece new c.args.out.now.items o1 c.args.lines.now.items l1 c.requires.no_frames c.requires.no_lines fed in
    let h = c.in_err-hurry_on.ensures.hurries (further b f.course) f.next (stands_anew b (rest ++ piece) f.next f.course new f.stands phase) in
    rw (p.1, p.2) (turn_hurry_fails b rest piece new c.hurry_on.new.gathering _ _ _ _ _ o1 l1 c.in_err-hurry_on.field-0.0 f told c.in_ok-hand_on.ensures.written h)

pub returns-clause-takes : goal.returns-clause-takes
returns-clause-takes g c = λ b rest opened.
    let piece = c.args.piece.now in
    let new = c.feed-fed.new.self in
    let o1 = c.feed-fed.new.out.items in
    let l1 = c.feed-fed.new.report.items in
    let late : c.in_ok-late.late ≡ true = cc (c.if-not-late.false) in
    let told = subst (λ (x : Bool). IsTold (g.V.Watcher.has c.args.watcher.now) (g.V.Watcher.has c.turn-told.new.self) piece l1 (Ok x)) late
    (subst (λ (x : List ℕ). IsTold (g.V.Watcher.has c.args.watcher.now) (g.V.Watcher.has c.turn-told.new.self) piece x (Ok c.in_ok-late.late)) c.as_slice.ensures.value c.in_ok-late.ensures) in
    let fed = subst (λ (x : Bool). FeedsFrom b (rest ++ piece) b.course new c.args.out.now.items o1 c.args.lines.now.items l1 (Ok x)) c.if-closed.false (c.in_ok-closed.ensures.feeds_from b rest rest b.course opened) in
    let phase = c.in_ok-closed.ensures.phase opened.phase ∙ ap (λ (x : Bool). phase_left (Ok x)) c.if-closed.false in
    let f = went b rest piece new c.args.out.now.items o1 c.args.lines.now.items l1 c.requires.no_frames c.requires.no_lines fed in
    let h = c.in_ok-hurry_on.ensures.hurries (further b f.course) f.next (stands_anew b (rest ++ piece) f.next f.course new f.stands phase) in
    turn_hurries b rest piece new c.hurry_on.new.gathering _ _ _ _ _ o1 l1 c.in_ok-hurry_on.field-0 f told c.in_ok-hand_on.ensures.written h
