use Rattle.std.proofs.Common.{◌≡◌, ◌++◌, ◌∷◌, ◌∙◌, [], true, false, Bool, List, ℕ, Ok, refl, sym, ap, subst, take, drop, append_assoc}
use Rattle.std.specs.Prelude.{Option, Some, None}
use Rattle.std.proofs.lemmas.List.{append-nil, take-append-drop}
use Rattle.std.proofs.lemmas.Result.{err_from_is_err_and}
use Rattle.llrp_stream.specs.declared.item.Item.{Item}
use Rattle.llrp_stream.specs.Feeding.{TakesIn}
use Rattle.llrp_endpoints.specs.Gathering.{follow, taken}
use Rattle.llrp_listing.specs.Calls.Fault.{error_by}
use Rattle.llrp_endpoints.specs.Private.GatheringStands.{Does}
use Rattle.llrp_endpoints.specs.Calls.GatheringStands.{FailsFrom, FeedsFrom}
use Rattle.llrp_endpoints.proofs.GatheringFeeds.{went_nowhere, piece_kept, decoder_fails, item_fails, item_closes, item_goes, holds_fed, all_done, nothing_left}
use Rattle.llrp_endpoints.proofs.gathering.Gathering.take_all.Goals as goal

pub loop-rest-init : goal.loop-rest-init
loop-rest-init c = record {
  done = [];
  parts = refl;
  went = λ b bytes rest d s. went_nowhere b bytes rest d c.args.self.now c.args.out.now.items c.args.report.now.items s;
}

pub returns-in-Err : goal.returns-in-Err
returns-in-Err c = λ b bytes rest d s.
    let so = c.loop-rest.invariant in
    let w = so.went b bytes rest d s in
    let o0 = c.args.out.now.items in
    let r0 = c.args.report.now.items in
    let o1 = c.loop-rest.out.items in
    let r1 = c.loop-rest.report.items in
    rw c.error_of.ensures
    (subst (λ (x : List ℕ). FailsFrom b x d o0 o1 r0 r1 (error_by c.in-Err.error)) (all_done bytes c.args.piece.now so.done c.loop-rest.rest.now so.parts)
    (decoder_fails b (bytes ++ so.done) c.loop-rest.rest.now d c.loop-rest.self c.feed.new.self c.in-Err.error o0 o1 r0 r1 w (c.in-Err.ensures.stands_in b.hearing.set w.0 w.2.decoder)))

pub returns-in_default : goal.returns-in_default
returns-in_default c = λ b bytes rest d s.
    let so = c.loop-rest.invariant in
    let w = so.went b bytes rest d s in
    let o0 = c.args.out.now.items in
    let r0 = c.args.report.now.items in
    let o1 = c.loop-rest.out.items in
    let r1 = c.loop-rest.report.items in
    let rest_is = c.loop-rest.rest.now in
    let takes : TakesIn b.hearing.set c.loop-rest.self.decoder.limit w.0 rest_is c.feed.new.self c.in-Ok.fed.used None =
    subst (λ (i : Option Item). TakesIn b.hearing.set c.loop-rest.self.decoder.limit w.0 rest_is c.feed.new.self c.in-Ok.fed.used i) c.in_default.is (c.in-Ok.ensures.stands_in b.hearing.set w.0 w.2.decoder) in
    subst (λ (x : List ℕ). FeedsFrom b x d (record c.loop-rest.self { decoder = c.feed.new.self }) o0 o1 r0 r1 (Ok false)) (all_done bytes c.args.piece.now so.done rest_is so.parts)
    (piece_kept b (bytes ++ so.done) rest_is d c.loop-rest.self c.feed.new.self c.in-Ok.fed.used o0 o1 r0 r1 w c.in-Ok.ensures.limit takes)

pub returns-in_err-closed : goal.returns-in_err-closed
returns-in_err-closed c = λ b bytes rest d s.
    let p = err_from_is_err_and c.from_residual.result c.from_residual.ensures.1 in
    let so = c.loop-rest.invariant in
    let w = so.went b bytes rest d s in
    let rest_is = c.loop-rest.rest.now in
    let takes : TakesIn b.hearing.set c.loop-rest.self.decoder.limit w.0 rest_is c.feed.new.self c.in-Ok.fed.used (Some c.in-Some.item) =
    subst (λ (i : Option Item). TakesIn b.hearing.set c.loop-rest.self.decoder.limit w.0 rest_is c.feed.new.self c.in-Ok.fed.used i) c.in-Some.is (c.in-Ok.ensures.stands_in b.hearing.set w.0 w.2.decoder) in
    let o0 = c.args.out.now.items in
    let r0 = c.args.report.now.items in
    let stops = c.in_err-closed.ensures.does w.1 (holds_fed w.1 c.loop-rest.self c.feed.new.self w.2.holds) w.2.open_is in
    rw (p.1, p.2)
    (subst (λ (x : List ℕ). FailsFrom b x d o0 c.take.new.out.items r0 c.take.new.report.items c.in_err-closed.field-0.0) (all_done bytes c.args.piece.now so.done rest_is so.parts)
    (item_fails b (bytes ++ so.done) rest_is d c.loop-rest.self c.feed.new.self c.in-Ok.fed.used c.in-Some.item c.in_err-closed.field-0.0 o0 c.loop-rest.out.items c.take.new.out.items r0 c.loop-rest.report.items c.take.new.report.items w takes stops))

pub returns-then-closed : goal.returns-then-closed
returns-then-closed c = λ b bytes rest d s.
    let so = c.loop-rest.invariant in
    let w = so.went b bytes rest d s in
    let rest_is = c.loop-rest.rest.now in
    let takes : TakesIn b.hearing.set c.loop-rest.self.decoder.limit w.0 rest_is c.feed.new.self c.in-Ok.fed.used (Some c.in-Some.item) =
    subst (λ (i : Option Item). TakesIn b.hearing.set c.loop-rest.self.decoder.limit w.0 rest_is c.feed.new.self c.in-Ok.fed.used i) c.in-Some.is (c.in-Ok.ensures.stands_in b.hearing.set w.0 w.2.decoder) in
    let o0 = c.args.out.now.items in
    let r0 = c.args.report.now.items in
    let o1 = c.loop-rest.out.items in
    let r1 = c.loop-rest.report.items in
    let does : Does w.1 (follow (taken c.loop-rest.self.hearing (c.in-Some.item ∷ []) w.1) w.1) c.take.new.self o1 c.take.new.out.items r1 c.take.new.report.items (Ok true) =
    subst (λ (b : Bool). Does w.1 (follow (taken c.loop-rest.self.hearing (c.in-Some.item ∷ []) w.1) w.1) c.take.new.self o1 c.take.new.out.items r1 c.take.new.report.items (Ok b)) c.if-closed.true
    (c.in_ok-closed.ensures.does w.1 (holds_fed w.1 c.loop-rest.self c.feed.new.self w.2.holds) w.2.open_is) in
    subst (λ (x : List ℕ). FeedsFrom b x d c.take.new.self o0 c.take.new.out.items r0 c.take.new.report.items (Ok true)) (all_done bytes c.args.piece.now so.done rest_is so.parts)
    (item_closes b (bytes ++ so.done) rest_is d c.loop-rest.self c.take.new.self c.feed.new.self c.in-Ok.fed.used c.in-Some.item o0 o1 c.take.new.out.items r0 r1 c.take.new.report.items w takes does)

pub loop-rest-preserved : goal.loop-rest-preserved
loop-rest-preserved c =
    let so = c.loop-rest.invariant in
    let rest_is = c.loop-rest.rest.now in
    let used = c.in-Ok.fed.used in
    record {
      done = so.done ++ take used rest_is;
      parts = so.parts ∙ ap (λ (x : List ℕ). so.done ++ x) (sym (take-append-drop used rest_is)) ∙ sym (append_assoc so.done (take used rest_is) (drop used rest_is)) ∙ ap (λ (x : List ℕ). (so.done ++ take used rest_is) ++ x) (sym c.split_at.ensures.back);
      went = λ b bytes rest d s.
          let w = so.went b bytes rest d s in
          let takes : TakesIn b.hearing.set c.loop-rest.self.decoder.limit w.0 rest_is c.feed.new.self used (Some c.in-Some.item) =
          subst (λ (i : Option Item). TakesIn b.hearing.set c.loop-rest.self.decoder.limit w.0 rest_is c.feed.new.self used i) c.in-Some.is (c.in-Ok.ensures.stands_in b.hearing.set w.0 w.2.decoder) in
          let o0 = c.args.out.now.items in
          let r0 = c.args.report.now.items in
          let o1 = c.loop-rest.out.items in
          let r1 = c.loop-rest.report.items in
          let does : Does w.1 (follow (taken c.loop-rest.self.hearing (c.in-Some.item ∷ []) w.1) w.1) c.take.new.self o1 c.take.new.out.items r1 c.take.new.report.items (Ok false) =
          subst (λ (b : Bool). Does w.1 (follow (taken c.loop-rest.self.hearing (c.in-Some.item ∷ []) w.1) w.1) c.take.new.self o1 c.take.new.out.items r1 c.take.new.report.items (Ok b)) c.if-closed.false
          (c.in_ok-closed.ensures.does w.1 (holds_fed w.1 c.loop-rest.self c.feed.new.self w.2.holds) w.2.open_is) in
          subst (λ (x : List ℕ). FeedsFrom b x d c.take.new.self o0 c.take.new.out.items r0 c.take.new.report.items (Ok false)) (append_assoc bytes so.done (take used rest_is))
          (item_goes b (bytes ++ so.done) rest_is d c.loop-rest.self c.take.new.self c.feed.new.self used c.in-Some.item o0 o1 c.take.new.out.items r0 r1 c.take.new.report.items w c.in-Ok.ensures.limit takes c.in_ok-closed.ensures.others.decoder c.in_ok-closed.ensures.others.hearing does);
    }

pub returns : goal.returns
returns c = λ b bytes rest d s.
    let so = c.loop-rest.invariant in
    let none = nothing_left c.loop-rest.rest.now c.loop-rest-test.ensures in
    let whole : c.args.piece.now ≡ so.done = so.parts ∙ ap (λ (x : List ℕ). so.done ++ x) none ∙ append-nil so.done in
    subst (λ (x : List ℕ). FeedsFrom b (bytes ++ x) d c.loop-rest.self c.args.out.now.items c.loop-rest.out.items c.args.report.now.items c.loop-rest.report.items (Ok false)) (sym whole) (so.went b bytes rest d s)
