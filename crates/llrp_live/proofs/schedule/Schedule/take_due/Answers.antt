use Rattle.std.proofs.Common.{sym, ap, subst, ◌∙◌, ◌≡◌, ◌<◌, List, Option, length}
use Rattle.llrp_live.specs.declared.lines.Line.{Line}
use Rattle.llrp_live.specs.Calls.Schedules.{again_of, before_first}
use Rattle.llrp_live.specs.Private.Schedules.{with_at}
use Rattle.llrp_live.proofs.ScheduleLemmas.{one_line_at, taken_due, within}
use Rattle.llrp_live.proofs.schedule.Schedule.take_due.Goals as goal

pub line_at-line-requires : goal.line_at-line-requires
line_at-line-requires c =
    let is : c.as_slice.result.now ≡ c.args.self.now = c.as_slice.ensures.value ∙ c.self.view_is in
    let place = c.place_of-place.ensures ∙ ap (λ (x : List Line). before_first c.args.stage c.in_ok-moment.moment x) is in
    let same : c.as_slice-2.result.now ≡ c.args.self.now = c.as_slice-2.ensures.value ∙ c.self.view_is in
    subst (λ (x : List Line). c.place_of-place.result < length x) (sym same) (within c.args.stage c.in_ok-moment.moment c.place_of-place.result c.args.self.now c.next_moment.result c.next_moment.ensures c.in_ok-moment.was place)

pub line_at-requires : goal.line_at-requires
line_at-requires c =
    let is : c.as_slice.result.now ≡ c.args.self.now = c.as_slice.ensures.value ∙ c.self.view_is in
    let place = c.place_of-place.ensures ∙ ap (λ (x : List Line). before_first c.args.stage c.in_ok-moment.moment x) is in
    let same : c.as_slice-3.result.now ≡ c.args.self.now = c.as_slice-3.ensures.value ∙ c.self.view_is in
    subst (λ (x : List Line). c.place_of-place.result < length x) (sym same) (within c.args.stage c.in_ok-moment.moment c.place_of-place.result c.args.self.now c.next_moment.result c.next_moment.ensures c.in_ok-moment.was place)

pub put-requires : goal.put-requires
put-requires c =
    let is : c.as_slice.result.now ≡ c.args.self.now = c.as_slice.ensures.value ∙ c.self.view_is in
    within c.args.stage c.in_ok-moment.moment c.place_of-place.result c.args.self.now c.next_moment.result c.next_moment.ensures c.in_ok-moment.was
    (c.place_of-place.ensures ∙ ap (λ (x : List Line). before_first c.args.stage c.in_ok-moment.moment x) is)

pub returns-clause-taken : goal.returns-clause-taken
returns-clause-taken c =
    let old = c.args.self.now in
    let is : c.as_slice.result.now ≡ old = c.as_slice.ensures.value ∙ c.self.view_is in
    let place = c.place_of-place.ensures ∙ ap (λ (x : List Line). before_first c.args.stage c.in_ok-moment.moment x) is in
    let lt = within c.args.stage c.in_ok-moment.moment c.place_of-place.result old c.next_moment.result c.next_moment.ensures c.in_ok-moment.was place in
    let first = rw (c.as_slice-2.ensures.value ∙ c.self.view_is) at c.line_at-line.ensures in
    let second = rw (c.as_slice-3.ensures.value ∙ c.self.view_is) at c.line_at.ensures in
    let same : c.line_at.result ≡ c.line_at-line.result = one_line_at old c.place_of-place.result c.line_at.result c.line_at-line.result lt second first in
    taken_due c.args.now c.args.stage old _ c.in_ok-moment.moment c.place_of-place.result c.line_at-line.result (sym c.next_moment.ensures ∙ c.in_ok-moment.was) c.if-moment-now.false place first
    (c.put.ensures ∙ ap (λ (o : Option Line). with_at old c.place_of-place.result o) (c.again_of-again.ensures ∙ ap again_of same))
