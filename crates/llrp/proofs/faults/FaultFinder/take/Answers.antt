use Rattle.std.proofs.Common.{◌≡◌, ◌++◌, ◌∙◌, [], List, ℕ, refl, sym, ap, subst, take, drop, append_assoc}
use Rattle.std.proofs.lemmas.List.{append-nil, take-append-drop}
use Rattle.llrp.specs.Calls.Refusals.{Hears}
use Rattle.llrp.specs.declared.faults.FaultFinder.{FaultFinder}
use Rattle.llrp.proofs.RefusalLemmas.{hears_failure, hears_item, hears_no_more, hears_nothing, hears_rest, hears_then, nothing_left}
use Rattle.llrp.proofs.faults.FaultFinder.take.Goals as goal

pub loop-self-init : goal.loop-self-init
loop-self-init c = record { done = []; parts = refl; went = hears_nothing c.args.self.now }

pub returns-in-Err : goal.returns-in-Err
returns-in-Err c =
    let so = c.loop-self.invariant in
    let after : FaultFinder = record c.loop-self.self { decoder = c.feed.new.self } in
    subst (λ (x : List ℕ). Hears x c.args.self.now after) (sym so.parts) (hears_then c.args.self.now c.loop-self.self after so.done c.loop-self.rest.now so.went
    (hears_failure c.loop-self.self c.feed.new.self c.loop-self.rest.now c.in-Err.ensures.limit c.in-Err.field-0 c.in-Err.ensures.stands_in (λ b. (c.in-Err.ensures.broken b).1) (λ d. (c.in-Err.ensures.dead d).1)))

pub returns-in_default : goal.returns-in_default
returns-in_default c =
    let so = c.loop-self.invariant in
    let after : FaultFinder = record c.loop-self.self { decoder = c.feed.new.self } in
    subst (λ (x : List ℕ). Hears x c.args.self.now after) (sym so.parts) (hears_then c.args.self.now c.loop-self.self after so.done c.loop-self.rest.now so.went
    (hears_rest c.loop-self.self c.feed.new.self c.loop-self.rest.now c.in-Ok.ensures.limit c.in-Ok.fed.used c.in-Ok.fed.item c.in_default.is c.in-Ok.ensures.stands_in c.in-Ok.ensures.broken c.in-Ok.ensures.dead))

pub loop-self-preserved : goal.loop-self-preserved
loop-self-preserved c =
    let so = c.loop-self.invariant in
    let rest = c.loop-self.rest.now in
    let used = c.in-Ok.fed.used in
    record {
      done = so.done ++ take used rest;
      parts = so.parts ∙ ap (λ (x : List ℕ). so.done ++ x) (sym (take-append-drop used rest)) ∙ sym (append_assoc so.done (take used rest) (drop used rest)) ∙ ap (λ (x : List ℕ). (so.done ++ take used rest) ++ x) (sym c.split_at.ensures.back);
      went = hears_then c.args.self.now c.loop-self.self _ so.done (take used rest) so.went
          (hears_item c.loop-self.self c.feed.new.self rest c.in-Ok.ensures.limit used c.in-Ok.fed.item c.in-Some.item _ (λ h. sym (c.listens.ensures.refused h) ∙ c.if-listens.true) c.in-Some.is c.in-Ok.ensures.stands_in c.in-Ok.ensures.broken c.in-Ok.ensures.dead c.hear.ensures.decoder c.hear.ensures.heeds c.hear.ensures.refused);
    }

pub returns-else-listens : goal.returns-else-listens
returns-else-listens c =
    let so = c.loop-self.invariant in
    subst (λ (x : List ℕ). Hears x c.args.self.now c.loop-self.self) (sym so.parts) (hears_then c.args.self.now c.loop-self.self c.loop-self.self so.done c.loop-self.rest.now so.went
    (hears_no_more c.loop-self.rest.now c.loop-self.self (λ h. sym (c.listens.ensures.refused h) ∙ c.if-listens.false)))

pub returns-after-loop-self : goal.returns-after-loop-self
returns-after-loop-self c =
    let so = c.loop-self.invariant in
    let none = nothing_left c.loop-self.rest.now c.loop-self-test.ensures in
    let whole : c.args.piece.now ≡ so.done = so.parts ∙ ap (λ (x : List ℕ). so.done ++ x) none ∙ append-nil so.done in
    subst (λ (x : List ℕ). Hears x c.args.self.now c.loop-self.self) (sym whole) so.went
