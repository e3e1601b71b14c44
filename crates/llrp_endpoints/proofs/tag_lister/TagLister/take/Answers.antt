use Rattle.std.proofs.Common.{◌≡◌, ◌++◌, ◌∙◌, [], List, ℕ, refl, sym, ap, subst, take, drop, append_assoc}
use Rattle.std.proofs.lemmas.List.{append-nil, take-append-drop}
use Rattle.llrp_endpoints.specs.Private.TagListing.{TakesOn}
use Rattle.llrp_endpoints.specs.declared.tag_lister.TagLister.{TagLister}
use Rattle.llrp_endpoints.proofs.GatheringFeeds.{nothing_left}
use Rattle.llrp_endpoints.proofs.TagListing.{takes_break, takes_item, takes_nothing, takes_rest, takes_then}
use Rattle.llrp_endpoints.proofs.tag_lister.TagLister.take.Goals as goal

pub loop-rest-init : goal.loop-rest-init
loop-rest-init c = record { done = []; parts = refl; form = refl; went = takes_nothing c.args.self.now c.args.lines.now }

pub returns-in-Err-Broken-clause-takes : goal.returns-in-Err-Broken-clause-takes
returns-in-Err-Broken-clause-takes c =
    let so = c.loop-rest.invariant in
    let after : TagLister = record c.loop-rest.self { decoder = c.feed.new.self } in
    subst (λ (x : List ℕ). TakesOn x c.args.self.now after c.args.lines.now c.loop-rest.lines) (sym so.parts)
    (takes_then c.args.self.now c.loop-rest.self after so.done c.loop-rest.rest.now c.args.lines.now c.loop-rest.lines c.loop-rest.lines so.went
    (takes_break c.loop-rest.self c.feed.new.self c.loop-rest.rest.now c.in-Err-Broken.ensures.limit c.loop-rest.lines (λ p front s. rw c.in-Err-Broken.field-0-is at (c.in-Err-Broken.ensures.stands_in p front s)) (λ b. (c.in-Err-Broken.ensures.broken b).1)))

pub returns-in_default-clause-takes : goal.returns-in_default-clause-takes
returns-in_default-clause-takes c =
    let so = c.loop-rest.invariant in
    let after : TagLister = record c.loop-rest.self { decoder = c.feed.new.self } in
    subst (λ (x : List ℕ). TakesOn x c.args.self.now after c.args.lines.now c.loop-rest.lines) (sym so.parts)
    (takes_then c.args.self.now c.loop-rest.self after so.done c.loop-rest.rest.now c.args.lines.now c.loop-rest.lines c.loop-rest.lines so.went
    (takes_rest c.loop-rest.self c.feed.new.self c.loop-rest.rest.now c.in-Ok.ensures.limit c.in-Ok.fed.used c.in-Ok.fed.item c.loop-rest.lines c.in_default.is c.in-Ok.ensures.stands_in c.in-Ok.ensures.broken))

pub loop-rest-preserved : goal.loop-rest-preserved
loop-rest-preserved c =
    let so = c.loop-rest.invariant in
    let rest = c.loop-rest.rest.now in
    let used = c.in-Ok.fed.used in
    record {
      done = so.done ++ take used rest;
      parts = so.parts ∙ ap (λ (x : List ℕ). so.done ++ x) (sym (take-append-drop used rest)) ∙ sym (append_assoc so.done (take used rest) (drop used rest)) ∙ ap (λ (x : List ℕ). (so.done ++ take used rest) ++ x) (sym c.split_at.ensures.back);
      form = so.form;
      went = takes_then c.args.self.now c.loop-rest.self _ so.done (take used rest) c.args.lines.now c.loop-rest.lines _ so.went
          (takes_item c.loop-rest.self c.feed.new.self rest c.in-Ok.ensures.limit used c.in-Ok.fed.item c.in-Some.item c.loop-rest.lines _ c.in-Some.is c.in-Ok.ensures.stands_in c.in-Ok.ensures.broken c.in_ok-push_item.ensures);
    }

pub returns-clause-takes : goal.returns-clause-takes
returns-clause-takes c =
    let so = c.loop-rest.invariant in
    let none = nothing_left c.loop-rest.rest.now c.loop-rest-test.ensures in
    let whole : c.args.piece.now ≡ so.done = so.parts ∙ ap (λ (x : List ℕ). so.done ++ x) none ∙ append-nil so.done in
    subst (λ (x : List ℕ). TakesOn x c.args.self.now c.loop-rest.self c.args.lines.now c.loop-rest.lines) (sym whole) so.went
