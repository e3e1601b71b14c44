use Rattle.std.proofs.Common.{◌≡◌, false, Some, ap, subst, arith}
use Rattle.llrp_schema.specs.declared.kinds.Kind.{Kind}
use Rattle.llrp_schema.specs.Schema.{groups_of}
use Rattle.llrp_schema.specs.Calls.Places.{IsPlace}
use Rattle.llrp_schema.specs.Schema.{has_place}
use Rattle.llrp_schema.proofs.PlaceLemmas.{few_groups}
use Rattle.llrp_listing.proofs.NodeFaults.{count_misplaced}
use Rattle.llrp_listing.proofs.encode.close_line.count_child.Goals as goal

pub count_at-requires : goal.count_at-requires
count_at-requires c = let p : IsPlace (groups_of c.args.kind) c.args.child c.in-Some.place = c.in-Some.ensures.some in omega (arith, p.within, few_groups c.args.kind)

pub returns-in-None : goal.returns-in-None
returns-in-None c = λ line before numbers tail children k f s.
    count_misplaced line before c.args.child numbers tail children c.args.fault c.args.seen _ f s (subst (λ (x : Kind). has_place (groups_of x) c.args.child ≡ false) k c.in-None.ensures.none) (ap (λ x. Some x) c.misplaced.ensures)

pub returns-in-Some : goal.returns-in-Some
returns-in-Some c = λ line before numbers tail children k f s.
    c.count_at.ensures line c.args.child before numbers tail children (subst (λ (x : Kind). IsPlace (groups_of x) c.args.child c.in-Some.place) k c.in-Some.ensures.some) f s
