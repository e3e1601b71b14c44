use Rattle.std.proofs.Common.{refl, sym, ap, ◌∙◌, inl, inr, Some}
use Rattle.std.proofs.lemmas.Nat.Bits.{shr_and_one}
use Rattle.llrp_listing.proofs.NodeFaults.{count_full, count_more}
use Rattle.llrp_listing.proofs.encode.close_line.count_at.Goals as goal
use Rattle.llrp_listing.proofs.encode.close_line.count_at.Goals.{else-has-via-then-has+else-place, else-has-via-else-has}

pub returns-then-place : goal.returns-then-place
returns-then-place c = λ line child before numbers tail children p f s.
    count_full line before child numbers tail children c.args.place p c.args.fault c.args.seen f s _ (sym (shr_and_one c.args.seen c.args.place.index) ∙ c.if-has.true) c.if-place.true (ap (λ x. Some x) c.too_many.ensures)

pub returns : goal.returns
returns c = λ line child before numbers tail children p f s.
    count_more line before child numbers tail children c.args.place p c.args.fault c.args.seen f s _ c.requires refl (elim c.else-has.branch [
      | else-has-via-then-has+else-place w ↦ inr w.if-place.false
      | else-has-via-else-has w ↦ inl (λ set. w.if-has.false (shr_and_one c.args.seen c.args.place.index ∙ set))
    ])
