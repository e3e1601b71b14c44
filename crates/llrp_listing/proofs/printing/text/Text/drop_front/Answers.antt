use Rattle.std.proofs.Common.{◌-◌, take, drop, ap, ◌∙◌, rules}
use Rattle.std.proofs.lemmas.List.{with_items_is, places}
use Rattle.llrp_listing.proofs.printing.text.Text.drop_front.Goals as goal

pub returns : goal.returns
returns c =
    let count = c.args.count in
    let end = c.self.inside.end in
    ap (λ xs. take (end - count) xs) (with_items_is c.self.inside.memory c.move_front.new.room (search (rules, places)))
    ∙ c.move_front.ensures.text
    ∙ ap (λ xs. drop count (take end xs)) c.as_mut_slice.ensures.value
    ∙ ap (λ xs. drop count xs) c.self.view_is
