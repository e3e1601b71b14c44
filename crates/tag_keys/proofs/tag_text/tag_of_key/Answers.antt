use Rattle.std.proofs.Common.{◌++◌, List, ℕ, sym, ap, ◌∙◌, Option}
use Rattle.std.specs.Borrow.{Bor}
use Rattle.tag_keys.specs.KeyFaults.{tag_with}
use Rattle.tag_keys.specs.Private.Pieces.{one_text}
use Rattle.tag_keys.proofs.BuildLemmas.{tag_key, tag_key_serial}
use Rattle.tag_keys.proofs.tag_text.tag_of_key.Goals as goal

pub returns-in-Some : goal.returns-in-Some
returns-in-Some c =
    tag_key_serial c.args.key.now.kind c.args.filter _ _ c.requires.fits c.begin_tag-text.ensures c.push_filter.ensures _ _ _ _ _ _ _ _ _ _
    c.push_str.ensures.bytes c.push_str-2.ensures.bytes c.push_str-3.ensures.bytes c.push_str-4.ensures.bytes c.push_str-in-Some.ensures.bytes c.push_str-in-Some-2.ensures.bytes
    ∙ ap (λ (o : Option (Bor (List ℕ))). tag_with c.args.key.now.kind c.args.filter c.args.key.now.company.now (c.args.key.now.lead.now ++ c.args.key.now.rest.now) (one_text o)) (sym c.in-Some.is)

pub returns-in_default : goal.returns-in_default
returns-in_default c =
    tag_key c.args.key.now.kind c.args.filter _ _ c.requires.fits c.begin_tag-text.ensures c.push_filter.ensures _ _ _ _ _ _ _
    c.push_str.ensures.bytes c.push_str-2.ensures.bytes c.push_str-3.ensures.bytes c.push_str-4.ensures.bytes
    ∙ ap (λ (o : Option (Bor (List ℕ))). tag_with c.args.key.now.kind c.args.filter c.args.key.now.company.now (c.args.key.now.lead.now ++ c.args.key.now.rest.now) (one_text o)) (sym c.in_default.is)
