use Rattle.std.proofs.Common.{◌≡◌, ◌+◌, ℕ, drop, length, sym, ap, ◌∙◌, subst, arith}
use Rattle.std.specs.Str.{IsCharBoundary}
use Rattle.tag_scheme_keys.proofs.TagLaws.{after_dot, dot_behind}
use Rattle.tag_scheme_keys.proofs.IdLaws.{tag_front, others, front_long, at_dot, others_short}
use Rattle.tag_scheme_keys.proofs.write_id_uri.without_filter.Goals as goal

pub range_from-requires : goal.range_from-requires
range_from-requires c =
    let b = after_dot c.args.tag.now (tag_front c.args.epc) (others c.args.epc) (at_dot c.args.epc c.args.tag.now c.requires.tag) c.utf8.tag in
    let here : length (tag_front c.args.epc) + 1 ≡ length c.name.result.now + 15 = front_long c.args.epc ∙ ap (λ (n : ℕ). n + 15) (ap length (sym c.name.ensures)) in
    λ some. subst (IsCharBoundary c.args.tag.now) here b

pub returns-clause-joined : goal.returns-clause-joined
returns-clause-joined c =
    let here : length c.name.result.now + 15 ≡ length (tag_front c.args.epc) + 1 = ap (λ (n : ℕ). n + 15) (ap length c.name.ensures) ∙ sym (front_long c.args.epc) in
    c.range_from.ensures.value ∙ ap (λ (n : ℕ). drop n c.args.tag.now) here ∙ dot_behind c.args.tag.now (tag_front c.args.epc) (others c.args.epc) (at_dot c.args.epc c.args.tag.now c.requires.tag)

pub returns-clause-short : goal.returns-clause-short
returns-clause-short c =
    let here : length c.name.result.now + 15 ≡ length (tag_front c.args.epc) + 1 = ap (λ (n : ℕ). n + 15) (ap length c.name.ensures) ∙ sym (front_long c.args.epc) in
    let joined = c.range_from.ensures.value ∙ ap (λ (n : ℕ). drop n c.args.tag.now) here ∙ dot_behind c.args.tag.now (tag_front c.args.epc) (others c.args.epc) (at_dot c.args.epc c.args.tag.now c.requires.tag) in
    let long = ap length joined in
    omega (arith, long, others_short c.args.epc c.requires.lawful)
