use Rattle.std.proofs.Common.{◌++◌, ◌∷◌, List, ℕ, None, subst, sym, inl, inr, refl}
use Rattle.tag_uri.specs.TagText.{IsTextOf}
use Rattle.llrp_labels.proofs.LineLemmas.{ends_in, no_last}
use Rattle.llrp_labels.proofs.plain.push_unkeyed.Goals as goal

pub returns-in_default : goal.returns-in_default
returns-in_default c = (
  c.args.line.now,
  (
    c.args.line.now,
    None,
    c.requires,
    inr ((λ front word h. no_last c.args.line.now front h.text c.in_default.ensures h.last), (λ on front last h uri. no_last c.args.line.now front last c.in_default.ensures h), refl, refl),
  ),
  c.in_ok-extend_from_slice.ensures.items,
)

pub returns : goal.returns
returns c =
    let word = c.in-Some-word_of.word in
    let text = c.as_str.result.now in
    let here = ends_in c.args.labels.schemes c.args.line.now c.in-Some.front.now c.in-Some.last.now word c.in-Some.ensures c.in-Some-word_of.ensures.0 c.in-Some-word_of.ensures.1 in
    let is : IsTextOf word text = subst (λ (t : List ℕ). IsTextOf word t) (sym c.as_str.ensures.value) c.text_of_word.ensures in (
      c.in-Some.front.now ++ 32 ∷ text,
      (c.args.line.now, None, c.requires, inl (c.in-Some.front.now, text, word, here, tt, is, refl)),
      c.in_ok-push_ending.ensures,
    )
