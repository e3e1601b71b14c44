use Rattle.std.proofs.Common.{◌≡◌, ◌++◌, ◌∷◌, List, ℕ, Some, true, subst, sym, inl, refl}
use Rattle.tag_uri.specs.TagText.{IsTextOf}
use Rattle.llrp_labels.specs.LabelledLines.{IsKeyAmong}
use Rattle.llrp_labels.proofs.LineLemmas.{ends_in, ends_in_none, no_last, one_ending}
use Rattle.llrp_labels.proofs.plain.push_keyed.Goals as goal

pub returns-in_default : goal.returns-in_default
returns-in_default c = λ line b. (c.args.body.now, c.args.key.now, b, λ front word h k. no_last c.args.body.now front h.text c.in_default.ensures h.last)

pub returns-in_default-word_of : goal.returns-in_default-word_of
returns-in_default-word_of c = λ line b. (
  c.args.body.now,
  c.args.key.now,
  b,
  λ front word h k. ends_in_none c.args.labels.schemes c.args.body.now c.in-Some.front.now c.in-Some.last.now front word c.in-Some.ensures c.in_default-word_of.ensures h,
)

pub returns-then-not-is_key : goal.returns-then-not-is_key
returns-then-not-is_key c = λ line b. (
  c.args.body.now,
  c.args.key.now,
  b,
  λ front word h k.
      let here = ends_in c.args.labels.schemes c.args.body.now c.in-Some.front.now c.in-Some.last.now c.in-Some-word_of.word c.in-Some.ensures c.in-Some-word_of.ensures.0 c.in-Some-word_of.ensures.1 in
      let same = one_ending c.args.labels.schemes c.args.body.now front c.in-Some.front.now word c.in-Some-word_of.word h here in
      let yes : c.is_key.result ≡ true = c.is_key.ensures.1 (subst (λ (w : ℕ). IsKeyAmong c.args.labels.schemes w c.args.key.now) same.1 k) in
      let no = c.if-not-is_key.true in
      cc,
)

pub returns : goal.returns
returns c = λ line b.
    let word = c.in-Some-word_of.word in
    let text = c.as_str.result.now in
    let here = ends_in c.args.labels.schemes c.args.body.now c.in-Some.front.now c.in-Some.last.now word c.in-Some.ensures c.in-Some-word_of.ensures.0 c.in-Some-word_of.ensures.1 in
    let is : IsTextOf word text = subst (λ (t : List ℕ). IsTextOf word t) (sym c.as_str.ensures.value) c.text_of_word.ensures in (
      c.in-Some.front.now ++ 32 ∷ text,
      (c.args.body.now, Some c.args.key.now, b, inl (c.in-Some.front.now, text, word, here, c.is_key.ensures.0 c.if-not-is_key.false, is, refl)),
      c.in_ok-push_ending.ensures,
    )
