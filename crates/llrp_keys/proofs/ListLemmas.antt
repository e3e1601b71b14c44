-- The answers to a list, a piece after another.
use Rattle.std.proofs.Common.{◌≡◌, ◌∙◌, ℕ, Bool, true, false, List, [], ◌∷◌, ◌++◌, Err, refl, sym, ap, subst, inl, inr, append_assoc}
use Rattle.std.specs.Prelude.{◌||◌}
use Rattle.std.proofs.lemmas.List.{append-nil}
use Rattle.tag_forms.specs.declared.company.Company.{Company}
use Rattle.tag_forms.specs.declared.wanted.Wanted.{Wanted}
use Rattle.tag_forms.specs.Lists.{Answers, IsEnded, longer}
use Rattle.llrp_listing.specs.declared.outcome.ToolErr.{ToolErr}
use Rattle.llrp_listing.specs.declared.outcome.ToolErr.TheVariants.{Listing, Script, Hex, Read, Write, Bound, Memory, Broken, Peer, Strange, Early}
use Rattle.llrp_listing.specs.Calls.Copying.{GivesNone, Writes}
use Rattle.llrp_listing.specs.Encoding.{WasRead}
use Rattle.llrp_stream.specs.Device.{SourceLog, SinkLog, Wrote}
use Rattle.llrp_stream.proofs.WritingLemmas.{wrote_then_failed}
use Rattle.llrp_keys.specs.ListLines.{AnswersList, AreEndedAnswers, AreFirstAnswers}

or_assoc : (a b c : Bool) → ((a || b) || c) ≡ (a || (b || c))
or_assoc true b c = refl
or_assoc false b c = refl

-- the answers to more octets
pub answers_more : (to : Wanted) (filter : ℕ) (company : Company) (line xs ys begun last : List ℕ) (r s : Bool) (a b : List ℕ) → Answers to filter company line xs begun r a → Answers to filter company begun ys last s b
    → Answers to filter company line (xs ++ ys) last (r || s) (a ++ b)
answers_more to filter company line [] ys begun last r s a b (e, f, g) q =
    let here : Answers to filter company line ys last s b = subst (λ (x : List ℕ). Answers to filter company x ys last s b) e q in
    let flag : s ≡ (r || s) = sym (ap (λ (x : Bool). x || s) f) in
    let text : b ≡ a ++ b = sym (ap (λ (x : List ℕ). x ++ b) g) in
    subst (λ (x : Bool). Answers to filter company line ys last x (a ++ b)) flag (subst (λ (x : List ℕ). Answers to filter company line ys last s x) text here)
answers_more to filter company line (x ∷ xs) ys begun last r s a b (inl (feed, first, second, answer, others, is, rest, flag, text)) q =
    inl (
      feed,
      first,
      second || s,
      answer,
      others ++ b,
      is,
      answers_more to filter company [] xs ys begun last second s others b rest q,
      ap (λ (z : Bool). z || s) flag ∙ or_assoc first second s,
      ap (λ (z : List ℕ). z ++ b) text ∙ append_assoc answer (10 ∷ others) b,
    )
answers_more to filter company line (x ∷ xs) ys begun last r s a b (inr (other, rest)) q = inr (other, answers_more to filter company (longer line x) xs ys begun last r s a b rest q)

-- the answers of a list that asks for the same
pub answers_as : (t to : Wanted) (f filter : ℕ) (c company : Company) (line octets begun : List ℕ) (r : Bool) (a : List ℕ) → t ≡ to → f ≡ filter → c ≡ company → Answers t f c line octets begun r a → Answers to filter company line octets begun r a
answers_as t to f filter c company line octets begun r a p q s h =
    let first = subst (λ (x : Wanted). Answers x f c line octets begun r a) p h in
    let second = subst (λ (x : ℕ). Answers to x c line octets begun r a) q first in
    subst (λ (x : Company). Answers to filter x line octets begun r a) s second

pub ended_as : (t to : Wanted) (f filter : ℕ) (c company : Company) (line : List ℕ) (r : Bool) (a : List ℕ) → t ≡ to → f ≡ filter → c ≡ company → IsEnded t f c line r a → IsEnded to filter company line r a
ended_as t to f filter c company line r a p q s h =
    let first = subst (λ (x : Wanted). IsEnded x f c line r a) p h in
    let second = subst (λ (x : ℕ). IsEnded to x c line r a) q first in
    subst (λ (x : Company). IsEnded to filter x line r a) s second

-- all that was read
pub was_read : (r0 r1 : SourceLog) (text : List ℕ) → WasRead r0 r1 text → WasRead r0 r1 (text ++ [])
was_read r0 r1 text h = subst (λ (x : List ℕ). WasRead r0 r1 x) (sym (append-nil text)) h

-- no piece came
pub none_read : (to : Wanted) (filter : ℕ) (company : Company) (r0 r1 : SourceLog) (w0 w1 : SinkLog) (text lines : List ℕ) (e : ToolErr) → GivesNone r0 r1 text e → AreEndedAnswers to filter company text lines → Wrote w0 w1 lines
    → AnswersList to filter company r0 r1 w0 w1 (Err e)
none_read to filter company r0 r1 w0 w1 text lines e (inl none) ended wrote = rw none.0 (none.1, text, lines, none.2, ended, wrote)
none_read to filter company r0 r1 w0 w1 text lines e (inr none) ended wrote = rw none.0 (text, lines, none.1, ended, wrote)

-- a write of more answers stopped
pub write_stopped : (to : Wanted) (filter : ℕ) (company : Company) (r0 r1 : SourceLog) (w0 w1 w2 : SinkLog) (done more : List ℕ) (e : ToolErr) → AreFirstAnswers to filter company r0 r1 (done ++ more) → Wrote w0 w1 done → Writes more w1 w2 (Err e)
    → AnswersList to filter company r0 r1 w0 w2 (Err e)
write_stopped to filter company r0 r1 w0 w1 w2 done more Write first wrote (front, (back, is), failed) =
    (done ++ more, done ++ front, first, (back, ap (λ (x : List ℕ). done ++ x) is ∙ sym (append_assoc done front back)), wrote_then_failed w0 w1 w2 done front wrote failed)
write_stopped to filter company r0 r1 w0 w1 w2 done more Memory first wrote stop = absurd stop.2
write_stopped to filter company r0 r1 w0 w1 w2 done more Read first wrote stop = absurd stop.2
write_stopped to filter company r0 r1 w0 w1 w2 done more Bound first wrote stop = absurd stop.2
write_stopped to filter company r0 r1 w0 w1 w2 done more Hex first wrote stop = absurd stop.2
write_stopped to filter company r0 r1 w0 w1 w2 done more (Listing at reason) first wrote stop = absurd stop.2
write_stopped to filter company r0 r1 w0 w1 w2 done more (Script at) first wrote stop = absurd stop.2
write_stopped to filter company r0 r1 w0 w1 w2 done more Broken first wrote stop = absurd stop.2
write_stopped to filter company r0 r1 w0 w1 w2 done more Early first wrote stop = absurd stop.2
write_stopped to filter company r0 r1 w0 w1 w2 done more (Peer status) first wrote stop = absurd stop.2
write_stopped to filter company r0 r1 w0 w1 w2 done more Strange first wrote stop = absurd stop.2
