-- Of each text one thing is printed.
use Rattle.std.proofs.Common.{◌≡◌, ℕ, List, ◌++◌, refl, sym, ap, ◌∙◌, subst, inl, inr}
use Rattle.tag_epc.proofs.OneFault.{lawful_or_fault, one_word_fault}
use Rattle.tag_uri.specs.Hexadecimal.{hexadecimal}
use Rattle.tag_uri.proofs.HexadecimalLemmas.{one_number}
use Rattle.tag_uri.proofs.TextLaws.{one_fault, text_or_fault, texts_same, words_apart}
use Rattle.llrp_listing.specs.declared.outcome.Verdict.{Verdict}
use Rattle.llrp_listing.specs.declared.outcome.Verdict.TheVariants.{Lawful, Faulty}
use Rattle.llrp_listing.specs.Calls.EpcLines.{AreDigitsOf, AreWordLines, IsRemark, IsTextLine, Prints, line, refusal_line, remark_line}

one_word : (text : List ℕ) (v w : ℕ) → AreDigitsOf text v → AreDigitsOf text w → v ≡ w
one_word text v w p q = one_number v w p.below q.below (sym p.raised ∙ q.raised)

one_remark : (word : ℕ) (a b : List ℕ) → IsRemark word a → IsRemark word b → a ≡ b
one_remark word a b (inl p) (inl q) = p.1 ∙ sym q.1
one_remark word a b (inl p) (inr q) = absurd (lawful_or_fault word q.0 p.0 q.1)
one_remark word a b (inr p) (inl q) = absurd (lawful_or_fault word p.0 q.0 p.1)
one_remark word a b (inr p) (inr q) = p.2 ∙ ap remark_line (one_word_fault word p.0 q.0 p.1 q.1) ∙ sym q.2

same_lines : (word : ℕ) (a b : List ℕ) → AreWordLines word a → AreWordLines word b → a ≡ b
same_lines word a b p q =
    let text = texts_same word p.text q.text p.text_is q.text_is in
    let remark = one_remark word p.remark q.remark p.remark_is q.remark_is in
    p.joined ∙ ap (λ (t : List ℕ). line t ++ p.remark) text ∙ ap (λ (r : List ℕ). line q.text ++ r) remark ∙ sym q.joined

one_text_verdict : (text a b : List ℕ) (v w : Verdict) → IsTextLine text v a → IsTextLine text w b → v ≡ w
one_text_verdict text a b Lawful Lawful p q = refl
one_text_verdict text a b Lawful Faulty p q = absurd (text_or_fault p.0 text q.0 p.1 p.2 q.1)
one_text_verdict text a b Faulty Lawful p q = absurd (text_or_fault q.0 text p.0 q.1 q.2 p.1)
one_text_verdict text a b Faulty Faulty p q = refl

one_text_line : (text a b : List ℕ) (v w : Verdict) → IsTextLine text v a → IsTextLine text w b → a ≡ b
one_text_line text a b Lawful Lawful p q = p.3 ∙ ap (λ (n : ℕ). line (hexadecimal 24 n)) (words_apart p.0 q.0 text p.1 q.1 p.2 q.2) ∙ sym q.3
one_text_line text a b Lawful Faulty p q = absurd (text_or_fault p.0 text q.0 p.1 p.2 q.1)
one_text_line text a b Faulty Lawful p q = absurd (text_or_fault q.0 text p.0 q.1 q.2 p.1)
one_text_line text a b Faulty Faulty p q = p.2 ∙ ap refusal_line (one_fault text p.0 q.0 p.1 q.1) ∙ sym q.2

pub one_verdict : (text a b : List ℕ) (v w : Verdict) → Prints text v a → Prints text w b → v ≡ w
one_verdict text a b v w (inl p) (inl q) = p.2 ∙ sym q.2
one_verdict text a b v w (inl p) (inr q) = absurd (q.0 p.0 p.1)
one_verdict text a b v w (inr p) (inl q) = absurd (p.0 q.0 q.1)
one_verdict text a b v w (inr p) (inr q) = one_text_verdict text a b v w p.1 q.1

pub one_answer : (text a b : List ℕ) (v w : Verdict) → Prints text v a → Prints text w b → a ≡ b
one_answer text a b v w (inl p) (inl q) = same_lines p.0 a b p.3 (subst (λ (n : ℕ). AreWordLines n b) (one_word text q.0 p.0 q.1 p.1) q.3)
one_answer text a b v w (inl p) (inr q) = absurd (q.0 p.0 p.1)
one_answer text a b v w (inr p) (inl q) = absurd (p.0 q.0 q.1)
one_answer text a b v w (inr p) (inr q) = one_text_line text a b v w p.1 q.1
