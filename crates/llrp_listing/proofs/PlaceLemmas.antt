-- Text by place in lent room.
use Rattle.std.proofs.Common.{◌≡◌, ℕ, ◌+◌, ◌-◌, ◌≤◌, List, [], ◌++◌, length, take, drop, sym, ap, ◌∙◌, arith, append_assoc, length-append, length-drop, subst}
use lib.Seq.{paste}
use Rattle.std.proofs.lemmas.List.{append-nil, drop-take, length-take-le, take_at, take-take}
use Rattle.std.proofs.lemmas.List.Edits.{take-paste}
use Rattle.std.proofs.Math.Seq.{take-append-add}
use Rattle.tag_uri.specs.Room.{HasText}
use Rattle.llrp_listing.specs.Private.Place.{Puts}

-- ---- texts

-- one text after another
pub two_puts : {at p q : ℕ} {old mid new s t : List ℕ} → Puts old mid at p s → Puts mid new p q t → Puts old new at q (s ++ t)
two_puts {at} {p} {q} {old} {mid} {new} {s} {t} a b = record {
  ends = omega (arith, a.ends, b.ends, length-append s t);
  upto = b.upto ∙ ap (λ (x : List ℕ). x ++ t) a.upto ∙ append_assoc (take at old) s t;
}

-- the same text, said otherwise
pub puts_same : {at end : ℕ} {old new s t : List ℕ} → Puts old new at end s → s ≡ t → Puts old new at end t
puts_same {at} {end} {old} {new} {s} {t} a e = subst (λ (x : List ℕ). Puts old new at end x) e a

-- only the first octets of the text are of interest
pub puts_first : (at end count : ℕ) (old new s t : List ℕ) → at ≤ length old → count ≤ length s → Puts old new at end s → take count s ≡ t → Puts old new at (at + count) t
puts_first at end count old new s t within few a e =
    let front : List ℕ = take at old in
    let long : length front ≡ at = length-take-le at old within in
    let place : at + count ≡ length front + count = omega (arith, long) in
    let less : at + count ≤ end = omega (arith, a.ends) in
    let is : take (at + count) new ≡ front ++ take count s = sym (take-take (at + count) end new less) ∙ ap (λ (x : List ℕ). take (at + count) x) a.upto ∙ ap (λ (i : ℕ). take i (front ++ s)) place ∙ take-append-add front s count in
    let counted : length (take count s) ≡ count = length-take-le count s few in
    record { ends = ap (λ (n : ℕ). at + n) (sym counted ∙ ap (λ (x : List ℕ). length x) e); upto = is ∙ ap (λ (x : List ℕ). front ++ x) e }

-- a text that leaves what follows as it was
pub puts_text : (at end : ℕ) (old new text : List ℕ) → at ≤ length old → HasText old new at end text → Puts old new at end text
puts_text at end old new text within h =
    let front : List ℕ = take at old ++ text in
    let long : length front ≡ end = omega (arith, length-append (take at old) text, length-take-le at old within, h.ends) in
    record { ends = h.ends; upto = ap (λ (x : List ℕ). take end x) (h.octets ∙ sym (append_assoc (take at old) text (drop end old))) ∙ take_at front (drop end old) end long }

-- no text
pub none_put : (room : List ℕ) (at : ℕ) → Puts room room at at []
none_put room at = record { ends = omega arith; upto = sym (append-nil (take at room)) }

-- four texts in a row, of which three have two parts
pub four_parts : (a b s c d e : List ℕ) → ((a ++ (b ++ s)) ++ (c ++ s)) ++ (d ++ e) ≡ a ++ (b ++ (s ++ (c ++ (s ++ (d ++ e)))))
four_parts a b s c d e = simp append_assoc

-- what is up to a place, after its front was written over by what follows
pub moved_front : (count end : ℕ) (xs : List ℕ) → count ≤ end → end ≤ length xs → take (end - count) (paste xs 0 (drop count xs) (end - count)) ≡ drop count (take end xs)
moved_front count end xs le within =
    let left : ℕ = end - count in
    let long : left ≤ length (drop count xs) = omega (arith, length-drop count xs) in
    let whole : count + left ≡ end = omega arith in
    let same : left ≡ 0 + left = omega arith in
    ap (λ (k : ℕ). take k (paste xs 0 (drop count xs) left)) same ∙ take-paste xs 0 (drop count xs) left (omega arith) long ∙ sym (drop-take count left xs) ∙ ap (λ (k : ℕ). drop count (take k xs)) whole

-- the same, where it is copied to a front that it does not reach
pub moved_apart : (from end : ℕ) (xs front back new : List ℕ) → from ≤ end → end ≤ length xs → back ≡ drop from xs → new ≡ take (end - from) back → take (end - from) ((new ++ drop (end - from) front) ++ back) ≡ drop from (take end xs)
moved_apart from end xs front back new le within b n =
    let left : ℕ = end - from in
    let behind : length back ≡ length xs - from = ap (λ (x : List ℕ). length x) b ∙ length-drop from xs in
    let long : length new ≡ left = ap (λ (x : List ℕ). length x) n ∙ length-take-le left back (omega (arith, behind)) in
    let whole : from + left ≡ end = omega arith in
    ap (λ (x : List ℕ). take left x) (append_assoc new (drop left front) back) ∙ take_at new (drop left front ++ back) left long ∙ n ∙ ap (λ (x : List ℕ). take left x) b ∙ sym (drop-take from left xs) ∙ ap (λ (k : ℕ). drop from (take k xs)) whole
