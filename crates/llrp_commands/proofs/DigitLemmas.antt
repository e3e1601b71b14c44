-- What digits that come in pieces spell.
use Rattle.std.proofs.Common.{◌≡◌, ℕ, ◌+◌, ◌*◌, ◌<◌, ◌≤◌, List, [], ◌∷◌, ◌++◌, length, take, drop, get_or, Bool, true, false, Option, Some, None, refl, sym, ap, subst, ◌∙◌, append_assoc, arith, drop-cons, length-append}
use Rattle.std.specs.Prelude.{filter, not}
use Rattle.std.proofs.lemmas.List.{append-nil, take-append-drop, take_all, take_more}
use Rattle.std.proofs.lemmas.List.Elements.{filter-append}
use Rattle.std.proofs.lemmas.List.Sums.{count_by-le-length, length-filter}
use Rattle.llrp_listing.specs.Calls.Hexadecimal.{IsHexDigit, SpellBytes, is_space}
use Rattle.llrp_commands.specs.Calls.Digits.{IsNoDigit, Spells, SpellsFront, StopsAt, digits_of}

-- two more digits spell one more octet
spell_more : (digits octets : List ℕ) (first second high low : ℕ) → SpellBytes digits octets → IsHexDigit first high → IsHexDigit second low → SpellBytes (digits ++ first ∷ (second ∷ [])) (octets ++ (16 * high + low) ∷ [])
spell_more [] [] first second high low s h l = (high, low, h, l, refl, tt)
spell_more [] (o ∷ octets) first second high low s h l = absurd s
spell_more (a ∷ []) octets first second high low s h l = absurd s
spell_more (a ∷ (b ∷ digits)) [] first second high low s h l = absurd s
spell_more (a ∷ (b ∷ digits)) (o ∷ octets) first second high low s h l = (s.0, s.1, s.2, s.3, s.4, spell_more digits octets first second high low s.5 h l)

-- ---- the digits of a text with one more octet

left_out : (p : ℕ → Bool) (text : List ℕ) (octet : ℕ) → p octet ≡ false → filter p (text ++ octet ∷ []) ≡ filter p text
left_out p text octet h = filter-append p text (octet ∷ []) ∙ ap (λ (l : List ℕ). filter p text ++ l) (out p octet h) ∙ append-nil (filter p text)
  where
    out : (p : ℕ → Bool) (octet : ℕ) → p octet ≡ false → filter p (octet ∷ []) ≡ []
    out p octet h = rw h refl

kept : (p : ℕ → Bool) (text : List ℕ) (octet : ℕ) → p octet ≡ true → filter p (text ++ octet ∷ []) ≡ filter p text ++ octet ∷ []
kept p text octet h = filter-append p text (octet ∷ []) ∙ ap (λ (l : List ℕ). filter p text ++ l) (one p octet h)
  where
    one : (p : ℕ → Bool) (octet : ℕ) → p octet ≡ true → filter p (octet ∷ []) ≡ octet ∷ []
    one p octet h = rw h refl

same_digits : (text : List ℕ) (octet : ℕ) → is_space octet ≡ true → digits_of (text ++ octet ∷ []) ≡ digits_of text
same_digits text octet h = left_out (λ o. not (is_space o)) text octet (ap not h)

one_digit : (text : List ℕ) (digit : ℕ) → is_space digit ≡ false → digits_of (text ++ digit ∷ []) ≡ digits_of text ++ digit ∷ []
one_digit text digit h = kept (λ o. not (is_space o)) text digit (ap not h)

-- ---- what one more octet spells

pub space_came : (text octets : List ℕ) (half : Option ℕ) (octet : ℕ) → SpellsFront text octets half → is_space octet ≡ true → SpellsFront (text ++ octet ∷ []) octets half
space_came text octets None octet s h = subst (λ (x : List ℕ). SpellBytes x octets) (sym (same_digits text octet h)) s
space_came text octets (Some high) octet s h = (s.0, s.1, same_digits text octet h ∙ s.2, s.3, s.4)

pub first_came : (text octets : List ℕ) (digit value : ℕ) → SpellsFront text octets None → is_space digit ≡ false → IsHexDigit digit value → SpellsFront (text ++ digit ∷ []) octets (Some value)
first_came text octets digit value s h v = (digits_of text, digit, one_digit text digit h, s, v)

pub second_came : (text octets : List ℕ) (high digit value : ℕ) → SpellsFront text octets (Some high) → is_space digit ≡ false → IsHexDigit digit value → SpellsFront (text ++ digit ∷ []) (octets ++ (16 * high + value) ∷ []) None
second_came text octets high digit value s h v =
    let all : digits_of (text ++ digit ∷ []) ≡ s.0 ++ s.1 ∷ (digit ∷ []) = one_digit text digit h ∙ ap (λ (l : List ℕ). l ++ digit ∷ []) s.2 ∙ append_assoc s.0 (s.1 ∷ []) (digit ∷ []) in
    subst (λ (x : List ℕ). SpellBytes x (octets ++ (16 * high + value) ∷ [])) (sym all) (spell_more s.0 octets s.1 digit high value s.3 s.4 v)

-- the second of two digits came, and with it an octet
pub octet_came : (text octets before after : List ℕ) (half now : Option ℕ) (high digit value : ℕ) → half ≡ Some high → now ≡ None → after ≡ before ++ (16 * high + value) ∷ []
    → SpellsFront text (octets ++ before) half → is_space digit ≡ false → IsHexDigit digit value → SpellsFront (text ++ digit ∷ []) (octets ++ after) now
octet_came text octets before after half now high digit value was is more s h v =
    let old : SpellsFront text (octets ++ before) (Some high) = subst (λ (x : Option ℕ). SpellsFront text (octets ++ before) x) was s in
    let all : octets ++ after ≡ (octets ++ before) ++ (16 * high + value) ∷ [] = ap (λ (x : List ℕ). octets ++ x) more ∙ sym (append_assoc octets before ((16 * high + value) ∷ [])) in
    subst (λ (x : Option ℕ). SpellsFront (text ++ digit ∷ []) (octets ++ after) x) (sym is) (subst (λ (x : List ℕ). SpellsFront (text ++ digit ∷ []) x None) (sym all) (second_came text (octets ++ before) high digit value old h v))

-- ---- a piece

-- one more octet of the piece was taken
pub taken_more : (text piece octets : List ℕ) (half : Option ℕ) (i : ℕ) → i < length piece → SpellsFront ((text ++ take i piece) ++ get_or piece i 0 ∷ []) octets half → SpellsFront (text ++ take (i + 1) piece) octets half
taken_more text piece octets half i less s =
    subst (λ (x : List ℕ). SpellsFront x octets half) (append_assoc text (take i piece) (get_or piece i 0 ∷ []) ∙ ap (λ (x : List ℕ). text ++ x) (sym (take_more piece i 0 less))) s

-- the next octet of it is neither digit nor space
pub taken_front : (text piece octets : List ℕ) (half : Option ℕ) (i : ℕ) → i < length piece → SpellsFront (text ++ take i piece) octets half → is_space (get_or piece i 0) ≡ false → IsNoDigit (get_or piece i 0) → Spells (text ++ piece) octets half false
taken_front text piece octets half i less s h n = record {
  front = text ++ take i piece;
  rest = drop i piece;
  whole = ap (λ (x : List ℕ). text ++ x) (sym (take-append-drop i piece)) ∙ sym (append_assoc text (take i piece) (drop i piece));
  spells = s;
  stops = subst (StopsAt false) (sym (drop-cons piece i 0 less)) (h, n);
}

-- all of it was taken
pub taken_all : (text piece octets : List ℕ) (half : Option ℕ) (i : ℕ) → length piece ≤ i → SpellsFront (text ++ take i piece) octets half → Spells (text ++ piece) octets half true
taken_all text piece octets half i all s = record {
  front = text ++ piece;
  rest = [];
  whole = sym (append-nil (text ++ piece));
  spells = subst (λ (x : List ℕ). SpellsFront (text ++ x) octets half) (take_all i piece all) s;
  stops = refl;
}

-- ---- what is spelled

-- where no other octet came, all of the text spells it
pub spelled_all : (text octets : List ℕ) (half : Option ℕ) → Spells text octets half true → SpellsFront text octets half
spelled_all text octets half s = subst (λ (x : List ℕ). SpellsFront x octets half) (sym (s.whole ∙ ap (λ (x : List ℕ). s.front ++ x) s.stops ∙ append-nil s.front)) s.spells

-- what all of a text spells
pub spelled_whole : (text octets : List ℕ) (half : Option ℕ) → SpellsFront text octets half → Spells text octets half true
spelled_whole text octets half s = record { front = text; rest = []; whole = sym (append-nil text); spells = s; stops = refl }

-- two digits an octet
digits_long : (digits octets : List ℕ) → SpellBytes digits octets → length octets ≤ length digits
digits_long [] [] s = omega arith
digits_long [] (o ∷ octets) s = absurd s
digits_long (a ∷ []) octets s = absurd s
digits_long (a ∷ (b ∷ digits)) [] s = absurd s
digits_long (a ∷ (b ∷ digits)) (o ∷ octets) s = (let rest = digits_long digits octets s.5 in omega arith)

digits_fewer : (text : List ℕ) → length (digits_of text) ≤ length text
digits_fewer text =
    let same = length-filter (λ o. not (is_space o)) text in
    let few = count_by-le-length (λ o. not (is_space o)) text in
    omega (arith, same, few)

front_long : (text octets : List ℕ) (half : Option ℕ) → SpellsFront text octets half → length octets ≤ length text
front_long text octets None s =
    let few = digits_long (digits_of text) octets s in
    let less = digits_fewer text in
    omega (arith, few, less)
front_long text octets (Some high) s =
    let few = digits_long s.0 octets s.3 in
    let more = length-append s.0 (s.1 ∷ []) in
    let same = ap (λ (x : List ℕ). length x) s.2 in
    let less = digits_fewer text in
    omega (arith, few, more, same, less)

-- a text has no fewer octets than it spells
pub spelled_long : (text octets : List ℕ) (half : Option ℕ) (right : Bool) → Spells text octets half right → length octets ≤ length text
spelled_long text octets half right s =
    let few = front_long s.front octets half s.spells in
    let all = length-append s.front s.rest in
    let same = ap (λ (x : List ℕ). length x) s.whole in
    omega (arith, few, all, same)
