-- What the words of tails say.
use Rattle.std.proofs.Common.{◌≡◌, ℕ, zero, suc, ◌+◌, ◌-◌, ◌*◌, ◌/◌, ◌%◌, ◌^◌, ◌<◌, ◌≤◌, inl, inr, Bool, true, false, cond, List, [], ◌∷◌, ◌++◌, map, length, get_or, Result, Ok, Err, refl, sym, ap, subst, ◌∙◌, arith, decimal, append_assoc, length-append}
use Rattle.std.specs.Prelude.{nat_le, nat_lt, ◌==◌, ◌&&◌, not}
use Rattle.std.specs.Char.{is_ascii_digit}
use Rattle.std.specs.List.{slice_split, join_with_byte}
use Rattle.std.specs.Str.{all_ascii_digits}
use Rattle.std.proofs.lemmas.Bool.{cases_lt, eqb-true}
use Rattle.std.proofs.lemmas.List.Splits.{join_with_byte-slice_split}
use Rattle.hex.specs.Hex.{IsBytes, encode_lower, encode_with, lower_digits, decode_of}
use Rattle.hex.specs.declared.error.FromHexError.{FromHexError}
use Rattle.hex.proofs.HexLemmas.{decode_of-encode_lower}
use Rattle.llrp_tree.specs.Lawful.{AreOctets}
use Rattle.llrp_listing.specs.Calls.Hexadecimal.{IsHexDigit, SpellBytes}
use Rattle.llrp_schema.specs.declared.kinds.Tail.TheVariants.{Words, Text}
use Rattle.llrp_listing.specs.declared.outcome.Refusal.TheVariants as refusal
use Rattle.llrp_listing.specs.declared.parse_line.LineErr.{LineErr}
use Rattle.llrp_listing.specs.declared.parse_line.LineErr.TheVariants.{Refused, Memory}
use Rattle.llrp_listing.specs.Private.LineReading.{AppendsWord, AreDigitsOf, IsNoTail, IsNoWord, IsTailWord, IsWordList, has_capital}
use Rattle.llrp_tree.specs.Tree.{words_of}
use Rattle.llrp_listing.specs.Calls.Splits.{Lacks}
use Rattle.llrp_listing.proofs.DecimalWords.{digits_of}
use Rattle.tag_uri.proofs.UriLemmas.{left, right}
use Rattle.llrp_listing.proofs.HexadecimalLemmas.{spelled_if_ok}
use Rattle.llrp_listing.proofs.WordLemmas.{one_part, first_part}
use Rattle.tag_uri.proofs.ComponentLemmas.{or_false}

-- ---- hexadecimal digits

-- a test of all numbers below a bound
abbrev pub below : (ℕ → Bool) → ℕ → Bool
below test zero = true
below test (suc n) = test n && below test n

pub below-at : (test : ℕ → Bool) (n k : ℕ) → below test n ≡ true → k < n → test k ≡ true
below-at test zero k h lt = absurd (omega arith)
below-at test (suc n) k h lt = elim (cases_lt k n) [
  | inl less ↦ below-at test n k (right _ _ h) less
  | inr ge ↦ let same : k ≡ n = omega arith in rw same (left _ _ h)
]

-- the digit of a value in lower case
glyph : (d : ℕ) → d < 16 → get_or lower_digits d 0 ≡ cond (nat_lt d 10) (48 + d) (87 + d)
glyph d h = eqb-true _ _ (below-at (λ e. get_or lower_digits e 0 == cond (nat_lt e 10) (48 + e) (87 + e)) 16 d refl h)

-- the digit of a value, where it is no capital letter
digit_is : (c n : ℕ) → IsHexDigit c n → (nat_le 65 c && nat_le c 90) ≡ false → (n < 16) × (c ≡ get_or lower_digits n 0)
digit_is c n (inl p) small = let t : nat_lt n 10 ≡ true = (let l = p.0 in grind arith) in (omega (arith, p.0), p.1 ∙ sym (glyph n (omega (arith, p.0)) ∙ rw t refl))
digit_is c n (inr (ten, lt, inl e)) small = absurd (capital c n ten lt e small)
  where
    capital : (c n : ℕ) → 10 ≤ n → n < 16 → c ≡ 55 + n → (nat_le 65 c && nat_le c 90) ≡ false → ⊥
    capital c n ten lt e small = grind arith
digit_is c n (inr (ten, lt, inr e)) small = let t : nat_lt n 10 ≡ false = grind arith in (lt, e ∙ sym (glyph n lt ∙ rw t refl))

-- digits without capital letters are those of their octets in lower case
pub lower_back : (s bytes : List ℕ) → SpellBytes s bytes → has_capital s ≡ false → AreOctets bytes × (s ≡ encode_lower bytes)
unfolding encode_with
lower_back [] [] h low = (tt, refl)
lower_back [] (b ∷ bytes) h low = absurd h
lower_back (a ∷ []) bytes h low = absurd h
lower_back (a ∷ b ∷ rest) [] h low = absurd h
lower_back (a ∷ b ∷ rest) (byte ∷ bytes) (high, low, p, q, sum, more) lower =
    let o1 = or_false _ _ lower in
    let o2 = or_false _ _ o1.1 in
    let x = digit_is a high p o1.0 in
    let y = digit_is b low q o2.0 in
    let t = lower_back rest bytes more o2.1 in
    let h1 : byte / 16 ≡ high = omega (arith, sum, x.0, y.0) in
    let h2 : byte % 16 ≡ low = omega (arith, sum, x.0, y.0) in
    ((omega (arith, sum, x.0, y.0), t.0), rw (h1, h2) (ap (λ (z : List ℕ). a ∷ b ∷ z) t.1 ∙ ap (λ (z : ℕ). z ∷ b ∷ encode_lower bytes) x.1 ∙ ap (λ (z : ℕ). get_or lower_digits high 0 ∷ z ∷ encode_lower bytes) y.1))

no_capital : (n : ℕ) → n < 16 → (nat_le 65 (get_or lower_digits n 0) && nat_le (get_or lower_digits n 0) 90) ≡ false
no_capital n lt = false_from (nat_le 65 (get_or lower_digits n 0) && nat_le (get_or lower_digits n 0) 90) (below-at (λ e. not (nat_le 65 (get_or lower_digits e 0) && nat_le (get_or lower_digits e 0) 90)) 16 n refl lt)
  where
    false_from : (b : Bool) → not b ≡ true → b ≡ false
    false_from true h = cc
    false_from false h = refl

pub low : (bytes : List ℕ) → AreOctets bytes → has_capital (encode_lower bytes) ≡ false
unfolding encode_with
low [] h = refl
low (b ∷ bytes) h =
    let x : (nat_le 65 (get_or lower_digits (b / 16) 0) && nat_le (get_or lower_digits (b / 16) 0) 90) ≡ false = no_capital (b / 16) (omega (arith, h.0)) in
    let y : (nat_le 65 (get_or lower_digits (b % 16) 0) && nat_le (get_or lower_digits (b % 16) 0) 90) ≡ false = no_capital (b % 16) (omega arith) in
    rw (x, y) (low bytes h.1)

pub bytes_fit : (bytes : List ℕ) → AreOctets bytes → IsBytes bytes
bytes_fit [] h k = omega arith
bytes_fit (b ∷ bytes) h zero = h.0
bytes_fit (b ∷ bytes) h (suc k) = bytes_fit bytes h.1 k

-- what was decoded
pub digits_read : (s bytes : List ℕ) → has_capital s ≡ false → decode_of s ≡ Ok bytes → AreDigitsOf s bytes
digits_read s bytes small h = lower_back s bytes (spelled_if_ok s bytes h) small

-- what was not decoded
pub digits_refused : (s : List ℕ) (e : FromHexError) → decode_of s ≡ Err e → (tail : List ℕ) → AreDigitsOf s tail → ⊥
digits_refused s e h tail d = let t : ◌≡◌ {A = Result (List ℕ) FromHexError} (Err e) (Ok tail) = sym h ∙ ap decode_of d.1 ∙ decode_of-encode_lower tail (bytes_fit tail d.0) in cc

pub capital_refused : (s : List ℕ) → has_capital s ≡ true → (tail : List ℕ) → AreDigitsOf s tail → ⊥
capital_refused s h tail d = let t : true ≡ false = sym h ∙ ap has_capital d.1 ∙ low tail d.0 in cc

-- ---- lists of words

-- as many octets as make words
abbrev pub IsEven : List ℕ → Type 0
IsEven octets = (n : ℕ) × (length octets ≡ 2 * n)

words_more : (octets : List ℕ) (high low : ℕ) → IsEven octets → words_of (octets ++ (high ∷ low ∷ [])) ≡ words_of octets ++ ((256 * high + low) ∷ [])
words_more [] high low e = refl
words_more (a ∷ []) high low e = absurd (omega (arith, e.1))
words_more (a ∷ b ∷ octets) high low e = ap (λ (z : List ℕ). (256 * a + b) ∷ z) (words_more octets high low (e.0 - 1, omega (arith, e.1)))

octets_more : (octets : List ℕ) (high low : ℕ) → AreOctets octets → high < 256 → low < 256 → AreOctets (octets ++ (high ∷ low ∷ []))
octets_more [] high low h p q = (p, (q, tt))
octets_more (b ∷ octets) high low h p q = (h.0, octets_more octets high low h.1 p q)

map_more : (ns : List ℕ) (n : ℕ) → map decimal (ns ++ (n ∷ [])) ≡ map decimal ns ++ (decimal n ∷ [])
map_more [] n = refl
map_more (m ∷ ns) n = ap (λ (z : List (List ℕ)). decimal m ∷ z) (map_more ns n)

-- Words were read of a list, and the rest is left.
pub record WordsRead (list octets rest : List ℕ) : Type 0 where
  pub octets_are : AreOctets octets
  pub even : IsEven octets
  pub parts : slice_split (λ b. b == 44) list ≡ map decimal (words_of octets) ++ slice_split (λ b. b == 44) rest

pub none_read : (list : List ℕ) → WordsRead list [] list
none_read list = record { octets_are = tt; even = (0, refl); parts = refl }

-- one word more is read
pub one_more : (list octets rest w after new : List ℕ) → WordsRead list octets rest → slice_split (λ b. b == 44) rest ≡ w ∷ slice_split (λ b. b == 44) after → AppendsWord w octets new → WordsRead list new after
one_more list octets rest w after new r split a =
    let all : map decimal (words_of new) ≡ map decimal (words_of octets) ++ (w ∷ []) =
    ap (λ (z : List ℕ). map decimal (words_of z)) a.more ∙ ap (map decimal) (words_more octets a.high a.low r.even) ∙ map_more (words_of octets) (256 * a.high + a.low) ∙ ap (λ (z : List ℕ). map decimal (words_of octets) ++ (z ∷ [])) (sym a.word) in
    record {
      octets_are = subst AreOctets (sym a.more) (octets_more octets a.high a.low r.octets_are a.high_octet a.low_octet);
      even = (r.even.0 + 1, omega (arith, r.even.1, ap length a.more, length-append octets (a.high ∷ a.low ∷ [])));
      parts = r.parts ∙ ap (λ (z : List (List ℕ)). map decimal (words_of octets) ++ z) split ∙ sym (append_assoc (map decimal (words_of octets)) (w ∷ []) (slice_split (λ b. b == 44) after)) ∙ ap (λ (z : List (List ℕ)). z ++ slice_split (λ b. b == 44) after) (sym all);
    }

-- the last word is read
pub all_read : (list octets rest new : List ℕ) → WordsRead list octets rest → Lacks 44 rest → AppendsWord rest octets new → IsWordList list new
all_read list octets rest new r lacks a =
    let all : map decimal (words_of new) ≡ map decimal (words_of octets) ++ (rest ∷ []) =
    ap (λ (z : List ℕ). map decimal (words_of z)) a.more ∙ ap (map decimal) (words_more octets a.high a.low r.even) ∙ map_more (words_of octets) (256 * a.high + a.low) ∙ ap (λ (z : List ℕ). map decimal (words_of octets) ++ (z ∷ [])) (sym a.word) in
    let parts : slice_split (λ b. b == 44) list ≡ map decimal (words_of new) = r.parts ∙ ap (λ (z : List (List ℕ)). map decimal (words_of octets) ++ z) (one_part 44 rest lacks) ∙ sym all in (
      (
        subst AreOctets (sym a.more) (octets_more octets a.high a.low r.octets_are a.high_octet a.low_octet),
        (r.even.0 + 1, omega (arith, r.even.1, ap length a.more, length-append octets (a.high ∷ a.low ∷ []))),
      ),
      sym (join_with_byte-slice_split 44 list) ∙ ap (join_with_byte 44) parts,
    )

-- numbers of 16 bits
abbrev pub AreSmall : List ℕ → Type 0
AreSmall [] = Unit {0}
AreSmall (n ∷ ns) = (n < 2 ^ 16) × AreSmall ns

pub words_small : (octets : List ℕ) → AreOctets octets → AreSmall (words_of octets)
words_small [] h = tt
words_small (a ∷ []) h = tt
words_small (a ∷ b ∷ octets) h = (omega (arith, h.0, h.1.0), words_small octets h.1.1)

digits_lack : (w : List ℕ) → all_ascii_digits w ≡ true → Lacks 44 w
digits_lack [] h = tt
digits_lack (c ∷ w) h = (no_comma c (left _ _ h), digits_lack w (right _ _ h))
  where
    no_comma : (c : ℕ) → is_ascii_digit c ≡ true → (c == 44) ≡ false
    no_comma c h = grind arith

pub joined_parts : (n : ℕ) (ns : List ℕ) → AreSmall (n ∷ ns) → slice_split (λ b. b == 44) (join_with_byte 44 (map decimal (n ∷ ns))) ≡ map decimal (n ∷ ns)
joined_parts n [] h = one_part 44 (decimal n) (digits_lack (decimal n) (digits_of n (omega (arith, h.0))).digits)
joined_parts n (m ∷ ns) h = first_part 44 (decimal n) (join_with_byte 44 (map decimal (m ∷ ns))) (digits_lack (decimal n) (digits_of n (omega (arith, h.0))).digits) ∙ ap (λ (z : List (List ℕ)). decimal n ∷ z) (joined_parts m ns h.1)

one_of : (ns : List ℕ) (front more : List (List ℕ)) (w : List ℕ) → AreSmall ns → map decimal ns ≡ front ++ (w ∷ more) → (n : ℕ) × (n < 2 ^ 16) × (w ≡ decimal n)
one_of [] [] more w h e = cc
one_of [] (x ∷ front) more w h e = cc
one_of (n ∷ ns) [] more w h e = (n, h.0, (let t : decimal n ≡ w = cc in sym t))
one_of (n ∷ ns) (x ∷ front) more w h e = let t : map decimal ns ≡ front ++ (w ∷ more) = cc in one_of ns front more w h.1 t

-- a list with a word that is none is no tail's
pub word_refused : (list octets rest w : List ℕ) (more : List (List ℕ)) → WordsRead list octets rest → slice_split (λ b. b == 44) rest ≡ w ∷ more → 0 < length list → ((n : ℕ) → n < 2 ^ 16 → w ≡ decimal n → ⊥) → (tail : List ℕ) → IsWordList list tail → ⊥
word_refused list octets rest w more r split some bad tail is = on (words_of tail) (words_small tail is.0.0) is.1
  where
    on : (ns : List ℕ) → AreSmall ns → list ≡ join_with_byte 44 (map decimal ns) → ⊥
    on [] h e = absurd (omega (arith, ap length e))
    on (n ∷ ns) h e =
        let parts : map decimal (n ∷ ns) ≡ map decimal (words_of octets) ++ (w ∷ more) = sym (joined_parts n ns h) ∙ ap (slice_split (λ b. b == 44)) (sym e) ∙ r.parts ∙ ap (λ (z : List (List ℕ)). map decimal (words_of octets) ++ z) split in
        let o = one_of (n ∷ ns) (map decimal (words_of octets)) more w h parts in
        bad o.0 o.1 o.2

-- ---- what stops

-- a word that is none stops a list
pub list_stops : (list octets rest w : List ℕ) (more : List (List ℕ)) (e : LineErr) → WordsRead list octets rest → slice_split (λ b. b == 44) rest ≡ w ∷ more → 0 < length list → IsNoWord w e → IsNoTail (IsWordList list) e
list_stops list octets rest w more Memory r split some bad = tt
list_stops list octets rest w more (Refused reason) r split some bad = (bad.0, word_refused list octets rest w more r split some bad.1)

pub no_letter_w : (w : List ℕ) → ((list : List ℕ) → w ≡ 119 ∷ list → ⊥) → IsNoTail (IsTailWord Words w) (Refused refusal.Tail)
no_letter_w w other = (refl, λ tail t. other (join_with_byte 44 (map decimal (words_of tail))) (sym (ap (λ (z : List (List ℕ)). get_or z 0 []) t.1)))

pub no_letter_x : (w : List ℕ) → ((list : List ℕ) → w ≡ 120 ∷ list → ⊥) → IsNoTail (IsTailWord Text w) (Refused refusal.Tail)
no_letter_x w other = (refl, λ tail t. other (encode_lower tail) (sym (ap (λ (z : List (List ℕ)). get_or z 0 []) t.1)))
