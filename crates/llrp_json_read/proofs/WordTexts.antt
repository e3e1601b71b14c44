-- Arrays of words.
use Rattle.std.proofs.Common.{◌≡◌, ℕ, ◌+◌, ◌-◌, ◌*◌, ◌^◌, ◌<◌, ◌≤◌, List, [], ◌∷◌, ◌++◌, length, Some, refl, sym, ap, subst, ◌∙◌, arith, decimal, length-append}
use Rattle.json.specs.Find.{as_number}
use Rattle.json.specs.Json.{Json, null, boolean, number, string, array, object, Items, no_items, item}
use Rattle.llrp_tree.specs.Lawful.{AreOctets}
use Rattle.llrp_tree.specs.Tree.{words_of}
use Rattle.llrp_json_read.specs.ObjectSays.{numbers}
use Rattle.llrp_json_read.specs.Private.Words.{AppendsNumber, IsNoNumber, SaysWords, numbers_before}
use Rattle.llrp_listing.proofs.TailWords.{AreSmall, words_small}

pub number_is : (j : Json) (text : List ℕ) → as_number j ≡ Some text → j ≡ number text
number_is null text e = absurd cc
number_is (boolean b) text e = absurd cc
number_is (number s) text e = let same : s ≡ text = cc in ap (λ (t : List ℕ). number t) same
number_is (string s) text e = absurd cc
number_is (array js) text e = absurd cc
number_is (object ms) text e = absurd cc

-- as many octets as make words
abbrev pub IsEven : List ℕ → Type 0
IsEven octets = (n : ℕ) × (length octets ≡ 2 * n)

before_more : (octets : List ℕ) (high low : ℕ) (rest : Items) → IsEven octets → numbers_before (words_of (octets ++ (high ∷ low ∷ []))) rest ≡ numbers_before (words_of octets) (item (number (decimal (256 * high + low))) rest)
before_more [] high low rest e = refl
before_more (a ∷ []) high low rest e = absurd (omega (arith, e.1))
before_more (a ∷ b ∷ octets) high low rest e = ap (λ (js : Items). item (number (decimal (256 * a + b))) js) (before_more octets high low rest (e.0 - 1, omega (arith, e.1)))

octets_more : (octets : List ℕ) (high low : ℕ) → AreOctets octets → high < 256 → low < 256 → AreOctets (octets ++ (high ∷ low ∷ []))
octets_more [] high low h p q = (p, (q, tt))
octets_more (b ∷ octets) high low h p q = (h.0, octets_more octets high low h.1 p q)

none_before : (ws : List ℕ) → numbers_before ws no_items ≡ numbers ws
none_before [] = refl
none_before (w ∷ ws) = ap (λ (js : Items). item (number (decimal w)) js) (none_before ws)

-- Words were read of an array's values, and the rest is left.
pub record WordsRead (values : Items) (octets : List ℕ) (rest : Items) : Type 0 where
  pub octets_are : AreOctets octets
  pub even : IsEven octets
  pub said : values ≡ numbers_before (words_of octets) rest

pub none_read : (values : Items) → WordsRead values [] values
none_read values = record { octets_are = tt; even = (0, refl); said = refl }

-- one word more is read
pub one_more : (values rest after : Items) (octets new : List ℕ) (j : Json) → WordsRead values octets rest → rest ≡ item j after → AppendsNumber j octets new → WordsRead values new after
one_more values rest after octets new j r split a =
    let is : j ≡ number (decimal (256 * a.high + a.low)) = number_is j (decimal (256 * a.high + a.low)) a.word in
    record {
      octets_are = subst AreOctets (sym a.more) (octets_more octets a.high a.low r.octets_are a.high_octet a.low_octet);
      even = (r.even.0 + 1, omega (arith, r.even.1, ap length a.more, length-append octets (a.high ∷ a.low ∷ [])));
      said = r.said ∙ ap (λ (js : Items). numbers_before (words_of octets) js) (split ∙ ap (λ (x : Json). item x after) is) ∙ sym (before_more octets a.high a.low after r.even) ∙ ap (λ (os : List ℕ). numbers_before (words_of os) after) (sym a.more);
    }

-- all words are read
pub all_read : (values : Items) (octets : List ℕ) → WordsRead values octets no_items → SaysWords values octets
all_read values octets r = ((r.octets_are, r.even), r.said ∙ none_before (words_of octets))

one_of : (ns front : List ℕ) (rest : Items) (j : Json) → AreSmall ns → numbers ns ≡ numbers_before front (item j rest) → (n : ℕ) × (n < 2 ^ 16) × (j ≡ number (decimal n))
one_of [] [] rest j h e = cc
one_of [] (x ∷ front) rest j h e = cc
one_of (n ∷ ns) [] rest j h e = (n, h.0, (let t : number (decimal n) ≡ j = cc in sym t))
one_of (n ∷ ns) (x ∷ front) rest j h e = let t : numbers ns ≡ numbers_before front (item j rest) = cc in one_of ns front rest j h.1 t

-- an array with a value that is no word is no tail's
pub word_refused : (values rest after : Items) (octets : List ℕ) (j : Json) → WordsRead values octets rest → rest ≡ item j after → IsNoNumber j → (tail : List ℕ) → SaysWords values tail → ⊥
word_refused values rest after octets j r split bad tail is =
    let o = one_of (words_of tail) (words_of octets) after j (words_small tail is.0.0) (sym is.1 ∙ r.said ∙ ap (λ (js : Items). numbers_before (words_of octets) js) split) in
    bad o.0 o.1 (ap as_number o.2)

-- a value that is the text of no number of 16 bits
pub no_word : (j : Json) (text : List ℕ) → as_number j ≡ Some text → ((n : ℕ) → n ≤ 65535 → text ≡ decimal n → ⊥) → IsNoNumber j
no_word j text is bad n lt e = let t : Some text ≡ Some (decimal n) = sym is ∙ e in let same : text ≡ decimal n = cc in bad n (omega arith) same
