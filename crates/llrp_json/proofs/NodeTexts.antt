-- The text of a node: of its members, of those of its tail, and of its parameters.
use Rattle.std.proofs.Common.{◌≡◌, ℕ, zero, suc, ◌+◌, ◌*◌, Bool, true, false, not, List, [], ◌∷◌, ◌++◌, length, drop, map, Option, Some, None, refl, sym, ap, subst, ◌∙◌, arith, append_assoc}
use Rattle.std.specs.Prelude.{codes, decimal, filter, unwrap_or, if◌then◌else◌, cond}
use Rattle.std.specs.List.{flat_map, join_with_byte}
use Rattle.std.proofs.lemmas.List.{append-nil, map-append}
use Rattle.std.proofs.lemmas.Grind.{flat_map-append}
use Rattle.hex.specs.Hex.{encode_lower, lower_digits}
use Rattle.llrp_schema.specs.declared.kinds.Tail.{Tail}
use Rattle.llrp_schema.specs.declared.kinds.Tail.TheVariants.{Absent, Words, Text, Bits, Data}
use Rattle.llrp_schema.specs.Schema.{FieldRule}
use Rattle.llrp_tree.specs.Tree.{Forest, none, and, words_of}
use Rattle.llrp_tree.specs.OpenTree.{Rest, plain_values, tail_due}
use Rattle.llrp_listing.specs.NodeLine.{field_form}
use Rattle.llrp_listing.proofs.PrintingLemmas.{encode_more, join_first, other_words}
use Rattle.llrp_json.specs.JsonValues.{escaped, inside, member, object}
use Rattle.llrp_json.specs.JsonItems.{AreFields, AreParameters, IsValue, field_name, more_members, parameters_members, tail_members}
use Rattle.llrp_json.specs.Calls.OpenJson.{AreFirstFields, before_one_more, has_any, is_parent, listed, tail_begun, tail_end, whole_of}
use Rattle.llrp_json.specs.Private.OpenJson.{at_end, more_of, words_after}
use Rattle.llrp_listing.proofs.TailLemmas.{words_append}

-- ---- members

pub members_append : (a b : List (List ℕ)) → more_members (a ++ b) ≡ more_members a ++ more_members b
members_append a b = flat_map-append (λ text. 44 ∷ text) a b

-- an object, by its first member
pub object_first : (first : List ℕ) (more : List (List ℕ)) → object (first ∷ more) ≡ (123 ∷ first) ++ (more_members more ++ 125 ∷ [])
object_first first more = ap (λ (x : List ℕ). 123 ∷ (x ++ 125 ∷ [])) (join_first first more) ∙ ap (λ (x : List ℕ). 123 ∷ x) (append_assoc first (more_members more) (125 ∷ []))

-- one field more
pub one_field_more : (rs : List FieldRule) (ns : List ℕ) (ms : List (List ℕ)) (r : FieldRule) (others : List FieldRule) (n : ℕ) (value : List ℕ) → drop (length ns) rs ≡ r ∷ others → AreFirstFields rs ns ms → IsValue (field_form r) n value
    → AreFirstFields rs (ns ++ n ∷ []) (ms ++ member (field_name r) value ∷ [])
one_field_more [] [] ms r others n value e a v = absurd (let z : [] ≡ r ∷ others = e in cc)
one_field_more [] (k ∷ ns) [] r others n value e a v = absurd a
one_field_more [] (k ∷ ns) (m ∷ ms) r others n value e a v = absurd a
one_field_more (s ∷ rs) [] (m ∷ ms) r others n value e a v = absurd a
one_field_more (s ∷ rs) [] [] r others n value e a v =
    let same : s ≡ r = cc in
    ((value, subst (λ (x : FieldRule). IsValue (field_form x) n value) (sym same) v, ap (λ (x : FieldRule). member (field_name x) value) (sym same)), tt)
one_field_more (s ∷ rs) (k ∷ ns) [] r others n value e a v = absurd a
one_field_more (s ∷ rs) (k ∷ ns) (m ∷ ms) r others n value e a v = (a.0, one_field_more rs ns ms r others n value e a.1 v)

pub all_fields : (rs : List FieldRule) (ns : List ℕ) (ms : List (List ℕ)) → AreFirstFields rs ns ms → length ns ≡ length rs → AreFields rs ns ms
all_fields [] [] [] a l = tt
all_fields [] [] (m ∷ ms) a l = absurd a
all_fields [] (n ∷ ns) ms a l = absurd (omega (arith, l))
all_fields (r ∷ rs) [] ms a l = absurd (omega (arith, l))
all_fields (r ∷ rs) (n ∷ ns) [] a l = absurd a
all_fields (r ∷ rs) (n ∷ ns) (m ∷ ms) a l = (a.0, all_fields rs ns ms a.1 (omega (arith, l)))

-- the plain fields that are left, once a plain one is next
pub next_plain : (rs : List FieldRule) (vs : List ℕ) (r : FieldRule) (others : List FieldRule) → drop (length vs) rs ≡ r ∷ others → r.reserved ≡ false
    → drop (length (plain_values rs vs)) (filter (λ field. not field.reserved) rs) ≡ r ∷ filter (λ field. not field.reserved) others
next_plain [] [] r others e f = absurd (let z : [] ≡ r ∷ others = e in cc)
next_plain [] (u ∷ vs) r others e f = absurd (let z : [] ≡ r ∷ others = e in cc)
next_plain (s ∷ rs) [] r others e f =
    let same : s ≡ r = cc in
    let after : rs ≡ others = cc in
    let g : s.reserved ≡ false = ap (λ (x : FieldRule). x.reserved) same ∙ f in
    ap (λ (c : Bool). cond (not c) (s ∷ filter (λ field. not field.reserved) rs) (filter (λ field. not field.reserved) rs)) g
    ∙ ap (λ (x : FieldRule). x ∷ filter (λ field. not field.reserved) rs) same ∙ ap (λ (x : List FieldRule). r ∷ filter (λ field. not field.reserved) x) after
next_plain (s ∷ rs) (u ∷ vs) r others e f =
    let rest = next_plain rs vs r others e f in
    elim s.reserved as (λ b. drop (length (if b then plain_values rs vs else u ∷ plain_values rs vs)) (cond (not b) (s ∷ filter (λ field. not field.reserved) rs) (filter (λ field. not field.reserved) rs)) ≡ r ∷ filter (λ field. not field.reserved) others) [ true ↦ rest | false ↦ rest ]

-- ---- tails

-- the member of a tail is what it begins with and what it ends with
pub tail_text : (form : Tail) (octets : List ℕ) → more_members (tail_members form octets) ≡ tail_begun form octets ++ tail_end form
tail_text Absent octets = refl
tail_text Words octets = append-nil (44 ∷ member (codes "words") (91 ∷ (join_with_byte 44 (map decimal (words_of octets)) ++ 93 ∷ [])))
tail_text Text octets = append-nil (44 ∷ member (codes "text") (34 ∷ (inside octets ++ 34 ∷ [])))
tail_text Bits octets = append-nil (44 ∷ member (codes "bits") (34 ∷ (encode_lower octets ++ 34 ∷ [])))
tail_text Data octets = append-nil (44 ∷ member (codes "octets") (34 ∷ (encode_lower octets ++ 34 ∷ [])))

pub whole_tail : (form : Tail) (tail : Option (List ℕ)) → tail_due form tail ≡ Rest → whole_of form tail ≡ more_members (tail_members form (unwrap_or tail []))
whole_tail Absent None e = refl
whole_tail Words None e = absurd cc
whole_tail Text None e = absurd cc
whole_tail Bits None e = absurd cc
whole_tail Data None e = absurd cc
whole_tail form (Some octets) e = sym (tail_text form octets)

others_append : (a b : List ℕ) (n : ℕ) → length a ≡ 2 * n → other_words (a ++ b) ≡ other_words a ++ other_words b
others_append a b n e =
    ap (λ (ws : List ℕ). flat_map (λ word. 44 ∷ word) (map decimal ws)) (words_append a b n e)
    ∙ ap (λ (ts : List (List ℕ)). flat_map (λ word. 44 ∷ word) ts) (map-append decimal (words_of a) (words_of b))
    ∙ flat_map-append (λ word. 44 ∷ word) (map decimal (words_of a)) (map decimal (words_of b))

-- words after others
more_words : (a b : List ℕ) (n : ℕ) (some : Bool) → length a ≡ 2 * n → some ≡ has_any a → join_with_byte 44 (map decimal (words_of (a ++ b))) ≡ join_with_byte 44 (map decimal (words_of a)) ++ words_after some b
more_words [] b n some l e = ap (λ (s : Bool). words_after s b) (sym e)
more_words (x ∷ []) b n some l e = absurd (omega (arith, l))
more_words (x ∷ y ∷ a) b zero some l e = absurd (omega (arith, l))
more_words (x ∷ y ∷ a) b (suc n) some l e =
    let first : List ℕ = decimal (256 * x + y) in
    join_first first (map decimal (words_of (a ++ b))) ∙ ap (λ (z : List ℕ). first ++ z) (others_append a b n (omega (arith, l)))
    ∙ sym (append_assoc first (other_words a) (other_words b)) ∙ ap (λ (z : List ℕ). z ++ other_words b) (sym (join_first first (map decimal (words_of a))))
    ∙ ap (λ (s : Bool). join_with_byte 44 (map decimal (words_of (x ∷ y ∷ a))) ++ words_after s b) (sym e)

-- octets after others
pub more_octets : (form : Tail) (a b : List ℕ) (some : Bool) → (form ≡ Words → ((n : ℕ) × (length a ≡ 2 * n)) × (some ≡ has_any a)) → tail_begun form (a ++ b) ≡ tail_begun form a ++ more_of form some b
more_octets Absent a b some k = refl
more_octets Words a b some k =
    let known = k refl in
    ap (λ (x : List ℕ). codes ",\"words\":[" ++ x) (more_words a b known.0.0 some known.0.1 known.1) ∙ sym (append_assoc (codes ",\"words\":[") (join_with_byte 44 (map decimal (words_of a))) (words_after some b))
more_octets Text a b some k = ap (λ (x : List ℕ). codes ",\"text\":\"" ++ x) (flat_map-append escaped a b) ∙ sym (append_assoc (codes ",\"text\":\"") (inside a) (inside b))
more_octets Bits a b some k = ap (λ (x : List ℕ). codes ",\"bits\":\"" ++ x) (encode_more lower_digits a b) ∙ sym (append_assoc (codes ",\"bits\":\"") (encode_lower a) (encode_lower b))
more_octets Data a b some k = ap (λ (x : List ℕ). codes ",\"octets\":\"" ++ x) (encode_more lower_digits a b) ∙ sym (append_assoc (codes ",\"octets\":\"") (encode_lower a) (encode_lower b))

-- ---- parameters

join_more : (x : List ℕ) (xs : List (List ℕ)) (one : List ℕ) → join_with_byte 44 (x ∷ (xs ++ one ∷ [])) ≡ join_with_byte 44 (x ∷ xs) ++ (44 ∷ one)
join_more x xs one =
    join_first x (xs ++ one ∷ []) ∙ ap (λ (z : List ℕ). x ++ z) (members_append xs (one ∷ []) ∙ ap (λ (z : List ℕ). more_members xs ++ z) (append-nil (44 ∷ one)))
    ∙ sym (append_assoc x (more_members xs) (44 ∷ one)) ∙ ap (λ (z : List ℕ). z ++ (44 ∷ one)) (sym (join_first x xs))

listed_after : (x : List ℕ) (xs : List (List ℕ)) (one : List ℕ) → listed ((x ∷ xs) ++ one ∷ []) ≡ listed (x ∷ xs) ++ (44 ∷ one)
listed_after x xs one =
    ap (λ (z : List ℕ). codes ",\"parameters\":[" ++ z) (join_more x xs one) ∙ sym (append_assoc (codes ",\"parameters\":[") (join_with_byte 44 (x ∷ xs)) (44 ∷ one))

none_listed : (texts : List (List ℕ)) (one : List ℕ) → texts ≡ [] → listed (texts ++ one ∷ []) ≡ listed texts ++ (before_one_more false ++ one)
none_listed texts one e = subst (λ (x : List (List ℕ)). listed (x ++ one ∷ []) ≡ listed x ++ (before_one_more false ++ one)) (sym e) refl

some_listed : (texts : List (List ℕ)) (earlier : List (List ℕ)) (last one : List ℕ) → texts ≡ earlier ++ last ∷ [] → listed (texts ++ one ∷ []) ≡ listed texts ++ (before_one_more true ++ one)
some_listed texts [] last one e = subst (λ (x : List (List ℕ)). listed (x ++ one ∷ []) ≡ listed x ++ (44 ∷ one)) (sym e) (listed_after last [] one)
some_listed texts (x ∷ xs) last one e = subst (λ (y : List (List ℕ)). listed (y ++ one ∷ []) ≡ listed y ++ (44 ∷ one)) (sym e) (listed_after x (xs ++ last ∷ []) one)

-- one parameter more
pub listed_more : (f : Forest) (texts : List (List ℕ)) (one : List ℕ) → AreParameters f texts → listed (texts ++ one ∷ []) ≡ listed texts ++ (before_one_more (is_parent f) ++ one)
listed_more none texts one a = none_listed texts one a
listed_more (and before kind fields tail children) texts one a = some_listed texts a.0 _ one a.6

none_end : (texts : List (List ℕ)) → texts ≡ [] → more_members (parameters_members texts) ++ 125 ∷ [] ≡ listed texts ++ at_end false
none_end texts e = subst (λ (x : List (List ℕ)). more_members (parameters_members x) ++ 125 ∷ [] ≡ listed x ++ at_end false) (sym e) refl

end_after : (x : List ℕ) (xs : List (List ℕ)) → more_members (parameters_members (x ∷ xs)) ++ 125 ∷ [] ≡ listed (x ∷ xs) ++ at_end true
end_after x xs =
    let all : List ℕ = join_with_byte 44 (x ∷ xs) in
    ap (λ (z : List ℕ). z ++ 125 ∷ []) (append-nil (codes ",\"parameters\":[" ++ (all ++ 93 ∷ [])))
    ∙ append_assoc (codes ",\"parameters\":[") (all ++ 93 ∷ []) (125 ∷ []) ∙ ap (λ (z : List ℕ). codes ",\"parameters\":[" ++ z) (append_assoc all (93 ∷ []) (125 ∷ []))
    ∙ sym (append_assoc (codes ",\"parameters\":[") all (93 ∷ 125 ∷ []))

some_end : (texts : List (List ℕ)) (earlier : List (List ℕ)) (last : List ℕ) → texts ≡ earlier ++ last ∷ [] → more_members (parameters_members texts) ++ 125 ∷ [] ≡ listed texts ++ at_end true
some_end texts [] last e = subst (λ (x : List (List ℕ)). more_members (parameters_members x) ++ 125 ∷ [] ≡ listed x ++ at_end true) (sym e) (end_after last [])
some_end texts (x ∷ xs) last e = subst (λ (y : List (List ℕ)). more_members (parameters_members y) ++ 125 ∷ [] ≡ listed y ++ at_end true) (sym e) (end_after x (xs ++ last ∷ []))

-- what follows the leading parts of a node
pub end_text : (f : Forest) (texts : List (List ℕ)) → AreParameters f texts → more_members (parameters_members texts) ++ 125 ∷ [] ≡ listed texts ++ at_end (is_parent f)
end_text none texts a = none_end texts a
end_text (and before kind fields tail children) texts a = some_end texts a.0 _ a.6
