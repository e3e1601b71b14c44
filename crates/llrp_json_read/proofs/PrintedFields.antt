-- The members of fields and tails that a line of a lawful message has, as values: their texts, and what they say.
use Rattle.std.proofs.Common.{◌≡◌, inl, inr, ℕ, negsuc, zero, suc, ◌+◌, ◌-◌, ◌*◌, ◌/◌, ◌%◌, ◌^◌, ◌<◌, ◌≤◌, ◌==◌, Bool, true, false, cond, ◌&&◌, ◌||◌, List, [], ◌∷◌, length, get_or, map, Some, IsUtf8, refl, sym, ap, ap₂, ◌∙◌, subst, arith, decimal}
use Rattle.std.specs.Prelude.{codes, nat_lt, option_and_then}
use Rattle.std.specs.Char.{is_ascii_digit}
use Rattle.std.specs.List.{AllByRecursion, AllZip, list_all}
use Rattle.std.specs.Str.{all_ascii_digits}
use Rattle.std.proofs.lemmas.Bool.{and_parts, eqb-true}
use Rattle.std.proofs.lemmas.Fmt.{IsAscii-decimal}
use Rattle.std.proofs.lemmas.Str.{IsUtf8-append, IsUtf8-from_ascii}
use Rattle.hex.specs.Hex.{encode_lower, encode_with, lower_digits}
use Rattle.json.specs.Find.{as_number, as_str, get}
use Rattle.json.specs.Json.{Json, number, string, array, object}
use Rattle.json.specs.Print.{IsNumber}
use Rattle.json.specs.Tree.{depth, items_depth, HasNumbers, ItemsHaveNumbers}
use Rattle.json.proofs.Printed.Decimals.{IsNumber-decimal, IsNumber-signed_decimal}
use Rattle.json.proofs.Printed.Utf8.{IsUtf8-are_ascii, are_ascii}
use Rattle.tag_uri.proofs.UriLemmas.{word_text_utf8}
use Rattle.llrp_schema.specs.declared.kinds.Kind.{Kind}
use Rattle.llrp_schema.specs.declared.kinds.Tail.{Tail}
use Rattle.llrp_schema.specs.declared.kinds.Tail.TheVariants.{Absent, Words, Text, Bits, Data}
use Rattle.llrp_schema.specs.Schema.{FieldRule, name_of, fields_of, message_kinds, message_rule, param_kinds, param_rule, plain_fields_of, rule_of, whole_message_kinds, whole_param_kinds}
use Rattle.llrp_schema.proofs.TableLaws.{every_rule}
use Rattle.llrp_tree.specs.Lawful.{AreInRange, AreOctets, IsTail}
use Rattle.llrp_tree.specs.Tree.{words_of}
use Rattle.llrp_listing.specs.NodeLine.{NumberForm, Version, Id, Unsigned, Signed, Epc, field_form, signed_text}
use Rattle.llrp_listing.specs.LineChecks.{IsInForm}
use Rattle.llrp_listing.proofs.DecimalWords.{digits_of}
use Rattle.llrp_listing.proofs.NumberWords.{sides, signed_negative, signed_positive}
use Rattle.llrp_json.specs.JsonItems.{AreFields, IsValue, field_name, tail_members}
use Rattle.llrp_json.specs.JsonValues as written
use Rattle.llrp_json.specs.JsonValues.{inside}
use Rattle.llrp_json.proofs.ValueLemmas.{inside_plain}
use Rattle.llrp_json.specs.Private.PlainStrings.{is_plain}
use Rattle.llrp_json_read.specs.declared.names.Shape.{Shape}
use Rattle.llrp_json_read.specs.declared.names.Shape.TheVariants as shape
use Rattle.llrp_json_read.specs.MemberRules.{field_member, tail_rules}
use Rattle.llrp_json_read.specs.ObjectMembers.{MemberRule, are_whole, has_shape, is_integer}
use Rattle.llrp_json_read.specs.ObjectSays.{SaysFields, SaysNumber, SaysTail, numbers}
use Rattle.llrp_json_read.specs.Private.Words.{is_greatest, is_readable, plain}
use Rattle.llrp_json_read.proofs.FilledObjects.{Apart, IsIn, Pair, as_members, get_in, names}
use Rattle.llrp_json_read.proofs.PrintedUtf8.{HasTexts, ItemsHaveTexts}
use Rattle.llrp_json_read.proofs.ValueTexts.{text_of, items_texts, members_texts}

-- ---- what every value needs to be read back

-- its strings are UTF-8, its numbers are numbers, and it is no deeper than this
abbrev pub IsFine : ℕ → Json → Type 0
IsFine d j = HasTexts j × HasNumbers j × (depth j ≤ d)

abbrev pub IsFinePair : ℕ → Pair → Type 0
IsFinePair d p = IsUtf8 p.0 × IsFine d p.1

-- a name is of ASCII
pub ascii_name : (text : List ℕ) → are_ascii text ≡ true → IsUtf8 text
ascii_name text e = IsUtf8-are_ascii text e

pub kind_ascii : (kind : Kind) → are_ascii (name_of kind) ≡ true
unfolding name_of rule_of message_rule param_rule message_kinds whole_message_kinds param_kinds whole_param_kinds
kind_ascii kind = every_rule (λ row. are_ascii row.name) (refl, refl) (refl, refl) kind

abbrev is_ascii_field : FieldRule → Bool
is_ascii_field rule = are_ascii (field_name rule)

fields_ascii : (kind : Kind) → list_all is_ascii_field (plain_fields_of kind) ≡ true
unfolding fields_of rule_of message_rule param_rule message_kinds whole_message_kinds param_kinds whole_param_kinds
fields_ascii kind = every_rule (λ row. list_all is_ascii_field (plain row.fields)) (refl, refl) (refl, refl) kind

-- ---- numbers

decimal_utf8 : (n : ℕ) → n < 2 ^ 64 → IsUtf8 (decimal n)
decimal_utf8 n lt = IsUtf8-from_ascii (decimal n) (IsAscii-decimal n lt)

abbrev integer_octet : ℕ → Bool
integer_octet c = is_ascii_digit c || (c == 45)

or_left : (a b : Bool) → a ≡ true → (a || b) ≡ true
or_left true b e = refl
or_left false b e = absurd (let bad : false ≡ true = e in cc)

digits_whole : (ds : List ℕ) → all_ascii_digits ds ≡ true → list_all integer_octet ds ≡ true
digits_whole [] e = refl
digits_whole (c ∷ ds) e = let p = and_parts _ _ e in rw (or_left (is_ascii_digit c) (c == 45) p.0) (digits_whole ds p.1)

decimal_whole : (n : ℕ) → n < 2 ^ 64 → is_integer (decimal n) ≡ true
decimal_whole n lt = digits_whole (decimal n) (digits_of n (omega (arith, lt))).digits

-- a whole number of JSON
pub record IsWhole (text : List ℕ) : Type 0 where
  pub integer : is_integer text ≡ true
  pub is_number : IsNumber text
  pub utf8 : IsUtf8 text

pub whole_decimal : (n : ℕ) → n < 2 ^ 64 → IsWhole (decimal n)
whole_decimal n lt = record { integer = decimal_whole n lt; is_number = IsNumber-decimal n lt; utf8 = decimal_utf8 n lt }

whole_signed : (n : ℕ) → n < 256 → IsWhole (signed_text n)
whole_signed n lt = elim (sides n) [
  | inl small ↦ subst IsWhole (sym (signed_positive n small)) (whole_decimal n (omega (arith, lt)))
  | inr large ↦ subst IsWhole (sym (signed_negative n large)) (after_minus (255 - n) (omega arith) (256 - n) (omega arith))
]
  where
    after_minus : (k : ℕ) → k < 256 → (m : ℕ) → m ≡ suc k → IsWhole (45 ∷ decimal m)
    after_minus k small m e =
        let one : IsWhole (decimal (suc k)) = whole_decimal (suc k) (omega (arith, small)) in
        subst (λ x. IsWhole (45 ∷ decimal x)) (sym e)
        (record {
          integer = one.integer;
          is_number = IsNumber-signed_decimal (negsuc k) (omega (arith, small));
          utf8 = IsUtf8-append (45 ∷ []) (decimal (suc k)) (IsUtf8-are_ascii (45 ∷ []) refl) one.utf8;
        })

-- the value of a number
abbrev pub value_of : (form : NumberForm) (n : ℕ) (value : List ℕ) → IsValue form n value → Json
value_of Version n value v = number value
value_of Id n value v = number value
value_of Unsigned n value v = number value
value_of Signed n value v = number value
value_of Epc n value v = string v.0

value_text : (form : NumberForm) (n : ℕ) (value : List ℕ) (v : IsValue form n value) → text_of (value_of form n value v) ≡ value
value_text Version n value v = refl
value_text Id n value v = refl
value_text Unsigned n value v = refl
value_text Signed n value v = refl
value_text Epc n value v = sym v.2

abbrev shape_of : NumberForm → Shape
shape_of Version = shape.Integer
shape_of Id = shape.Integer
shape_of Unsigned = shape.Integer
shape_of Signed = shape.Integer
shape_of Epc = shape.Text

-- numbers up to the greatest of a field that can be read are of its form
in_form : (form : NumberForm) (g n : ℕ) → is_greatest form g ≡ true → n ≤ g → IsInForm form n
in_form Version g n e le = absurd (let bad : false ≡ true = e in cc)
in_form Id g n e le = absurd (let bad : false ≡ true = e in cc)
in_form Unsigned g n e le = let lt : g < 2 ^ 64 = grind arith in omega (arith, lt, le)
in_form Signed g n e le = let top : g ≡ 255 = eqb-true g 255 e in omega (arith, top, le)
in_form Epc g n e le = let top : g ≡ 2 ^ 96 - 1 = eqb-true g (2 ^ 96 - 1) e in omega (arith, top, le)

-- what the value of a field is
record IsGood (form : NumberForm) (j : Json) : Type 0 where
  shaped : has_shape (shape_of form) j ≡ true
  fine : IsFine 0 j

good_number : (form : NumberForm) (text : List ℕ) → shape_of form ≡ shape.Integer → IsWhole text → IsGood form (number text)
good_number form text e w = record { shaped = rw e w.integer; fine = (w.utf8, w.is_number, omega arith) }

value_good : (form : NumberForm) (g n : ℕ) (value : List ℕ) (v : IsValue form n value) → is_greatest form g ≡ true → n ≤ g → IsGood form (value_of form n value v)
value_good Version g n value v e le = absurd (let bad : false ≡ true = e in cc)
value_good Id g n value v e le = absurd (let bad : false ≡ true = e in cc)
value_good Unsigned g n value v e le = let lt : g < 2 ^ 64 = grind arith in good_number Unsigned value refl (subst IsWhole (sym v) (whole_decimal n (omega (arith, lt, le))))
value_good Signed g n value v e le = let top : g ≡ 255 = eqb-true g 255 e in good_number Signed value refl (subst IsWhole (sym v) (whole_signed n (omega (arith, top, le))))
value_good Epc g n value v e le = record { shaped = refl; fine = (word_text_utf8 n v.0 v.1, tt, omega arith) }

-- a member with the value says the number
pub value_says : (form : NumberForm) (n : ℕ) (value name : List ℕ) (v : IsValue form n value) (j : Json) → get name j ≡ Some (value_of form n value v) → IsInForm form n → SaysNumber form name j n
value_says Version n value name v j e f = record { in_form = f; text = value; member = ap (option_and_then as_number) e; is = v }
value_says Id n value name v j e f = record { in_form = f; text = value; member = ap (option_and_then as_number) e; is = v }
value_says Unsigned n value name v j e f = record { in_form = f; text = value; member = ap (option_and_then as_number) e; is = v }
value_says Signed n value name v j e f = record { in_form = f; text = value; member = ap (option_and_then as_number) e; is = v }
value_says Epc n value name v j e f = record { in_form = f; text = v.0; member = ap (option_and_then as_str) e; is = v.1 }

-- ---- fields

-- the members of fields
abbrev pub field_pairs : (rs : List FieldRule) (ns : List ℕ) (ms : List (List ℕ)) → AreFields rs ns ms → List Pair
field_pairs [] [] [] a = []
field_pairs [] [] (m ∷ ms) a = absurd a
field_pairs [] (n ∷ ns) ms a = absurd a
field_pairs (r ∷ rs) [] ms a = absurd a
field_pairs (r ∷ rs) (n ∷ ns) [] a = absurd a
field_pairs (r ∷ rs) (n ∷ ns) (m ∷ ms) a = (field_name r, value_of (field_form r) n a.0.0 a.0.1) ∷ field_pairs rs ns ms a.1

-- a rule and its member
abbrev pub Matches : MemberRule → Pair → Type 0
Matches r p = (p.0 ≡ r.name) × (has_shape r.shape p.1 ≡ true)

shape_by : (wide signed : Bool) → cond wide shape.Text shape.Integer ≡ shape_of (cond wide Epc (cond signed Signed Unsigned))
shape_by true signed = refl
shape_by false true = refl
shape_by false false = refl

-- what the members of fields are
pub record AreFieldPairs (rs : List FieldRule) (ns : List ℕ) (ms : List (List ℕ)) (ps : List Pair) : Type 0 where
  pub texts : members_texts (as_members ps) ≡ ms
  pub matched : AllZip Matches (map field_member rs) ps
  pub fine : AllByRecursion (IsFinePair 0) ps
  pub said : (all : List Pair) → Apart (names all) → AllByRecursion (λ p. IsIn p all) ps → SaysFields rs (object (as_members all)) ns

fields_are_pairs : (rs : List FieldRule) (ns : List ℕ) (ms : List (List ℕ)) (a : AreFields rs ns ms) → list_all is_readable rs ≡ true → list_all is_ascii_field rs ≡ true → AreInRange rs ns → AreFieldPairs rs ns ms (field_pairs rs ns ms a)
fields_are_pairs [] [] [] a e f h = record { texts = refl; matched = tt; fine = tt; said = λ all apart is. tt }
fields_are_pairs [] [] (m ∷ ms) a e f h = absurd a
fields_are_pairs [] (n ∷ ns) ms a e f h = absurd a
fields_are_pairs (r ∷ rs) [] ms a e f h = absurd a
fields_are_pairs (r ∷ rs) (n ∷ ns) [] a e f h = absurd a
fields_are_pairs (r ∷ rs) (n ∷ ns) (m ∷ ms) a e f h =
    let p = and_parts _ _ e in
    let q = and_parts _ _ f in
    let good = value_good (field_form r) r.greatest n a.0.0 a.0.1 p.0 h.0 in
    let rest = fields_are_pairs rs ns ms a.1 p.1 q.1 h.1 in
    let v = value_of (field_form r) n a.0.0 a.0.1 in
    let text : written.member (field_name r) (text_of v) ≡ m = ap (written.member (field_name r)) (value_text (field_form r) n a.0.0 a.0.1) ∙ sym a.0.2 in
    record {
      texts = ap₂ (λ x xs. x ∷ xs) text rest.texts;
      matched = ((refl, ap (λ s. has_shape s v) (shape_by (r.width == 96) r.signed) ∙ good.shaped), rest.matched);
      fine = ((ascii_name (field_name r) q.0, good.fine), rest.fine);
      said = λ all apart is. (
        (value_says (field_form r) n a.0.0 (field_name r) a.0.1 (object (as_members all)) (get_in (field_name r, v) all is.0 apart) (in_form (field_form r) r.greatest n p.0 h.0), h.0),
        rest.said all apart is.1,
      );
    }

-- the fields of a kind
pub kind_fields : (kind : Kind) (ns : List ℕ) (ms : List (List ℕ)) (a : AreFields (plain_fields_of kind) ns ms) → list_all is_readable (plain_fields_of kind) ≡ true → AreInRange (plain_fields_of kind) ns
    → AreFieldPairs (plain_fields_of kind) ns ms (field_pairs (plain_fields_of kind) ns ms a)
kind_fields kind ns ms a e h = fields_are_pairs (plain_fields_of kind) ns ms a e (fields_ascii kind) h

-- ---- tails

-- the member of a tail
abbrev pub tail_pairs : Tail → List ℕ → List Pair
tail_pairs Absent tail = []
tail_pairs Words tail = (codes "words", array (numbers (words_of tail))) ∷ []
tail_pairs Text tail = (codes "text", string tail) ∷ []
tail_pairs Bits tail = (codes "bits", string (encode_lower tail)) ∷ []
tail_pairs Data tail = (codes "octets", string (encode_lower tail)) ∷ []

number_texts : (ws : List ℕ) → items_texts (numbers ws) ≡ map decimal ws
number_texts [] = refl
number_texts (w ∷ ws) = ap (λ l. decimal w ∷ l) (number_texts ws)

-- digits are of ASCII, and none needs an escape
abbrev pub digit_test : ℕ → Bool
digit_test c = is_plain c && nat_lt c 128

digits_pass : list_all digit_test lower_digits ≡ true
digits_pass = refl

pass_at : (p : ℕ → Bool) (xs : List ℕ) (k : ℕ) → list_all p xs ≡ true → k < length xs → p (get_or xs k 0) ≡ true
pass_at p [] k e lt = absurd (omega arith)
pass_at p (x ∷ xs) zero e lt = (and_parts (p x) (list_all p xs) e).0
pass_at p (x ∷ xs) (suc k) e lt = pass_at p xs k (and_parts (p x) (list_all p xs) e).1 (omega (arith, lt))

pub hexadecimal_passes : (octets : List ℕ) → AreOctets octets → list_all digit_test (encode_lower octets) ≡ true
unfolding encode_with
hexadecimal_passes [] o = refl
hexadecimal_passes (c ∷ octets) o =
    let lt = o.0 in
    rw (pass_at digit_test lower_digits (c / 16) digits_pass (omega (arith, lt)), pass_at digit_test lower_digits (c % 16) digits_pass (omega arith)) (hexadecimal_passes octets o.1)

all_plain : (xs : List ℕ) → list_all digit_test xs ≡ true → list_all is_plain xs ≡ true
all_plain [] e = refl
all_plain (x ∷ xs) e =
    let p = and_parts (digit_test x) (list_all digit_test xs) e in
    let here : is_plain x ≡ true = (and_parts (is_plain x) (nat_lt x 128) p.0).0 in
    ap₂ (λ a b. a && b) here (all_plain xs p.1)

all_ascii : (xs : List ℕ) → list_all digit_test xs ≡ true → are_ascii xs ≡ true
all_ascii [] e = refl
all_ascii (x ∷ xs) e =
    let p = and_parts (digit_test x) (list_all digit_test xs) e in
    let here : nat_lt x 128 ≡ true = (and_parts (is_plain x) (nat_lt x 128) p.0).1 in
    ap₂ (λ a b. a && b) here (all_ascii xs p.1)

hexadecimal_inside : (octets : List ℕ) → AreOctets octets → inside (encode_lower octets) ≡ encode_lower octets
hexadecimal_inside octets o = inside_plain (encode_lower octets) (all_plain (encode_lower octets) (hexadecimal_passes octets o))

hexadecimal_fine : (octets : List ℕ) → AreOctets octets → IsFine 0 (string (encode_lower octets))
hexadecimal_fine octets o = (IsUtf8-are_ascii (encode_lower octets) (all_ascii (encode_lower octets) (hexadecimal_passes octets o)), tt, omega arith)

words_whole : (octets : List ℕ) → AreOctets octets → are_whole (numbers (words_of octets)) ≡ true
words_whole [] o = refl
words_whole (high ∷ []) o = refl
words_whole (high ∷ low ∷ octets) o = let h = o.0 in let l = o.1.0 in rw (decimal_whole (256 * high + low) (omega (arith, h, l))) (words_whole octets o.1.1)

words_fine : (octets : List ℕ) → AreOctets octets → ItemsHaveTexts (numbers (words_of octets)) × ItemsHaveNumbers (numbers (words_of octets)) × (items_depth (numbers (words_of octets)) ≤ 0)
words_fine [] o = (tt, tt, omega arith)
words_fine (high ∷ []) o = (tt, tt, omega arith)
words_fine (high ∷ low ∷ octets) o =
    let h = o.0 in
    let l = o.1.0 in
    let one : IsWhole (decimal (256 * high + low)) = whole_decimal (256 * high + low) (omega (arith, h, l)) in
    let rest = words_fine octets o.1.1 in
    ((one.utf8, rest.0), (one.is_number, rest.1), omega (arith, rest.2))

-- what the member of a tail is
pub record AreTailPairs (form : Tail) (tail : List ℕ) (ps : List Pair) : Type 0 where
  pub texts : members_texts (as_members ps) ≡ tail_members form tail
  pub matched : AllZip Matches (tail_rules form) ps
  pub fine : AllByRecursion (IsFinePair 1) ps
  pub said : (all : List Pair) → Apart (names all) → AllByRecursion (λ p. IsIn p all) ps → SaysTail form (object (as_members all)) tail

deeper : (j : Json) → IsFine 0 j → IsFine 1 j
deeper j f = let le = f.2 in (f.0, f.1, omega (arith, le))

pub tail_is_pairs : (form : Tail) (fields tail : List ℕ) → AreOctets tail → IsTail form fields tail → AreTailPairs form tail (tail_pairs form tail)
tail_is_pairs Absent fields tail o t = record { texts = refl; matched = tt; fine = tt; said = λ all apart is. t }
tail_is_pairs Words fields tail o t =
    let few = words_fine tail o in
    record {
      texts = ap (λ l. written.member (codes "words") (written.array l) ∷ []) (number_texts (words_of tail));
      matched = ((refl, words_whole tail o), tt);
      fine = ((ascii_name (codes "words") refl, (few.0, few.1, (let le = few.2 in omega (arith, le)))), tt);
      said = λ all apart is. ((o, (t.0, t.2)), get_in (codes "words", array (numbers (words_of tail))) all is.0 apart);
    }
tail_is_pairs Text fields tail o t =
    record {
      texts = refl;
      matched = ((refl, refl), tt);
      fine = ((ascii_name (codes "text") refl, (t.1, tt, omega arith)), tt);
      said = λ all apart is. (o, get_in (codes "text", string tail) all is.0 apart);
    }
tail_is_pairs Bits fields tail o t =
    record {
      texts = ap (λ l. written.member (codes "bits") (written.quoted l) ∷ []) (hexadecimal_inside tail o);
      matched = ((refl, refl), tt);
      fine = ((ascii_name (codes "bits") refl, deeper (string (encode_lower tail)) (hexadecimal_fine tail o)), tt);
      said = λ all apart is. (o, get_in (codes "bits", string (encode_lower tail)) all is.0 apart);
    }
tail_is_pairs Data fields tail o t =
    record {
      texts = ap (λ l. written.member (codes "octets") (written.quoted l) ∷ []) (hexadecimal_inside tail o);
      matched = ((refl, refl), tt);
      fine = ((ascii_name (codes "octets") refl, deeper (string (encode_lower tail)) (hexadecimal_fine tail o)), tt);
      said = λ all apart is. (o, get_in (codes "octets", string (encode_lower tail)) all is.0 apart);
    }
