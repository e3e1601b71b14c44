-- The line of a lawful message has at most 64 octets for each octet of its frame, with its LF.
use Rattle.std.proofs.Common.{◌≡◌, ◌⊎◌, inl, inr, ℕ, ◌+◌, ◌-◌, ◌*◌, ◌/◌, ◌^◌, ◌<◌, ◌≤◌, ◌==◌, Bool, true, false, cond, nat_le, nat_lt, List, [], ◌∷◌, ◌++◌, length, map, refl, sym, ap, ◌∙◌, subst, arith, decimal, leb-true, length-append, ltb-true}
use Rattle.std.specs.Prelude.{codes}
use Rattle.std.specs.List.{join_with_byte, list_all}
use Rattle.std.proofs.lemmas.Bool.{and_parts, eqb-true}
use Rattle.std.proofs.lemmas.Fmt.{length-decimal-le}
use Rattle.hex.specs.Hex.{encode_lower, encode_with}
use Rattle.tag_uri.proofs.TextShape.{text_short}
use Rattle.llrp_schema.specs.declared.kinds.Kind.{Kind}
use Rattle.llrp_schema.specs.declared.kinds.Kind.TheVariants.{Message, Parameter}
use Rattle.llrp_schema.specs.declared.kinds.MsgKind.{MsgKind}
use Rattle.llrp_schema.specs.declared.kinds.ParamKind.{ParamKind}
use Rattle.llrp_schema.specs.declared.kinds.Tail.{Tail}
use Rattle.llrp_schema.specs.declared.kinds.Tail.TheVariants.{Absent, Words, Text, Bits, Data}
use Rattle.llrp_schema.specs.Schema.{FieldRule, KindRule, bits_of, fields_of, is_tv, message_kinds, message_rule, name_of, number_of, param_kinds, param_rule, plain_fields_of, rule_of, tail_of, whole_message_kinds, whole_param_kinds}
use Rattle.llrp_schema.proofs.TableLaws.{every_message, every_parameter, every_rule}
use Rattle.llrp_tree.specs.Lawful.{AllLawful, AreInRange, AreOctets, IsLawfulMessage, body_octets, count_octets, message_octets, octets}
use Rattle.llrp_tree.specs.Tree.{Forest, none, and, MessageTree, words_of}
use Rattle.llrp_listing.specs.NodeLine.{NumberForm, Version, Id, Unsigned, Signed, Epc, field_form, signed_text}
use Rattle.llrp_json.specs.JsonItems.{AreFields, AreParameters, IsValue, field_name, parameters_members, tail_members}
use Rattle.llrp_json.specs.JsonLines.{IsMessageJson}
use Rattle.llrp_json.specs.JsonValues as written
use Rattle.llrp_json.specs.JsonValues.{escaped, inside}
use Rattle.llrp_json.specs.Private.PlainStrings.{is_plain}
use Rattle.llrp_json.proofs.PlainNames.{kind_plain}
use Rattle.llrp_json.proofs.PlainTexts.{epc_plain}
use Rattle.llrp_json.proofs.ValueLemmas.{inside_plain}
use Rattle.llrp_json_read.specs.Private.Words.{is_greatest, is_readable, plain}
use Rattle.llrp_json_read.proofs.ReadableFields.{all_readable}

-- ---- numbers

-- the most digits of numbers up to g
abbrev most_digits : ℕ → ℕ
most_digits g = cond (nat_lt g 10) 1 (cond (nat_lt g 100) 2 (cond (nat_lt g 1000) 3 (cond (nat_lt g 100000) 5 (cond (nat_lt g (10 ^ 10)) 10 20))))

digits_below : (k g n : ℕ) → 0 < k → k ≤ 20 → nat_lt g (10 ^ k) ≡ true → n ≤ g → g < 2 ^ 64 → length (decimal n) ≤ k
digits_below k g n some few e le top = length-decimal-le k n some (let lt : g < 10 ^ k = ltb-true g (10 ^ k) e in omega (arith, lt, le)) (omega (arith, top, le))

digits_most : (g n : ℕ) → n ≤ g → g < 2 ^ 64 → length (decimal n) ≤ most_digits g
digits_most g n le top = one (nat_lt g 10) refl
  where
    ten : (b : Bool) → nat_lt g (10 ^ 10) ≡ b → length (decimal n) ≤ cond b 10 20
    ten true e = digits_below 10 g n (omega arith) (omega arith) e le top
    ten false e = length-decimal-le 20 n (omega arith) (omega (arith, top, le)) (omega (arith, top, le))

    five : (b : Bool) → nat_lt g 100000 ≡ b → length (decimal n) ≤ cond b 5 (cond (nat_lt g (10 ^ 10)) 10 20)
    five true e = digits_below 5 g n (omega arith) (omega arith) e le top
    five false e = ten (nat_lt g (10 ^ 10)) refl

    three : (b : Bool) → nat_lt g 1000 ≡ b → length (decimal n) ≤ cond b 3 (cond (nat_lt g 100000) 5 (cond (nat_lt g (10 ^ 10)) 10 20))
    three true e = digits_below 3 g n (omega arith) (omega arith) e le top
    three false e = five (nat_lt g 100000) refl

    two : (b : Bool) → nat_lt g 100 ≡ b → length (decimal n) ≤ cond b 2 (cond (nat_lt g 1000) 3 (cond (nat_lt g 100000) 5 (cond (nat_lt g (10 ^ 10)) 10 20)))
    two true e = digits_below 2 g n (omega arith) (omega arith) e le top
    two false e = three (nat_lt g 1000) refl

    one : (b : Bool) → nat_lt g 10 ≡ b → length (decimal n) ≤ cond b 1 (cond (nat_lt g 100) 2 (cond (nat_lt g 1000) 3 (cond (nat_lt g 100000) 5 (cond (nat_lt g (10 ^ 10)) 10 20))))
    one true e = digits_below 1 g n (omega arith) (omega arith) e le top
    one false e = two (nat_lt g 100) refl

signed_most : (n : ℕ) → n < 256 → length (signed_text n) ≤ 4
signed_most n lt = go (nat_lt n 128) refl
  where
    go : (b : Bool) → nat_lt n 128 ≡ b → length (cond b (decimal n) (45 ∷ decimal (256 - n))) ≤ 4
    go true e = let few = length-decimal-le 3 n (omega arith) (omega (arith, lt)) (omega (arith, lt)) in omega (arith, few)
    go false e = let few = length-decimal-le 3 (256 - n) (omega arith) (omega arith) (omega arith) in omega (arith, few)

abbrev most_value : NumberForm → ℕ → ℕ
most_value Version g = 20
most_value Id g = 20
most_value Unsigned g = most_digits g
most_value Signed g = 4
most_value Epc g = 92

value_most : (form : NumberForm) (g n : ℕ) (value : List ℕ) → IsValue form n value → is_greatest form g ≡ true → n ≤ g → length value ≤ most_value form g
value_most Version g n value v e le = absurd (let bad : false ≡ true = e in cc)
value_most Id g n value v e le = absurd (let bad : false ≡ true = e in cc)
value_most Unsigned g n value v e le = subst (λ t. length t ≤ most_digits g) (sym v) (digits_most g n le (ltb-true g (2 ^ 64) e))
value_most Signed g n value v e le = let top : g ≡ 255 = eqb-true g 255 e in subst (λ t. length t ≤ 4) (sym v) (signed_most n (omega (arith, top, le)))
value_most Epc g n value v e le =
    let same : inside v.0 ≡ v.0 = inside_plain v.0 (epc_plain n v.0 v.1) in
    let few = text_short n v.0 v.1 in
    let text : length value ≡ length (34 ∷ (v.0 ++ 34 ∷ [])) = ap (λ t. length t) v.2 ∙ ap (λ t. length (34 ∷ (t ++ 34 ∷ []))) same in
    omega (arith, text, length-append v.0 (34 ∷ []), few)

-- ---- members

-- the octets of members, each with one for a comma
abbrev cost : List (List ℕ) → ℕ
cost [] = 0
cost (t ∷ ts) = length t + 1 + cost ts

cost_append : (ts us : List (List ℕ)) → cost (ts ++ us) ≡ cost ts + cost us
cost_append [] us = omega arith
cost_append (t ∷ ts) us = omega (arith, cost_append ts us)

joined : (ts : List (List ℕ)) → length (join_with_byte 44 ts) ≤ cost ts
joined [] = omega arith
joined (t ∷ []) = omega arith
joined (t ∷ u ∷ us) = omega (arith, length-append t (44 ∷ join_with_byte 44 (u ∷ us)), joined (u ∷ us))

-- brackets round what commas part
closed : (ts : List (List ℕ)) (c d : ℕ) → length (c ∷ (join_with_byte 44 ts ++ d ∷ [])) ≤ 2 + cost ts
closed ts c d = omega (arith, length-append (join_with_byte 44 ts) (d ∷ []), joined ts)

-- a member with a name that needs no escape
member_length : (name value : List ℕ) → inside name ≡ name → length (written.member name value) ≡ length name + 3 + length value
member_length name value e =
    let text : length (written.member name value) ≡ length ((34 ∷ (name ++ 34 ∷ [])) ++ 58 ∷ value) = ap (λ t. length ((34 ∷ (t ++ 34 ∷ [])) ++ 58 ∷ value)) e in
    omega (arith, text, length-append (34 ∷ (name ++ 34 ∷ [])) (58 ∷ value), length-append name (34 ∷ []))

string_length : (text : List ℕ) → inside text ≡ text → length (written.string text) ≡ length text + 2
string_length text e = let same : length (written.string text) ≡ length (34 ∷ (text ++ 34 ∷ [])) = ap (λ t. length (34 ∷ (t ++ 34 ∷ []))) e in omega (arith, same, length-append text (34 ∷ []))

-- ---- fields

abbrev field_most : FieldRule → ℕ
field_most r = length (field_name r) + 4 + most_value (field_form r) r.greatest

abbrev fields_most : List FieldRule → ℕ
fields_most [] = 0
fields_most (r ∷ rs) = field_most r + fields_most rs

abbrev is_plain_field : FieldRule → Bool
is_plain_field rule = list_all is_plain (field_name rule)

fields_plain : (kind : Kind) → list_all is_plain_field (plain_fields_of kind) ≡ true
unfolding fields_of rule_of message_rule param_rule message_kinds whole_message_kinds param_kinds whole_param_kinds
fields_plain kind = every_rule (λ row. list_all is_plain_field (plain row.fields)) (refl, refl) (refl, refl) kind

fields_cost : (rs : List FieldRule) (ns : List ℕ) (ms : List (List ℕ)) → AreFields rs ns ms → list_all is_readable rs ≡ true → list_all is_plain_field rs ≡ true → AreInRange rs ns → cost ms ≤ fields_most rs
fields_cost [] [] [] a e f h = omega arith
fields_cost [] [] (m ∷ ms) a e f h = absurd a
fields_cost [] (n ∷ ns) ms a e f h = absurd a
fields_cost (r ∷ rs) [] ms a e f h = absurd a
fields_cost (r ∷ rs) (n ∷ ns) [] a e f h = absurd a
fields_cost (r ∷ rs) (n ∷ ns) (m ∷ ms) a e f h =
    let p = and_parts (is_readable r) (list_all is_readable rs) e in
    let q = and_parts (is_plain_field r) (list_all is_plain_field rs) f in
    let value = value_most (field_form r) r.greatest n a.0.0 a.0.1 p.0 h.0 in
    let rest = fields_cost rs ns ms a.1 p.1 q.1 h.1 in
    let text : length m ≡ length (written.member (field_name r) a.0.0) = ap (λ t. length t) a.0.2 in
    omega (arith, text, member_length (field_name r) a.0.0 (inside_plain (field_name r) q.0), value, rest)

-- ---- tails

abbrev tail_most : Tail → ℕ
tail_most Absent = 0
tail_most Words = 12
tail_most Text = 12
tail_most Bits = 12
tail_most Data = 12

hexadecimal_length : (octets : List ℕ) → length (encode_lower octets) ≡ 2 * length octets
unfolding encode_with
hexadecimal_length [] = omega arith
hexadecimal_length (c ∷ octets) = omega (arith, hexadecimal_length octets)

escaped_most : (c : ℕ) → length (escaped c) ≤ 6
escaped_most c = at_quote (c == 34) refl
  where
    at_control : (b : Bool) → length (cond b (codes "\\u00" ++ encode_lower (c ∷ [])) (c ∷ [])) ≤ 6
    at_control true = omega (arith, length-append (codes "\\u00") (encode_lower (c ∷ [])), hexadecimal_length (c ∷ []))
    at_control false = omega arith

    at_backslash : (b : Bool) → length (cond b (92 ∷ 92 ∷ []) (cond (nat_lt c 32) (codes "\\u00" ++ encode_lower (c ∷ [])) (c ∷ []))) ≤ 6
    at_backslash true = omega arith
    at_backslash false = at_control (nat_lt c 32)

    at_quote : (b : Bool) → (c == 34) ≡ b → length (cond b (92 ∷ 34 ∷ []) (cond (c == 92) (92 ∷ 92 ∷ []) (cond (nat_lt c 32) (codes "\\u00" ++ encode_lower (c ∷ [])) (c ∷ [])))) ≤ 6
    at_quote true e = omega arith
    at_quote false e = at_backslash (c == 92)

inside_most : (text : List ℕ) → length (inside text) ≤ 6 * length text
inside_most [] = omega arith
inside_most (c ∷ text) = omega (arith, length-append (escaped c) (inside text), escaped_most c, inside_most text)

words_cost : (octets : List ℕ) → AreOctets octets → cost (map decimal (words_of octets)) ≤ 6 * length octets
words_cost [] o = omega arith
words_cost (high ∷ []) o = omega arith
words_cost (high ∷ low ∷ octets) o =
    let h = o.0 in
    let l = o.1.0 in
    let few = length-decimal-le 5 (256 * high + low) (omega arith) (omega (arith, h, l)) (omega (arith, h, l)) in
    omega (arith, few, words_cost octets o.1.1)

tail_cost : (form : Tail) (tail : List ℕ) → AreOctets tail → cost (tail_members form tail) ≤ tail_most form + 6 * length tail
tail_cost Absent tail o = omega arith
tail_cost Words tail o = omega (arith, member_length (codes "words") (written.array (map decimal (words_of tail))) refl, closed (map decimal (words_of tail)) 91 93, words_cost tail o)
tail_cost Text tail o = omega (arith, member_length (codes "text") (written.string tail) refl, length-append (inside tail) (34 ∷ []), inside_most tail)
tail_cost Bits tail o = omega (arith, member_length (codes "bits") (written.quoted (encode_lower tail)) refl, length-append (encode_lower tail) (34 ∷ []), hexadecimal_length tail)
tail_cost Data tail o = omega (arith, member_length (codes "octets") (written.quoted (encode_lower tail)) refl, length-append (encode_lower tail) (34 ∷ []), hexadecimal_length tail)

below_cost : (texts : List (List ℕ)) → cost (parameters_members texts) ≤ 16 + cost texts
below_cost [] = omega arith
below_cost (t ∷ ts) = omega (arith, member_length (codes "parameters") (written.array (t ∷ ts)) refl, closed (t ∷ ts) 91 93)

-- ---- the tables

-- the octets of an object of a row without what its tail and its parameters add; `start` is for what it begins and ends with
abbrev row_most : ℕ → KindRule → ℕ
row_most start row = start + length row.name + fields_most (plain row.fields) + tail_most row.tail

-- the octets of a row's fields and of its count
abbrev row_octets : KindRule → ℕ
row_octets row = bits_of row.fields / 8 + count_octets row.tail

abbrev is_short_message : KindRule → Bool
is_short_message row = nat_le (row_most 60 row) (64 * (10 + row_octets row))

abbrev is_short_parameter : KindRule → Bool
is_short_parameter row = nat_le (row_most 34 row) (64 * (cond (nat_lt row.number 128) 1 4 + row_octets row))

message_short : (kind : MsgKind) → row_most 60 (rule_of (Message kind)) ≤ 64 * (10 + row_octets (rule_of (Message kind)))
unfolding rule_of message_rule message_kinds whole_message_kinds
message_short kind = leb-true _ _ (every_message is_short_message (refl, refl) kind)

parameter_short : (kind : ParamKind) → row_most 34 (rule_of (Parameter kind)) ≤ 64 * (cond (nat_lt (rule_of (Parameter kind)).number 128) 1 4 + row_octets (rule_of (Parameter kind)))
unfolding rule_of param_rule param_kinds whole_param_kinds
parameter_short kind = leb-true _ _ (every_parameter is_short_parameter (refl, refl) kind)

-- ---- objects

-- what the members of an object cost after its first ones
rest_cost : (kind : Kind) (fields tail : List ℕ) (members below : List (List ℕ)) → AreFields (plain_fields_of kind) fields members → AreInRange (plain_fields_of kind) fields → AreOctets tail
    → cost (members ++ (tail_members (tail_of kind) tail ++ parameters_members below)) ≤ fields_most (plain_fields_of kind) + (tail_most (tail_of kind) + 6 * length tail) + (16 + cost below)
rest_cost kind fields tail members below a ranges o =
    let tails = tail_members (tail_of kind) tail in
    omega (
      arith,
      cost_append members (tails ++ parameters_members below),
      cost_append tails (parameters_members below),
      fields_cost (plain_fields_of kind) fields members a (all_readable kind) (fields_plain kind) ranges,
      tail_cost (tail_of kind) tail o,
      below_cost below,
    )

forest_cost : (f : Forest) (texts : List (List ℕ)) → AllLawful f → AreParameters f texts → cost texts ≤ 64 * octets f
unfolding body_octets name_of fields_of tail_of is_tv number_of
forest_cost none texts lawful a = subst (λ ts. cost ts ≤ 0) (sym a) (omega arith)
forest_cost (and before kind fields tail children) texts lawful a =
    let obeys = lawful.1.obeys in
    let name = name_of (Parameter kind) in
    let plain_name : inside name ≡ name = inside_plain name (kind_plain (Parameter kind)) in
    let first : List ℕ = written.member (codes "parameter") (written.string name) in
    let rest : List (List ℕ) = a.1 ++ (tail_members (tail_of (Parameter kind)) tail ++ parameters_members a.2) in
    let one : List ℕ = written.object (first ∷ rest) in
    let all : cost texts ≡ cost (a.0 ++ one ∷ []) = ap cost a.6 in
    omega (
      arith,
      all,
      cost_append a.0 (one ∷ []),
      closed (first ∷ rest) 123 125,
      member_length (codes "parameter") (written.string name) refl,
      string_length name plain_name,
      rest_cost (Parameter kind) fields tail a.1 a.2 a.4 obeys.ranges obeys.bytes,
      parameter_short kind,
      forest_cost before a.0 lawful.0 a.3,
      forest_cost children a.2 lawful.2 a.5,
    )

-- the line of a lawful message has, with its LF, at most 64 octets for each octet of its frame
pub line_length : (m : MessageTree) (text : List ℕ) → IsLawfulMessage m → IsMessageJson m text → length text < 64 * message_octets m
unfolding body_octets name_of fields_of tail_of
line_length m text lawful is =
    let kind = Message m.kind in
    let name = name_of kind in
    let plain_name : inside name ≡ name = inside_plain name (kind_plain kind) in
    let first : List ℕ = written.member (codes "message") (written.string name) in
    let version : List ℕ = written.member (codes "version") (decimal m.version) in
    let id : List ℕ = written.member (codes "id") (decimal m.id) in
    let rest : List (List ℕ) = is.fields ++ (tail_members (tail_of kind) m.tail ++ parameters_members is.below) in
    let all : length text ≡ length (written.object (first ∷ version ∷ id ∷ rest)) = ap (λ t. length t) is.text_is in
    let id_small = lawful.id in
    let one_digit : length (decimal m.version) ≤ 1 = version_digits m.version lawful.version in
    let ten_digits : length (decimal m.id) ≤ 10 = length-decimal-le 10 m.id (omega arith) (omega (arith, id_small)) (omega (arith, id_small)) in
    omega (
      arith,
      all,
      closed (first ∷ version ∷ id ∷ rest) 123 125,
      member_length (codes "message") (written.string name) refl,
      string_length name plain_name,
      member_length (codes "version") (decimal m.version) refl,
      member_length (codes "id") (decimal m.id) refl,
      one_digit,
      ten_digits,
      rest_cost kind m.fields m.tail is.fields is.below is.are lawful.obeys.ranges lawful.obeys.bytes,
      message_short m.kind,
      forest_cost m.children is.below lawful.children is.parameters,
    )
  where
    version_digits : (n : ℕ) → (n ≡ 1) ⊎ (n ≡ 2) → length (decimal n) ≤ 1
    version_digits n (inl e) = length-decimal-le 1 n (omega arith) (omega (arith, e)) (omega (arith, e))
    version_digits n (inr e) = length-decimal-le 1 n (omega arith) (omega (arith, e)) (omega (arith, e))
