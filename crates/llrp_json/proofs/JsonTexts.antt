-- The line of an item is a text of JSON.
use Rattle.std.proofs.Common.{◌≡◌, ◌⊎◌, inl, inr, ℕ, ◌^◌, ◌<◌, ◌≤◌, Bool, true, false, not, List, [], ◌∷◌, ◌++◌, map, filter, refl, sym, subst, arith}
use Rattle.std.specs.Prelude.{codes, decimal, nat_lt}
use Rattle.std.specs.List.{AllByRecursion, list_all}
use Rattle.llrp_schema.specs.declared.kinds.ParamKind.{ParamKind}
use Rattle.llrp_schema.specs.declared.kinds.Kind.{Kind}
use Rattle.llrp_schema.specs.declared.kinds.Kind.TheVariants.{Message, Parameter}
use Rattle.llrp_schema.specs.declared.kinds.Tail.{Tail}
use Rattle.llrp_schema.specs.declared.kinds.Tail.TheVariants.{Absent, Words, Text, Bits, Data}
use Rattle.llrp_schema.specs.Schema.{FieldRule, fields_of, message_kinds, message_rule, name_of, param_kinds, param_rule, plain_fields_of, rule_of, tail_of, whole_message_kinds, whole_param_kinds}
use Rattle.llrp_schema.proofs.TableLaws.{every_rule}
use Rattle.llrp_tree.specs.declared.fault.Fault.{Fault}
use Rattle.llrp_tree.specs.Lawful.{AllLawful, AreInRange, AreOctets, IsLawfulMessage, Obeys}
use Rattle.llrp_tree.specs.Tree.{Forest, none, and, MessageTree, words_of}
use Rattle.llrp_stream.specs.declared.item.End.TheVariants.{Broken, Rest}
use Rattle.llrp_stream.specs.declared.item.Item.TheVariants.{Bad, Msg}
use Rattle.llrp_listing.specs.NodeLine.{NumberForm, Version, Id, Unsigned, Signed, Epc, field_form}
use Rattle.llrp_listing.specs.StreamListing.{frame_fault_name}
use Rattle.llrp_json.specs.JsonItems.{AreFields, AreParameters, IsValue, field_name, parameters_members, tail_members}
use Rattle.llrp_json.specs.JsonLines.{IsItemJson, IsMessageJson, end_json, fault_json}
use Rattle.llrp_json.specs.JsonValues as text_of
use Rattle.llrp_json.specs.Calls.JsonTexts.{IsJson, IsLineOfJson, Value, string, truth}
use Rattle.llrp_json.proofs.JsonTextLemmas.{IsMember, all_append, digits_member, is_array, is_number, is_object, is_signed, is_string, number_member, text_member, words_are}
use Rattle.llrp_tree.proofs.LawLemmas.{both}
use Rattle.llrp_listing.proofs.LawfulLines.{below}

-- ---- fields

-- whether the numbers up to g are in the range of a form
abbrev pub fits_form : NumberForm → ℕ → Bool
fits_form Version g = false
fits_form Id g = false
fits_form Unsigned g = nat_lt g (10 ^ 20)
fits_form Signed g = nat_lt g 256
fits_form Epc g = nat_lt g (2 ^ 96)

abbrev pub fits : FieldRule → Bool
fits r = fits_form (field_form r) r.greatest

pub all_fit : (kind : Kind) → list_all fits (plain_fields_of kind) ≡ true
unfolding fields_of rule_of message_rule param_rule message_kinds whole_message_kinds param_kinds whole_param_kinds
all_fit kind = every_rule (λ row. list_all fits (filter (λ field. not field.reserved) row.fields)) (refl, refl) (refl, refl) kind

value_text : (form : NumberForm) (g n : ℕ) (value : List ℕ) → fits_form form g ≡ true → n ≤ g → IsValue form n value → IsJson Value value
value_text Version g n value h le v = absurd (let bad : false ≡ true = h in cc)
value_text Id g n value h le v = absurd (let bad : false ≡ true = h in cc)
value_text Unsigned g n value h le v = subst (IsJson Value) (sym v) (is_number n (below n g (10 ^ 20) h le))
value_text Signed g n value h le v = subst (IsJson Value) (sym v) (is_signed n (below n g 256 h le))
value_text Epc g n value h le v = subst (IsJson Value) (sym v.2) (string (text_of.string v.0) (is_string v.0))

field_members : (rs : List FieldRule) (ns : List ℕ) (ms : List (List ℕ)) → list_all fits rs ≡ true → AreInRange rs ns → AreFields rs ns ms → AllByRecursion IsMember ms
field_members [] [] [] h in_range are = tt
field_members [] [] (m ∷ ms) h in_range are = absurd are
field_members [] (n ∷ ns) ms h in_range are = absurd are
field_members (r ∷ rs) [] ms h in_range are = absurd are
field_members (r ∷ rs) (n ∷ ns) [] h in_range are = absurd are
field_members (r ∷ rs) (n ∷ ns) (m ∷ ms) h in_range are =
    let p = both (fits r) (list_all fits rs) h in
    let f = are.0 in
    ((field_name r, f.0, value_text (field_form r) r.greatest n f.0 p.0 in_range.0 f.1, f.2), field_members rs ns ms p.1 in_range.1 are.1)

-- ---- tails and parameters

tail_are_members : (form : Tail) (tail : List ℕ) → AreOctets tail → AllByRecursion IsMember (tail_members form tail)
tail_are_members Absent tail o = tt
tail_are_members Words tail o = ((codes "words", text_of.array (map decimal (words_of tail)), is_array (map decimal (words_of tail)) (words_are tail o), refl), tt)
tail_are_members Text tail o = (text_member (codes "text") tail, tt)
tail_are_members Bits tail o = (digits_member (codes "bits") tail o, tt)
tail_are_members Data tail o = (digits_member (codes "octets") tail o, tt)

below_members : (below : List (List ℕ)) → AllByRecursion (IsJson Value) below → AllByRecursion IsMember (parameters_members below)
below_members [] p = tt
below_members (text ∷ texts) p = ((codes "parameters", text_of.array (text ∷ texts), is_array (text ∷ texts) p, refl), tt)

-- the members of a node after its first ones
abbrev pub parts : Kind → List ℕ → List (List ℕ) → List (List ℕ) → List (List ℕ)
parts kind tail members below = members ++ (tail_members (tail_of kind) tail ++ parameters_members below)

pub parts_are_members : (kind : Kind) (fields tail : List ℕ) (children : Forest) (members below : List (List ℕ)) → Obeys kind fields tail children → AreFields (plain_fields_of kind) fields members → AllByRecursion (IsJson Value) below → AllByRecursion IsMember (parts kind tail members below)
parts_are_members kind fields tail children members below obeys are texts =
    let tails : List (List ℕ) = tail_members (tail_of kind) tail in
    all_append IsMember members (tails ++ parameters_members below) (field_members (plain_fields_of kind) fields members (all_fit kind) obeys.ranges are)
    (all_append IsMember tails (parameters_members below) (tail_are_members (tail_of kind) tail obeys.bytes) (below_members below texts))

-- the first member of a parameter
abbrev pub named : ParamKind → List ℕ
named kind = text_of.member (codes "parameter") (text_of.string (name_of (Parameter kind)))

pub forest_texts : (f : Forest) (texts : List (List ℕ)) → AllLawful f → AreParameters f texts → AllByRecursion (IsJson Value) texts
forest_texts none texts l are = subst (AllByRecursion (IsJson Value)) (sym are) tt
forest_texts (and before kind fields tail children) texts l are =
    let all : AllByRecursion IsMember (named kind ∷ parts (Parameter kind) tail are.1 are.2) = (
      text_member (codes "parameter") (name_of (Parameter kind)),
      parts_are_members (Parameter kind) fields tail children are.1 are.2 l.1.obeys are.4 (forest_texts children are.2 l.2 are.5),
    ) in
    subst (AllByRecursion (IsJson Value)) (sym are.6) (all_append (IsJson Value) are.0 (text_of.object (named kind ∷ parts (Parameter kind) tail are.1 are.2) ∷ []) (forest_texts before are.0 l.0 are.3) (is_object (named kind) (parts (Parameter kind) tail are.1 are.2) all, tt))

-- ---- lines

pub version_below : (version : ℕ) → (version ≡ 1) ⊎ (version ≡ 2) → version < 10 ^ 20
version_below version o = elim o [ inl e ↦ omega (arith, e) | inr e ↦ omega (arith, e) ]

-- the members of a message's object: the first, and those after it
abbrev pub message_first : MessageTree → List ℕ
message_first m = text_of.member (codes "message") (text_of.string (name_of (Message m.kind)))

abbrev pub message_more : MessageTree → List (List ℕ) → List (List ℕ) → List (List ℕ)
message_more m members below = text_of.member (codes "version") (decimal m.version) ∷ text_of.member (codes "id") (decimal m.id) ∷ parts (Message m.kind) m.tail members below

pub message_members : (m : MessageTree) (text : List ℕ) → IsLawfulMessage m → (is : IsMessageJson m text) → AllByRecursion IsMember (message_first m ∷ message_more m is.fields is.below)
message_members m text l is =
    let small = l.id in (
      text_member (codes "message") (name_of (Message m.kind)),
      (number_member (codes "version") m.version (version_below m.version l.version), (number_member (codes "id") m.id (omega (arith, small)), parts_are_members (Message m.kind) m.fields m.tail m.children is.fields is.below l.obeys is.are (forest_texts m.children is.below l.children is.parameters))),
    )

message_text : (m : MessageTree) (text : List ℕ) → IsLawfulMessage m → IsMessageJson m text → IsJson Value text
message_text m text l is = subst (IsJson Value) (sym is.text_is) (is_object (message_first m) (message_more m is.fields is.below) (message_members m text l is))

pub message_line : (m : MessageTree) (line : List ℕ) → IsLawfulMessage m → IsItemJson (Msg m) line → IsLineOfJson line
message_line m line l is = (is.0, message_text m is.0 l is.1, is.2)

-- the members of a fault's object
abbrev pub fault_first : Fault → List ℕ
fault_first fault = text_of.member (codes "fault") (text_of.string (frame_fault_name fault.reason))

abbrev pub fault_more : ℕ → Fault → List (List ℕ)
fault_more id fault = text_of.member (codes "id") (decimal id) ∷ text_of.member (codes "bit") (decimal fault.bit) ∷ []

pub fault_members : (id : ℕ) (fault : Fault) → id < 2 ^ 32 → fault.bit < 2 ^ 64 → AllByRecursion IsMember (fault_first fault ∷ fault_more id fault)
fault_members id fault small few = (text_member (codes "fault") (frame_fault_name fault.reason), (number_member (codes "id") id (omega (arith, small)), (number_member (codes "bit") fault.bit (omega (arith, few)), tt)))

pub fault_line : (id : ℕ) (fault : Fault) (line : List ℕ) → id < 2 ^ 32 → fault.bit < 2 ^ 64 → IsItemJson (Bad id fault) line → IsLineOfJson line
unfolding fault_json
fault_line id fault line small few is = (text_of.object (fault_first fault ∷ fault_more id fault), is_object (fault_first fault) (fault_more id fault) (fault_members id fault small few), is)

pub rest_line : (octets : ℕ) → octets < 2 ^ 64 → IsLineOfJson (end_json (Rest octets))
unfolding end_json
rest_line octets few =
    let first : List ℕ = text_of.member (codes "rest") (decimal octets) in
    (text_of.object (first ∷ []), is_object first [] (number_member (codes "rest") octets (omega (arith, few)), tt), refl)

pub broken_line : IsLineOfJson (end_json Broken)
unfolding end_json
broken_line =
    let first : List ℕ = text_of.member (codes "broken") (codes "true") in
    (text_of.object (first ∷ []), is_object first [] ((codes "broken", codes "true", truth, refl), tt), refl)
