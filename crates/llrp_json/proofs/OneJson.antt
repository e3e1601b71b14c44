-- Messages and items have one line.
use Rattle.std.proofs.Common.{◌≡◌, ℕ, List, [], ◌∷◌, ◌++◌, refl, sym, ap, ◌∙◌}
use Rattle.std.specs.Prelude.{codes, decimal}
use Rattle.tag_uri.proofs.TextLaws.{texts_same}
use Rattle.llrp_schema.specs.declared.kinds.ParamKind.{ParamKind}
use Rattle.llrp_schema.specs.declared.kinds.Kind.TheVariants.{Message, Parameter}
use Rattle.llrp_schema.specs.Schema.{FieldRule, name_of, plain_fields_of, tail_of}
use Rattle.llrp_tree.specs.Tree.{Forest, none, and, MessageTree}
use Rattle.llrp_stream.specs.declared.item.Item.{Item}
use Rattle.llrp_stream.specs.declared.item.Item.TheVariants.{Msg, Bad}
use Rattle.llrp_listing.specs.NodeLine.{NumberForm, Version, Id, Unsigned, Signed, Epc, field_form}
use Rattle.llrp_listing.proofs.OneText.{one_number}
use Rattle.llrp_json.specs.JsonValues.{member, object, string}
use Rattle.llrp_json.specs.JsonItems.{AreFields, AreParameters, IsValue, field_name, parameters_members, tail_members}
use Rattle.llrp_json.specs.JsonLines.{IsItemJson, IsMessageJson}

one_value : (form : NumberForm) (n : ℕ) (v w : List ℕ) → IsValue form n v → IsValue form n w → v ≡ w
one_value Version n v w p q = one_number Version n v w p q
one_value Id n v w p q = one_number Id n v w p q
one_value Unsigned n v w p q = one_number Unsigned n v w p q
one_value Signed n v w p q = one_number Signed n v w p q
one_value Epc n v w p q = p.2 ∙ ap string (texts_same n p.0 q.0 p.1 q.1) ∙ sym q.2

one_member : (rule : FieldRule) (n : ℕ) (m k : List ℕ) → (value : List ℕ) × IsValue (field_form rule) n value × (m ≡ member (field_name rule) value) → (value : List ℕ) × IsValue (field_form rule) n value × (k ≡ member (field_name rule) value) → m ≡ k
one_member rule n m k p q = p.2 ∙ ap (λ (x : List ℕ). member (field_name rule) x) (one_value (field_form rule) n p.0 q.0 p.1 q.1) ∙ sym q.2

one_row : (rs : List FieldRule) (ns : List ℕ) (ms ks : List (List ℕ)) → AreFields rs ns ms → AreFields rs ns ks → ms ≡ ks
one_row [] [] [] [] p q = refl
one_row [] [] [] (k ∷ ks) p q = absurd q
one_row [] [] (m ∷ ms) ks p q = absurd p
one_row [] (n ∷ ns) ms ks p q = absurd p
one_row (r ∷ rs) [] ms ks p q = absurd p
one_row (r ∷ rs) (n ∷ ns) [] ks p q = absurd p
one_row (r ∷ rs) (n ∷ ns) (m ∷ ms) [] p q = absurd q
one_row (r ∷ rs) (n ∷ ns) (m ∷ ms) (k ∷ ks) p q =
    let a = one_member r n m k p.0 q.0 in
    let b = one_row rs ns ms ks p.1 q.1 in
    cc

-- the object of a parameter, by the members of its fields and the objects below it
abbrev whole_object : ParamKind → List ℕ → List (List ℕ) → List (List ℕ) → List ℕ
whole_object kind tail members below = object (member (codes "parameter") (string (name_of (Parameter kind))) ∷ (members ++ (tail_members (tail_of (Parameter kind)) tail ++ parameters_members below)))

one_forest : (f : Forest) (ss ts : List (List ℕ)) → AreParameters f ss → AreParameters f ts → ss ≡ ts
one_forest none ss ts p q = p ∙ sym q
one_forest (and before kind fields tail children) ss ts p q =
    let e : p.0 ≡ q.0 = one_forest before p.0 q.0 p.3 q.3 in
    let m : p.1 ≡ q.1 = one_row (plain_fields_of (Parameter kind)) fields p.1 q.1 p.4 q.4 in
    let b : p.2 ≡ q.2 = one_forest children p.2 q.2 p.5 q.5 in
    p.6 ∙ ap (λ (x : List (List ℕ)). x ++ whole_object kind tail p.1 p.2 ∷ []) e ∙ ap (λ (x : List (List ℕ)). q.0 ++ whole_object kind tail x p.2 ∷ []) m
    ∙ ap (λ (x : List (List ℕ)). q.0 ++ whole_object kind tail q.1 x ∷ []) b ∙ sym q.6

-- the object of a message, by the members of its fields and the objects below it
abbrev message_object : MessageTree → List (List ℕ) → List (List ℕ) → List ℕ
message_object m fields below =
    object (member (codes "message") (string (name_of (Message m.kind))) ∷ member (codes "version") (decimal m.version) ∷ member (codes "id") (decimal m.id) ∷ (fields ++ (tail_members (tail_of (Message m.kind)) m.tail ++ parameters_members below)))

one_message : (m : MessageTree) (s t : List ℕ) → IsMessageJson m s → IsMessageJson m t → s ≡ t
one_message m s t p q =
    p.text_is ∙ ap (λ (x : List (List ℕ)). message_object m x p.below) (one_row (plain_fields_of (Message m.kind)) m.fields p.fields q.fields p.are q.are)
    ∙ ap (λ (x : List (List ℕ)). message_object m q.fields x) (one_forest m.children p.below q.below p.parameters q.parameters) ∙ sym q.text_is

-- an item has one line
pub one_line_of_item : (item : Item) (s t : List ℕ) → IsItemJson item s → IsItemJson item t → s ≡ t
one_line_of_item (Msg message) s t p q = p.2 ∙ ap (λ (x : List ℕ). x ++ 10 ∷ []) (one_message message p.0 q.0 p.1 q.1) ∙ sym q.2
one_line_of_item (Bad id fault) s t p q = p ∙ sym q
