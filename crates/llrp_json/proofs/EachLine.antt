-- Each item of a stream has a line of JSON.
use Rattle.std.proofs.Common.{ℕ, List, [], ◌∷◌, ◌++◌, refl}
use Rattle.std.specs.Prelude.{codes, decimal}
use Rattle.llrp_schema.specs.declared.kinds.Kind.TheVariants.{Message, Parameter}
use Rattle.llrp_schema.specs.Schema.{FieldRule, name_of, plain_fields_of, tail_of}
use Rattle.llrp_tree.specs.Tree.{Forest, none, and, MessageTree}
use Rattle.llrp_tree.specs.Lawful.{AllLawful, AreInRange, IsLawfulMessage}
use Rattle.llrp_listing.specs.NodeLine.{NumberForm, Version, Id, Epc, Unsigned, Signed, field_form, signed_text}
use Rattle.tag_uri.proofs.Deciding.{has_text}
use Rattle.llrp_stream.specs.declared.item.Item.TheVariants.{Msg, Bad}
use Rattle.llrp_json.specs.JsonValues.{string, member, object}
use Rattle.llrp_json.specs.JsonItems.{AreFields, AreParameters, IsValue, field_name, parameters_members, tail_members}
use Rattle.llrp_json.specs.JsonLines.{IsMessageJson, fault_json}
use Rattle.llrp_json.specs.Calls.JsonLaws.{EachHasLine}

value_of : (form : NumberForm) (n : ℕ) → (value : List ℕ) × IsValue form n value
value_of Epc n = let w = has_text n in (string w.0, (w.0, w.1, refl))
value_of Version n = (decimal n, refl)
value_of Id n = (decimal n, refl)
value_of Unsigned n = (decimal n, refl)
value_of Signed n = (signed_text n, refl)

fields_of_node : (rules : List FieldRule) (values : List ℕ) → AreInRange rules values → (members : List (List ℕ)) × AreFields rules values members
fields_of_node [] [] h = ([], tt)
fields_of_node [] (v ∷ values) h = absurd h
fields_of_node (r ∷ rules) [] h = absurd h
fields_of_node (r ∷ rules) (v ∷ values) h =
    let value = value_of (field_form r) v in
    let rest = fields_of_node rules values h.1 in
    (member (field_name r) value.0 ∷ rest.0, ((value.0, value.1, refl), rest.1))

parameters_of_row : (row : Forest) → AllLawful row → (texts : List (List ℕ)) × AreParameters row texts
parameters_of_row none h = ([], refl)
parameters_of_row (and before kind fields tail children) h =
    let earlier = parameters_of_row before h.0 in
    let members = fields_of_node (plain_fields_of (Parameter kind)) fields h.1.obeys.ranges in
    let below = parameters_of_row children h.2 in (
      earlier.0 ++ object (member (codes "parameter") (string (name_of (Parameter kind))) ∷ (members.0 ++ (tail_members (tail_of (Parameter kind)) tail ++ parameters_members below.0))) ∷ [],
      (earlier.0, members.0, below.0, earlier.1, members.1, below.1, refl),
    )

message_json : (m : MessageTree) → IsLawfulMessage m → (text : List ℕ) × IsMessageJson m text
message_json m h =
    let members = fields_of_node (plain_fields_of (Message m.kind)) m.fields h.obeys.ranges in
    let below = parameters_of_row m.children h.children in
    (_, record { fields = members.0; below = below.0; are = members.1; parameters = below.1; text_is = refl })

pub each_has_line : EachHasLine
each_has_line (Msg m) h = let text = message_json m h in (text.0 ++ 10 ∷ [], (text.0, text.1, refl))
each_has_line (Bad id fault) h = (fault_json id fault ++ 10 ∷ [], refl)
