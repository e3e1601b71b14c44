-- The members that an object of a kind has, by the tables.
use Rattle.std.specs.Prelude.{ℕ, ◌==◌, if◌then◌else◌, true, false, List, [], ◌∷◌, ◌++◌, codes, map}
use Rattle.llrp_schema.specs.declared.kinds.Kind.{Kind}
use Rattle.llrp_schema.specs.declared.kinds.Kind.TheVariants.{Message, Parameter}
use Rattle.llrp_schema.specs.declared.kinds.Tail.{Tail}
use Rattle.llrp_schema.specs.declared.kinds.Tail.TheVariants.{Absent, Words, Text, Bits, Data}
use Rattle.llrp_schema.specs.Schema.{FieldRule, plain_fields_of, tail_of}
use Rattle.llrp_json.specs.JsonItems.{field_name}
use Rattle.llrp_json_read.specs.declared.names.Shape.{Shape}
use Rattle.llrp_json_read.specs.declared.names.Shape.TheVariants as shape
use Rattle.llrp_json_read.specs.ObjectMembers.{MemberRule}

-- a member that is always there
abbrev pub needed : List ℕ → Shape → MemberRule
needed name s = record { name = name; shape = s; optional = false }

-- the members before the fields
abbrev pub first_rules : Kind → List MemberRule
first_rules (Message kind) = needed (codes "message") shape.Text ∷ needed (codes "version") shape.Integer ∷ needed (codes "id") shape.Integer ∷ []
first_rules (Parameter kind) = needed (codes "parameter") shape.Text ∷ []

-- the member of a field: only that of EPC-96 is a string, and has 96 bits
abbrev pub field_member : FieldRule → MemberRule
field_member rule = needed (field_name rule) (if rule.width == 96 then shape.Text else shape.Integer)

-- the member of a tail, where the kind has one
abbrev pub tail_rules : Tail → List MemberRule
tail_rules Absent = []
tail_rules Words = needed (codes "words") shape.Integers ∷ []
tail_rules Text = needed (codes "text") shape.Text ∷ []
tail_rules Bits = needed (codes "bits") shape.Text ∷ []
tail_rules Data = needed (codes "octets") shape.Text ∷ []

-- the member of the parameters below an object
abbrev pub parameters_rule : MemberRule
parameters_rule = record { name = codes "parameters"; shape = shape.Array; optional = true }

-- the members of an object of a kind, in the order in which they are looked at
unfoldable pub member_rules : Kind → List MemberRule
member_rules kind = first_rules kind ++ (map field_member (plain_fields_of kind) ++ (tail_rules (tail_of kind) ++ parameters_rule ∷ []))
