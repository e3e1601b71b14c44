-- Each kind of the profile has a kind of the whole standard with the same number, fields of the same form, the same tail, and groups that take its children.
use Rattle.std.proofs.Common.{◌≡◌, ℕ, Bool, true, false, not, ◌&&◌, ◌||◌, List, [], Option, Some, None, cond, filter, find, map, nat_eq, nat_le, ◌==◌, refl, sym, ap, ◌∙◌, subst}
use Rattle.std.specs.Prelude.{unwrap_or}
use Rattle.std.specs.List.{list_all, list_any}
use Rattle.std.proofs.lemmas.Bool.{and_parts}
use Rattle.llrp_schema.specs.declared.kinds.MsgKind.{MsgKind}
use Rattle.llrp_schema.specs.declared.kinds.MsgKind.TheVariants.{SetReaderConfig}
use Rattle.llrp_schema.specs.declared.kinds.ParamKind.{ParamKind}
use Rattle.llrp_schema.specs.declared.kinds.ParamKind.TheVariants.{AntennaId}
use Rattle.llrp_schema.specs.declared.kinds.KindSet.{KindSet}
use Rattle.llrp_schema.specs.declared.kinds.KindSet.TheVariants.{Profile, Standard}
use Rattle.llrp_schema.specs.declared.kinds.Kind.{Kind}
use Rattle.llrp_schema.specs.declared.kinds.Kind.TheVariants.{Message, Parameter}
use Rattle.llrp_schema.specs.declared.kinds.Tail.{Tail}
use Rattle.llrp_schema.specs.Schema.{FieldRule, GroupRule, number_of, fields_of, tail_of, groups_of, rule_of, message_rule, param_rule, message_kinds, param_kinds, is_tv, message_in, tlv_in, tv_in, set_of_kind, key_of, whole_message_kinds, whole_param_kinds, is_member, has_place}
use Rattle.llrp_schema.specs.Calls.Schema.{param_named_in}
use Rattle.llrp_schema.proofs.SchemaLemmas.{find-all, implied}
use Rattle.llrp_schema.proofs.TableLaws.{param_at_name}
use Rattle.llrp_schema.specs.Schema.{name_of, params_of}
use Rattle.std.specs.Cmp.Lexicographic.{pointwise}
use Rattle.llrp_endpoints.specs.Heard.{own_kind}

-- the kind of the whole standard with the number of a kind
abbrev pub standard_kind : ParamKind → ParamKind
standard_kind kind = unwrap_or (find (λ other. number_of (Parameter other) == number_of (Parameter kind)) whole_param_kinds) kind

abbrev pub standard_message : MsgKind → MsgKind
standard_message kind = unwrap_or (find (λ other. number_of (Message other) == number_of (Message kind)) whole_message_kinds) kind

-- a field without its name
abbrev pub nameless : FieldRule → FieldRule
nameless rule = record { name = []; width = rule.width; reserved = rule.reserved; greatest = rule.greatest; signed = rule.signed }

-- what a kind spells besides its children
pub record Form : Type 0 where
  pub set : KindSet
  pub number : ℕ
  pub fields : List FieldRule
  pub tail : Tail

abbrev pub form_in : KindSet → Kind → Form
form_in set kind = record { set = set; number = number_of kind; fields = map nameless (fields_of kind); tail = tail_of kind }

abbrev pub form_of : Kind → Form
form_of kind = form_in (set_of_kind kind) kind

abbrev pub is_own : KindSet → Bool
is_own Profile = true
is_own Standard = false

-- ---- forms

pub param_form : (kind : ParamKind) → cond (is_own (set_of_kind (Parameter kind))) (form_of (Parameter (standard_kind kind))) (form_in Standard (Parameter kind)) ≡ form_in Standard (Parameter kind)
unfolding number_of fields_of tail_of set_of_kind rule_of param_rule whole_param_kinds
param_form AntennaId = refl
param_form _ = refl

pub message_form : (kind : MsgKind) → cond (is_own (set_of_kind (Message kind))) (form_of (Message (standard_message kind))) (form_in Standard (Message kind)) ≡ form_in Standard (Message kind)
unfolding number_of fields_of tail_of set_of_kind rule_of message_rule whole_message_kinds
message_form SetReaderConfig = refl
message_form _ = refl

pub own_of_standard : (kind : ParamKind) → cond (is_own (set_of_kind (Parameter kind))) (own_kind (standard_kind kind)) (Some kind) ≡ Some kind
unfolding number_of set_of_kind rule_of param_rule param_kinds whole_param_kinds is_tv tlv_in tv_in
own_of_standard AntennaId = refl
own_of_standard _ = refl

-- ---- groups

abbrev pub same_bool : Bool → Bool → Bool
same_bool true b = b
same_bool false b = not b

abbrev pub same_most : Option ℕ → Option ℕ → Bool
same_most None None = true
same_most (Some m) (Some n) = m == n
same_most None (Some n) = false
same_most (Some m) None = false

-- no kind of the profile is of the group, and it needs no child
abbrev pub is_foreign : GroupRule → Bool
is_foreign group = (group.least == 0) && list_all (λ kind. not (is_member group (standard_kind kind))) param_kinds

-- of the kinds of the profile the groups have the same, and they have the same bounds
abbrev pub is_same : GroupRule → GroupRule → Bool
is_same group own = (group.least == own.least) && (same_most group.most own.most && list_all (λ kind. same_bool (is_member group (standard_kind kind)) (is_member own kind)) param_kinds)

-- the groups take what the profile's take
abbrev pub take_own : List GroupRule → List GroupRule → Bool
take_own groups owns = list_all (λ group. is_foreign group || list_any (λ own. is_same group own) owns) groups && list_all (λ kind. not (has_place owns kind) || has_place groups (standard_kind kind)) param_kinds

pub param_groups : (kind : ParamKind) → (not (is_own (set_of_kind (Parameter kind))) || take_own (groups_of (Parameter (standard_kind kind))) (groups_of (Parameter kind))) ≡ true
unfolding number_of set_of_kind rule_of param_rule param_kinds whole_param_kinds groups_of key_of
param_groups AntennaId = refl
param_groups _ = refl

pub message_groups : (kind : MsgKind) → (not (is_own (set_of_kind (Message kind))) || take_own (groups_of (Message (standard_message kind))) (groups_of (Message kind))) ≡ true
unfolding number_of set_of_kind rule_of message_rule param_rule param_kinds whole_param_kinds whole_message_kinds groups_of key_of
message_groups SetReaderConfig = refl
message_groups _ = refl

-- ---- a test that every kind of the profile passes

pub listed : (test : ParamKind → Bool) (kind : ParamKind) → list_all test param_kinds ≡ true → set_of_kind (Parameter kind) ≡ Profile → test kind ≡ true
unfolding param_named_in
listed test kind all own = find-all (λ other. pointwise nat_eq (name_of (Parameter other)) (name_of (Parameter kind))) test (params_of Profile) kind all
    (subst (λ (p : KindSet). find (λ other. pointwise nat_eq (name_of (Parameter other)) (name_of (Parameter kind))) (params_of p) ≡ Some kind) own (param_at_name kind))
