-- A lawful ADD_ROSPEC has one parameter, its ROSpec.
use Rattle.std.proofs.Common.{◌≡◌, ℕ, ◌≤◌, List, [], ◌∷◌, ◌++◌, length, Bool, true, false, refl, sym, ap, ◌∙◌, arith, length-append}
use Rattle.std.specs.Prelude.{None, Some, ◌||◌, find, cond}
use Rattle.llrp_schema.specs.declared.kinds.MsgKind.{MsgKind}
use Rattle.llrp_schema.specs.declared.kinds.MsgKind.TheVariants as kinds
use Rattle.llrp_schema.specs.declared.kinds.ParamKind.{ParamKind}
use Rattle.llrp_schema.specs.declared.kinds.ParamKind.TheVariants.{RoSpec}
use Rattle.llrp_schema.specs.declared.kinds.Kind.TheVariants.{Message}
use Rattle.llrp_schema.specs.Schema.{GroupRule, one, number_of, rule_of, message_rule, groups_of, fields_of, plain_fields_of, key_of, set_of_kind}
use Rattle.llrp_tree.specs.Tree.{Forest, none, and, Tree, MessageTree, trees}
use Rattle.llrp_tree.specs.Lawful.{is_member, count, ArePlaced, NoneTooMany, NoneMissing, IsLawfulMessage}
use Rattle.llrp_tree.proofs.LawLemmas.{range_length, same_number}
use Rattle.llrp_session.specs.Contents.{AddRoSpec}
use Rattle.llrp_session.specs.Reading.{adding, request_in, request_of}
use Rattle.llrp_session.specs.RoSpec.{is_kind, first_in}
use Rattle.llrp_session.proofs.ReadFields.{kind_of_test}

-- each of a row is of the one group
pub or_none : (b : Bool) → (b || false) ≡ true → b ≡ true
or_none true e = refl
or_none false e = absurd cc

pub all_members : (g : GroupRule) (f : Forest) → ArePlaced (g ∷ []) f → count g f ≡ length (trees f)
unfolding ArePlaced count
all_members g none p = refl
all_members g (and before kind fields tail children) p =
    let t : Tree = record { kind = kind; fields = fields; tail = tail; children = children } in
    let here : is_member g kind ≡ true = or_none (is_member g kind) p.1 in
    let ih = all_members g before p.0 in
    rw here (omega (arith, ih, length-append (trees before) (t ∷ [])))

-- a row of one
abbrev Only : ParamKind → Forest → Type 0
Only kind f = (t : Tree) × (trees f ≡ t ∷ []) × (t.kind ≡ kind)

pub nothing : (ts : List Tree) → length ts ≤ 0 → ts ≡ []
nothing [] h = refl
nothing (t ∷ ts) h = absurd (omega arith)

only_in : (f : Forest) → ArePlaced (groups_of (Message kinds.AddRoSpec)) f → NoneTooMany (groups_of (Message kinds.AddRoSpec)) f → NoneMissing (groups_of (Message kinds.AddRoSpec)) f → Only RoSpec f
unfolding ArePlaced NoneTooMany NoneMissing count groups_of rule_of message_rule number_of key_of set_of_kind
only_in none p m l = absurd (omega (arith, l.0))
only_in (and before kind fields tail children) p m l =
    let t : Tree = record { kind = kind; fields = fields; tail = tail; children = children } in
    let all = all_members (one RoSpec) (and before kind fields tail children) p in
    let size = length-append (trees before) (t ∷ []) in
    let empty : trees before ≡ [] = nothing (trees before) (omega (arith, all, size, m.0)) in
    (t, ap (λ (ts : List Tree). ts ++ t ∷ []) empty, kind_of_test RoSpec t (or_none _ (or_none _ p.1)))

-- what has a ROSpec to add is ADD_ROSPEC
adds : (kind : MsgKind) (fields : List ℕ) (row : Forest) (rospec : Tree) → request_in kind fields row ≡ AddRoSpec rospec → kind ≡ kinds.AddRoSpec
adds kinds.AddRoSpec fields row rospec e = refl
adds kinds.DeleteRoSpec fields row rospec e = absurd cc
adds kinds.StartRoSpec fields row rospec e = absurd cc
adds kinds.StopRoSpec fields row rospec e = absurd cc
adds kinds.EnableRoSpec fields row rospec e = absurd cc
adds kinds.DisableRoSpec fields row rospec e = absurd cc
adds kinds.GetRoSpecs fields row rospec e = absurd cc
adds kinds.SetReaderConfig fields row rospec e = absurd cc
adds kinds.GetReport fields row rospec e = absurd cc
adds kinds.CloseConnection fields row rospec e = absurd cc
adds kinds.KeepaliveAck fields row rospec e = absurd cc
adds kinds.EnableEventsAndReports fields row rospec e = absurd cc
adds kinds.ErrorMessage fields row rospec e = absurd cc
adds _ fields row rospec e = absurd cc

found : (row : Forest) (t rospec : Tree) → trees row ≡ t ∷ [] → t.kind ≡ RoSpec → adding (first_in RoSpec row) ≡ AddRoSpec rospec → rospec ≡ t
found row t rospec only k e =
    let is : is_kind RoSpec t ≡ true = same_number (key_of RoSpec) (key_of t.kind) (ap key_of (sym k)) in
    let first : first_in RoSpec row ≡ Some t = ap (find (is_kind RoSpec)) only ∙ ap (λ (b : Bool). cond b (Some t) None) is in
    let here : AddRoSpec t ≡ AddRoSpec rospec = sym (ap adding first) ∙ e in cc

-- A message has one parameter, the ROSpec that it adds.
pub record AddsOne (m : MessageTree) : Type 0 where
  pub rospec : Tree
  pub only : trees m.children ≡ rospec ∷ []
  pub kind : rospec.kind ≡ RoSpec
  pub added : (other : Tree) → request_of m ≡ AddRoSpec other → other ≡ rospec

pub adds_one : (m : MessageTree) (rospec : Tree) → IsLawfulMessage m → request_of m ≡ AddRoSpec rospec → AddsOne m
unfolding request_of
adds_one m rospec h e =
    let k = adds m.kind m.fields m.children rospec e in
    let here = only_in m.children (rw k at h.obeys.placed) (rw k at h.obeys.most) (rw k at h.obeys.least) in
    record { rospec = here.0; only = here.1; kind = here.2; added = λ other f. found m.children here.0 other here.1 here.2 (rw k at f) }

not_nil : (xs : List Tree) (s : Tree) → xs ++ s ∷ [] ≡ [] → ⊥
not_nil [] s e = cc
not_nil (x ∷ xs) s e = cc

-- the last one of a row of one
pub last_of : (xs : List Tree) (s t : Tree) → xs ++ s ∷ [] ≡ t ∷ [] → s ≡ t
last_of [] s t e = cc
last_of (x ∷ xs) s t e = absurd (let rest : xs ++ s ∷ [] ≡ [] = cc in not_nil xs s rest)

-- SET_READER_CONFIG has one field
pub config_fields : (m : MessageTree) → IsLawfulMessage m → m.kind ≡ kinds.SetReaderConfig → length m.fields ≡ 1
unfolding fields_of rule_of message_rule
config_fields m h k = range_length (plain_fields_of (Message kinds.SetReaderConfig)) m.fields (rw k at h.obeys.ranges)
