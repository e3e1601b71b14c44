-- Plans with a ROSpec of the whole standard.
use Rattle.std.proofs.Common.{◌≡◌, ◌∙◌, ℕ, ◌==◌, ◌||◌, ◌<◌, ◌^◌, Bool, true, false, not, List, [], ◌∷◌, map, refl, sym, ap, subst, arith}
use Rattle.std.specs.Prelude.{Option, None, Some, if◌then◌else◌, nat_lt, ◌⊎◌}
use Rattle.std.proofs.lemmas.Bool.Decides.{nat_tests}
use Rattle.llrp_schema.specs.declared.kinds.MsgKind.{MsgKind}
use Rattle.llrp_schema.specs.declared.kinds.MsgKind.TheVariants.{WholeAddRoSpec}
use Rattle.llrp_schema.specs.declared.kinds.ParamKind.{ParamKind}
use Rattle.llrp_schema.specs.declared.kinds.ParamKind.TheVariants.{RoSpec, WholeRoSpec}
use Rattle.llrp_schema.specs.declared.kinds.Kind.TheVariants.{Message, Parameter}
use Rattle.llrp_schema.specs.declared.kinds.KindSet.{KindSet}
use Rattle.llrp_schema.specs.declared.kinds.KindSet.TheVariants.{Profile, Standard}
use Rattle.llrp_schema.specs.Schema.{rule_of, param_rule, number_of, key_of, set_of_kind, fields_of, tail_of, is_tv, plain_fields_of}
use Rattle.llrp_tree.specs.declared.node.NodeFault.{NodeFault}
use Rattle.llrp_tree.specs.Tree.{Forest, Tree, MessageTree, forest, trees}
use Rattle.llrp_tree.specs.Checks.{first_message_fault}
use Rattle.llrp_tree.proofs.LawLemmas.{message_to}
use Rattle.llrp_tree.proofs.TreeLemmas.{forest-trees}
use Rattle.llrp_tree.specs.Lawful.{AreInRange, IsLawfulMessage, IsLawfulTree, body_octets, tree_octets}
use Rattle.llrp_session.specs.RoSpec.{is_kind, field_of}
use Rattle.llrp_session.proofs.ReadFields.{kind_of_test}
use Rattle.llrp_endpoints.specs.declared.plan.PlanFault.{PlanFault}
use Rattle.llrp_endpoints.specs.declared.plan.PlanFault.TheVariants.{NotRoSpec, Value, OverLimit}
use Rattle.llrp_endpoints.specs.Heard.{kept_where}
use Rattle.llrp_endpoints.specs.Calls.Plans.{longest_rospec, plan_fault, rospec_kind}
use Rattle.llrp_endpoints.specs.Asides.{instead}
use Rattle.llrp_endpoints.specs.Calls.PlanTexts.{IsTaken, adding, known}
use Rattle.llrp_endpoints.proofs.RoSpecTexts.{adding_lawful}
use Rattle.llrp_endpoints.proofs.TableHeard.{kept_is, same_ranges}

-- ---- what a plan takes

-- none of the tests of a ROSpec fails
record Passes (kind value long : Bool) : Type 0 where
  kind_is : kind ≡ true
  value_is : value ≡ false
  long_is : long ≡ false

passes : (kind value long : Bool) → (if not kind then Some NotRoSpec else (if value then Some Value else (if long then Some OverLimit else None))) ≡ None → Passes kind value long
passes true false false e = record { kind_is = refl; value_is = refl; long_is = refl }
passes true false true e = cc e
passes true true long e = cc e
passes false value long e = cc e

tests : (set : KindSet) (t : Tree) → plan_fault set t ≡ None → Passes (is_kind (rospec_kind set) t) ((field_of 0 (Some t) == 0) || not (field_of 2 (Some t) == 0)) (nat_lt longest_rospec (tree_octets t))
tests set t e = passes (is_kind (rospec_kind set) t) ((field_of 0 (Some t) == 0) || not (field_of 2 (Some t) == 0)) (nat_lt longest_rospec (tree_octets t)) e

pub is_taken : (set : KindSet) (t : Tree) → IsLawfulTree t → plan_fault set t ≡ None → IsTaken set t
is_taken set t lawful e =
    let p = tests set t e in
    record {
      kind = kind_of_test (rospec_kind set) t p.kind_is;
      lawful = lawful;
      short = (let long = p.long_is in grind (arith, nat_tests, long));
    }

-- ---- what its client knows

known_kind : (t : Tree) → is_kind RoSpec (known t) ≡ true
unfolding key_of number_of set_of_kind rule_of param_rule
known_kind t = refl

known_octets : (t : Tree) → nat_lt longest_rospec (tree_octets (known t)) ≡ false
unfolding body_octets number_of key_of set_of_kind rule_of param_rule fields_of is_tv tail_of
known_octets t = refl

-- the client's plan takes it
pub known_passes : (t : Tree) → plan_fault Standard t ≡ None → plan_fault Profile (known t) ≡ None
known_passes t e =
    let p = tests Standard t e in
    ap (λ b. if not b then Some NotRoSpec else (if (field_of 0 (Some t) == 0) || not (field_of 2 (Some t) == 0) then Some Value else (if nat_lt longest_rospec (tree_octets (known t)) then Some OverLimit else None))) (known_kind t)
    ∙ ap (λ b. if b then Some Value else (if nat_lt longest_rospec (tree_octets (known t)) then Some OverLimit else None)) p.value_is
    ∙ ap (λ b. if b then Some OverLimit else None) (known_octets t)

pub known_is : (t : Tree) → t.kind ≡ WholeRoSpec → IsLawfulTree t → kept_where RoSpec t.fields ≡ Some (known t)
known_is t kind lawful = kept_is t.fields (same_ranges t.fields (subst (λ (k : ParamKind). AreInRange (plain_fields_of (Parameter k)) t.fields) kind lawful.0.obeys.ranges))

-- ---- a message with another id

-- of the parts of a message and an id
pub made_of : (m : MessageTree) (v i : ℕ) (k : MsgKind) (fs tail : List ℕ) (ts : List Tree) → v ≡ m.version → k ≡ m.kind → fs ≡ m.fields → tail ≡ m.tail → ts ≡ trees m.children
    → record { version = v; id = i; kind = k; fields = fs; tail = tail; children = forest ts } ≡ record m { id = i }
made_of m v i k fs tail ts a b c d e = rw (a, b, c, d, e, forest-trees m.children) refl

pub other_id : (m : MessageTree) (v i : ℕ) (k : MsgKind) (fs tail : List ℕ) (ts : List Tree) → v ≡ m.version → k ≡ m.kind → fs ≡ m.fields → tail ≡ m.tail → ts ≡ trees m.children → i < 2 ^ 32 → IsLawfulMessage m
    → IsLawfulMessage (record { version = v; id = i; kind = k; fields = fs; tail = tail; children = forest ts })
other_id m v i k fs tail ts a b c d e small lawful =
    let own : IsLawfulMessage (record m { id = i }) = record { version = lawful.version; id = small; obeys = lawful.obeys; children = lawful.children; long = lawful.long } in
    subst IsLawfulMessage (sym (made_of m v i k fs tail ts a b c d e)) own

-- ---- what is said in place

pub none_instead : (ms : List MessageTree) → map (instead None) ms ≡ ms
none_instead [] = refl
none_instead (m ∷ ms) = ap (λ (rest : List MessageTree). m ∷ rest) (none_instead ms)

-- the message that adds a ROSpec has no fault
pub adding_passes : (t : Tree) (row : List Tree) (fault : NodeFault) → t.kind ≡ WholeRoSpec → IsLawfulTree t → row ≡ t ∷ [] → first_message_fault 1 WholeAddRoSpec [] [] (forest row) ≡ Some fault → ⊥
adding_passes t row fault kind lawful is e =
    let none = message_to (adding Standard t) (adding_lawful Standard t kind lawful) in
    let same = sym e ∙ ap (λ (ts : List Tree). first_message_fault 1 WholeAddRoSpec [] [] (forest ts)) is ∙ none in cc
