-- The texts of plans' ROSpecs are short.
use Rattle.std.proofs.Common.{◌≡◌, ℕ, ◌+◌, ◌*◌, ◌<◌, ◌≤◌, inl, inr, List, [], ◌∷◌, ◌++◌, length, refl, sym, subst, arith, length-append, lit≤}
use Rattle.std.proofs.lemmas.List.{append-nil}
use Rattle.llrp_schema.specs.declared.kinds.MsgKind.TheVariants.{AddRoSpec, WholeAddRoSpec}
use Rattle.llrp_schema.specs.declared.kinds.ParamKind.TheVariants.{RoSpec, WholeRoSpec}
use Rattle.llrp_schema.specs.declared.kinds.Kind.TheVariants.{Message}
use Rattle.llrp_schema.specs.declared.kinds.KindSet.{KindSet}
use Rattle.llrp_schema.specs.declared.kinds.KindSet.TheVariants.{Profile, Standard}
use Rattle.llrp_schema.specs.Schema.{rule_of, message_rule, param_rule, number_of, key_of, set_of_kind, fields_of, tail_of, groups_of}
use Rattle.llrp_tree.specs.Tree.{Tree, forest}
use Rattle.llrp_tree.specs.Lawful.{ArePlaced, IsLawfulMessage, IsLawfulTree, NoneMissing, NoneTooMany, Obeys, body_octets, count, message_octets, tree_octets}
use Rattle.llrp_stream.specs.Device.{SourceLog}
use Rattle.llrp_listing.specs.Copying.{ReadAll}
use Rattle.llrp_listing.proofs.LawfulLines.{listing_octets}
use Rattle.llrp_endpoints.specs.Calls.Plans.{longest_rospec, rospec_kind}
use Rattle.llrp_endpoints.specs.Calls.PlanTexts.{IsTaken, adding, adding_kind, heading, ListsRoSpec}
use Rattle.llrp_endpoints.specs.Calls.ReadRoSpec.{BeginsNoRoSpec, IsEnough}
use Rattle.llrp_endpoints.specs.declared.plan.reading.TheConstants.{LONGEST_ROSPEC_TEXT}

-- the message that adds a ROSpec is lawful
own_obeys : (t : Tree) → t.kind ≡ RoSpec → Obeys (Message AddRoSpec) [] [] (forest (t ∷ []))
unfolding ArePlaced NoneTooMany NoneMissing count rule_of message_rule param_rule number_of key_of set_of_kind fields_of tail_of groups_of
own_obeys t kind = record { ranges = tt; form = refl; bytes = tt; placed = (tt, rw kind refl); most = rw kind (lit≤ tt, tt); least = rw kind (lit≤ tt, tt) }

whole_obeys : (t : Tree) → t.kind ≡ WholeRoSpec → Obeys (Message WholeAddRoSpec) [] [] (forest (t ∷ []))
unfolding ArePlaced NoneTooMany NoneMissing count rule_of message_rule param_rule number_of key_of set_of_kind fields_of tail_of groups_of
whole_obeys t kind = record { ranges = tt; form = refl; bytes = tt; placed = (tt, rw kind refl); most = rw kind (lit≤ tt, tt); least = rw kind (lit≤ tt, tt) }

obeys : (set : KindSet) (t : Tree) → t.kind ≡ rospec_kind set → Obeys (Message (adding_kind set)) [] [] (forest (t ∷ []))
obeys Profile t kind = own_obeys t kind
obeys Standard t kind = whole_obeys t kind

no_body : (set : KindSet) → body_octets (Message (adding_kind set)) [] ≡ 0
unfolding body_octets rule_of message_rule fields_of tail_of
no_body Profile = refl
no_body Standard = refl

pub adding_octets : (set : KindSet) (t : Tree) → message_octets (adding set t) ≡ 10 + tree_octets t
adding_octets set t = let none = no_body set in omega (arith, none)

pub adding_lawful : (set : KindSet) (t : Tree) → t.kind ≡ rospec_kind set → IsLawfulTree t → IsLawfulMessage (adding set t)
adding_lawful set t kind lawful = record {
  version = inl refl;
  id = omega arith;
  obeys = obeys set t kind;
  children = (tt, lawful.0, lawful.1);
  long = (let size = adding_octets set t in let within = lawful.0.long in omega (arith, size, within));
}

text_short : (set : KindSet) (text : List ℕ) (t : Tree) → t.kind ≡ rospec_kind set → IsLawfulTree t → tree_octets t ≤ longest_rospec → ListsRoSpec set text t → length text ≤ LONGEST_ROSPEC_TEXT
text_short set text t kind lawful short lists =
    let size = adding_octets set t in
    omega (arith, size, short, listing_octets (adding set t) (heading ++ text) (adding_lawful set t kind lawful) lists, length-append heading text)

-- a text that is longer begins that of none
pub begins_none : (text : List ℕ) → LONGEST_ROSPEC_TEXT < length text → BeginsNoRoSpec text
begins_none text long = λ set more t kind lawful short lists. (let fits = text_short set (text ++ more) t kind lawful short lists in omega (arith, long, fits, length-append text more))

-- where what was read lists one, it is all that the source had
pub read_whole : (set : KindSet) (r0 r1 : SourceLog) (text : List ℕ) (t : Tree) → IsEnough r0 r1 text → IsTaken set t → ListsRoSpec set text t → ReadAll r0 r1 text
read_whole set r0 r1 text t (inl all) taken lists = all
read_whole set r0 r1 text t (inr (given, none)) taken lists = absurd (none set [] t taken.kind taken.lawful taken.short (subst (λ (x : List ℕ). ListsRoSpec set x t) (sym (append-nil text)) lists))
