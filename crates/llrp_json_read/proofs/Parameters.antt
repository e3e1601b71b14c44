-- What a value says of a parameter, and why it says none.
use Rattle.std.proofs.Common.{◌≡◌, ℕ, zero, suc, ◌-◌, ◌<◌, inl, inr, List, [], ◌∷◌, ◌++◌, length, None, Some, Option, sym, ap, subst, ◌∙◌, arith, append_assoc, length-append}
use Rattle.std.proofs.lemmas.List.{append-nil}
use Rattle.std.specs.Prelude.{Result, Ok, Err, MatchResult, option_and_then, unwrap_or, codes}
use Rattle.json.specs.Find.{as_array, as_object, get}
use Rattle.json.specs.Json.{Json, Items, no_items, item, Members}
use Rattle.llrp_schema.specs.declared.kinds.Kind.{Kind}
use Rattle.llrp_schema.specs.declared.kinds.Kind.TheVariants.{Parameter}
use Rattle.llrp_schema.specs.declared.kinds.KindSet.{KindSet}
use Rattle.llrp_schema.specs.declared.kinds.ParamKind.{ParamKind}
use Rattle.llrp_schema.specs.Schema.{plain_fields_of, tail_of}
use Rattle.llrp_tree.specs.declared.node.NodeFault.{NodeFault}
use Rattle.llrp_tree.specs.Checks.{first_fault}
use Rattle.llrp_tree.specs.Lawful.{IsLawfulTree}
use Rattle.llrp_tree.specs.Tree.{Tree, forest}
use Rattle.llrp_tree.proofs.TreeLemmas.{trees-forest}
use Rattle.llrp_json_read.specs.declared.refusal.ReadErr.{ReadErr}
use Rattle.llrp_json_read.specs.declared.refusal.ReadErr.TheVariants as error
use Rattle.llrp_json_read.specs.declared.refusal.Reason.{Reason}
use Rattle.llrp_json_read.specs.declared.refusal.Reason.TheVariants as reason
use Rattle.llrp_json_read.specs.Calls.ReadErrors.{IsReadErr, told}
use Rattle.llrp_json_read.specs.Private.Words.{IsMoved}
use Rattle.llrp_json_read.specs.MemberRules.{member_rules}
use Rattle.llrp_json_read.specs.ObjectMembers.{member_fault}
use Rattle.llrp_json_read.specs.ObjectSays.{IsOfKind, SaysEach, SaysFields, SaysParameter, SaysParts, SaysTail, below}
use Rattle.llrp_json_read.specs.ObjectRefused.{IsParameter, Refused, RefusesEach, RefusesKind, RefusesOwnParts, RefusesParameter, RefusesValues, at_member, at_place, whole}

-- what errors say, by what each reason shows
pub as_error : (P Q : Refused → Type 0) (e : ReadErr) → ((r : Refused) → P r → Q r) → IsReadErr P e → IsReadErr Q e
as_error P Q error.Memory f h = tt
as_error P Q (error.Refused refusal) f h = f (told refusal) h

-- ---- the own parts

pub kind_refused : (p : KindSet) (j : Json) (e : ReadErr) → IsReadErr (RefusesKind p IsParameter (codes "parameter") j) e → IsReadErr (RefusesOwnParts p j) e
kind_refused p j e h = as_error _ (RefusesOwnParts p j) e (λ r bad. inl bad) h

-- a member is refused, whichever members the object is seen to have
abbrev pub FaultAt : Kind → Json → Refused → Type 0
FaultAt kind j r = (members : Members) → as_object j ≡ Some members → (at : List ℕ × Reason) × (member_fault j members (member_rules kind) ≡ Some at) × (r ≡ at_member at.0 at.1)

pub members_refused : (p : KindSet) (kind : ParamKind) (j : Json) (e : ReadErr) → IsOfKind p (Parameter kind) j → IsReadErr (FaultAt (Parameter kind) j) e → IsReadErr (RefusesOwnParts p j) e
members_refused p kind j e is h = as_error (FaultAt (Parameter kind) j) (RefusesOwnParts p j) e (λ r bad. (let b = bad is.members is.object in inr (inl (kind, (is, b.0, b.1, b.2))))) h

pub values_refused : (p : KindSet) (kind : ParamKind) (j : Json) (e : ReadErr) → IsOfKind p (Parameter kind) j
    → ((members : Members) → as_object j ≡ Some members → member_fault j members (member_rules (Parameter kind)) ≡ None) → IsReadErr (RefusesValues (Parameter kind) j) e → IsReadErr (RefusesOwnParts p j) e
values_refused p kind j e is checked h = as_error _ (RefusesOwnParts p j) e (λ r bad. inr (inr (kind, (is, checked is.members is.object), bad))) h

pub parts_said : (p : KindSet) (kind : ParamKind) (j : Json) (fields tail : List ℕ) → IsOfKind p (Parameter kind) j
    → ((members : Members) → as_object j ≡ Some members → member_fault j members (member_rules (Parameter kind)) ≡ None) → SaysFields (plain_fields_of (Parameter kind)) j fields × SaysTail (tail_of (Parameter kind)) j tail → SaysParts p (Parameter kind) j fields tail
parts_said p kind j fields tail is checked h = record { of_kind = is; checked = checked is.members is.object; fields_said = h.0; tail_said = h.1 }

-- ---- a parameter

pub own_refused : (p : KindSet) (levels : ℕ) (j : Json) (e : ReadErr) → 0 < levels → IsReadErr (RefusesOwnParts p j) e → IsReadErr (RefusesParameter p levels j) e
own_refused p zero j e some h = absurd (omega arith)
own_refused p (suc levels) j e some h = as_error _ (RefusesParameter p (suc levels) j) e (λ r bad. inl bad) h

one_less : (levels : ℕ) → 0 < levels → suc (levels - 1) ≡ levels
one_less levels some = omega arith

below_refused_one_more : (p : KindSet) (levels : ℕ) (kind : ParamKind) (j : Json) (fields tail : List ℕ) (e : ReadErr) → SaysParts p (Parameter kind) j fields tail
    → IsReadErr (RefusesEach (SaysParameter p levels) (RefusesParameter p levels) 0 (below j)) e → IsReadErr (RefusesParameter p (suc levels) j) e
below_refused_one_more p levels kind j fields tail e parts h = as_error (RefusesEach (SaysParameter p levels) (RefusesParameter p levels) 0 (below j)) (RefusesParameter p (suc levels) j) e (λ r bad. inr (inl (kind, fields, tail, parts, bad))) h

pub below_refused : (p : KindSet) (levels : ℕ) (kind : ParamKind) (j : Json) (fields tail : List ℕ) (e : ReadErr) → 0 < levels → SaysParts p (Parameter kind) j fields tail
    → IsReadErr (RefusesEach (SaysParameter p (levels - 1)) (RefusesParameter p (levels - 1)) 0 (below j)) e → IsReadErr (RefusesParameter p levels j) e
below_refused p levels kind j fields tail e some parts h = subst (λ (n : ℕ). IsReadErr (RefusesParameter p n j) e) (one_less levels some) (below_refused_one_more p (levels - 1) kind j fields tail e parts h)

-- what is made of the parts
-- what a parameter is made of these parts, or why it is not
abbrev pub IsMade : ParamKind → List ℕ → List ℕ → List Tree → Result Tree ReadErr → Type 0
IsMade kind fields tail children result =
    MatchResult result (λ node. (node ≡ record { kind = kind; fields = fields; tail = tail; children = forest children }) × IsLawfulTree node) (IsReadErr (λ r. (fault : NodeFault) × (first_fault kind fields tail (forest children) ≡ Some fault) × (r ≡ whole (reason.Node fault))))

made_one_more : (p : KindSet) (levels : ℕ) (kind : ParamKind) (j : Json) (fields tail : List ℕ) (children : List Tree) (result : Result Tree ReadErr) → SaysParts p (Parameter kind) j fields tail → SaysEach (SaysParameter p levels) (below j) children → IsMade kind fields tail children result
    → MatchResult result (SaysParameter p (suc levels) j) (IsReadErr (RefusesParameter p (suc levels) j))
made_one_more p levels kind j fields tail children (Ok node) parts each h =
    let says : SaysParameter p (suc levels) j (record { kind = kind; fields = fields; tail = tail; children = forest children }) = (parts, subst (λ (ts : List Tree). SaysEach (SaysParameter p levels) (below j) ts) (sym (trees-forest children)) each, subst IsLawfulTree h.0 h.1) in
    subst (λ (t : Tree). SaysParameter p (suc levels) j t) (sym h.0) says
made_one_more p levels kind j fields tail children (Err e) parts each h =
    as_error (λ r. (fault : NodeFault) × (first_fault kind fields tail (forest children) ≡ Some fault) × (r ≡ whole (reason.Node fault))) (RefusesParameter p (suc levels) j) e (λ r bad. inr (inr (kind, record { fields = fields; tail = tail; children = children; parts = parts; each = each; fault = bad.0; first = bad.1; refused = bad.2 }))) h

pub made : (p : KindSet) (levels : ℕ) (kind : ParamKind) (j : Json) (fields tail : List ℕ) (children : List Tree) (result : Result Tree ReadErr) → 0 < levels → SaysParts p (Parameter kind) j fields tail → SaysEach (SaysParameter p (levels - 1)) (below j) children → IsMade kind fields tail children result
    → MatchResult result (SaysParameter p levels j) (IsReadErr (RefusesParameter p levels j))
made p levels kind j fields tail children result some parts each h =
    subst (λ (n : ℕ). MatchResult result (SaysParameter p n j) (IsReadErr (RefusesParameter p n j))) (one_less levels some) (made_one_more p (levels - 1) kind j fields tail children result parts each h)

-- ---- parameters in a row

-- Values said trees, and the rest is left.
pub record EachRead (Says : Json → Tree → Type 0) (Refuses : Json → Refused → Type 0) (values : Items) (read : List Tree) (rest : Items) : Type 0 where
  pub says : (more : List Tree) → SaysEach Says rest more → SaysEach Says values (read ++ more)
  pub refuses : (r : Refused) → RefusesEach Says Refuses (length read) rest r → RefusesEach Says Refuses 0 values r

pub none_read : (Says : Json → Tree → Type 0) (Refuses : Json → Refused → Type 0) (values : Items) → EachRead Says Refuses values [] values
none_read Says Refuses values = record { says = λ more h. h; refuses = λ r h. h }

pub one_more : (Says : Json → Tree → Type 0) (Refuses : Json → Refused → Type 0) (values rest after : Items) (read new : List Tree) (j : Json) (t : Tree) → EachRead Says Refuses values read rest → rest ≡ item j after → Says j t → new ≡ read ++ t ∷ [] → EachRead Says Refuses values new after
one_more Says Refuses values rest after read new j t r split says push =
    record {
      says = λ more h. (let all = r.says (t ∷ more) (subst (λ (js : Items). SaysEach Says js (t ∷ more)) (sym split) (says, h)) in subst (λ (ts : List Tree). SaysEach Says values ts) (sym (ap (λ (ts : List Tree). ts ++ more) push ∙ append_assoc read (t ∷ []) more)) all);
      refuses = λ q h. r.refuses q (subst (λ (js : Items). RefusesEach Says Refuses (length read) js q) (sym split) (inr ((t, says), subst (λ (n : ℕ). RefusesEach Says Refuses n after q) (longer read new t push) h)));
    }
  where
    longer : (read new : List Tree) (t : Tree) → new ≡ read ++ t ∷ [] → length new ≡ suc (length read)
    longer read new t push = let l = length-append read (t ∷ []) in omega (arith, ap length push, l)

pub one_refused : (Says : Json → Tree → Type 0) (Refuses : Json → Refused → Type 0) (values rest after : Items) (read : List Tree) (j : Json) (place : ℕ) (before after_error : ReadErr) → EachRead Says Refuses values read rest → rest ≡ item j after → place ≡ length read
    → IsReadErr (Refuses j) before → IsMoved place before after_error → IsReadErr (RefusesEach Says Refuses 0 values) after_error
one_refused Says Refuses values rest after read j place before error.Memory r split same bad moved = tt
one_refused Says Refuses values rest after read j place error.Memory (error.Refused refusal) r split same bad moved = absurd moved
one_refused Says Refuses values rest after read j place (error.Refused inner) (error.Refused refusal) r split same bad moved =
    r.refuses (told refusal) (subst (λ (js : Items). RefusesEach Says Refuses (length read) js (told refusal)) (sym split) (inl (told inner, bad, moved ∙ ap (λ (n : ℕ). at_place n (told inner)) same)))

pub all_read : (Says : Json → Tree → Type 0) (Refuses : Json → Refused → Type 0) (values : Items) (read : List Tree) → EachRead Says Refuses values read no_items → SaysEach Says values read
all_read Says Refuses values read r = subst (λ (ts : List Tree). SaysEach Says values ts) (append-nil read) (r.says [] tt)

-- ---- the parameters below

pub below_is : (j : Json) (values : Items) → Some values ≡ option_and_then as_array (get (codes "parameters") j) → below j ≡ values
below_is j values e = ap (λ (o : Option Items). unwrap_or o no_items) (sym e)

pub none_below : (j : Json) → None ≡ option_and_then as_array (get (codes "parameters") j) → below j ≡ no_items
none_below j e = ap (λ (o : Option Items). unwrap_or o no_items) (sym e)
