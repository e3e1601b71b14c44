-- A value that is refused says no message, and no parameter.
use Rattle.std.proofs.Common.{◌≡◌, inl, inr, ℕ, zero, suc, List, [], ◌∷◌, Option, Some, None, sym, ap, subst, ◌∙◌}
use Rattle.std.specs.Prelude.{codes, option_and_then}
use Rattle.json.specs.Find.{as_str, get}
use Rattle.json.specs.Json.{Json, Items, no_items, item, Members}
use Rattle.llrp_schema.specs.declared.kinds.Kind.{Kind}
use Rattle.llrp_schema.specs.declared.kinds.Kind.TheVariants.{Message, Parameter}
use Rattle.llrp_schema.specs.declared.kinds.KindSet.{KindSet}
use Rattle.llrp_schema.specs.declared.kinds.MsgKind.{MsgKind}
use Rattle.llrp_schema.specs.declared.kinds.ParamKind.{ParamKind}
use Rattle.llrp_schema.specs.Schema.{FieldRule, name_of, plain_fields_of}
use Rattle.llrp_tree.specs.declared.TheConstants.{MAX_DEPTH}
use Rattle.llrp_tree.specs.Checks.{first_fault, first_message_fault}
use Rattle.llrp_tree.specs.Tree.{Forest, MessageTree, Tree, forest, trees}
use Rattle.llrp_tree.proofs.LawLemmas.{lawful_to, message_to}
use Rattle.llrp_tree.proofs.TreeLemmas.{forest-trees}
use Rattle.llrp_listing.specs.NodeLine.{Version}
use Rattle.llrp_json_read.specs.declared.refusal.Reason.{Reason}
use Rattle.llrp_json_read.specs.JsonLine.{RefusesLine, SaysLine}
use Rattle.llrp_json_read.specs.MemberRules.{member_rules}
use Rattle.llrp_json_read.specs.ObjectMembers.{member_fault}
use Rattle.llrp_json_read.specs.ObjectRefused.{IsMessage, IsParameter, Refused, RefusesEach, RefusesFields, RefusesKind, RefusesMembers, RefusesMessage, RefusesName, RefusesOwnMessage, RefusesOwnParts, RefusesParameter, RefusesValues}
use Rattle.llrp_json_read.specs.ObjectSays.{IsOfKind, SaysEach, SaysFields, SaysMessage, SaysParameter, SaysParts, below, kind_member}
use Rattle.llrp_json_read.proofs.OneMessage.{each_said, kind_said, number_said, parameter_said, parts_said}

-- ---- the kind and the members

name_refused : (name : List ℕ) (o : Option Json) (why : Reason) (text : List ℕ) → RefusesName name o why → option_and_then as_str o ≡ Some text → ⊥
name_refused name None why text r is = cc
name_refused name (Some j) why text r is =
    let bad : None ≡ Some text = sym r.0 ∙ is in
    cc

kind_refused : (p : KindSet) (IsSuch : Kind → Type 0) (kind : Kind) (j : Json) (r : Refused) → IsSuch kind → RefusesKind p IsSuch (kind_member kind) j r → IsOfKind p kind j → ⊥
kind_refused p IsSuch kind j r such (inl (none, is)) k =
    let bad : None ≡ Some k.members = sym none ∙ k.object in
    cc
kind_refused p IsSuch kind j r such (inr (inl (members, object, why, bad, is))) k = name_refused (kind_member kind) (get (kind_member kind) j) why (name_of kind) bad k.named
kind_refused p IsSuch kind j r such (inr (inr (members, object, text, named, none, is))) k =
    let names : ◌≡◌ {A = Option (List ℕ)} (Some (name_of kind)) (Some text) = sym k.named ∙ named in
    let same : name_of kind ≡ text = cc in
    none kind such k.own same

message_same : (p : KindSet) (a b : MsgKind) (j : Json) → IsOfKind p (Message a) j → IsOfKind p (Message b) j → a ≡ b
message_same p a b j h k =
    let names : ◌≡◌ {A = Option (List ℕ)} (Some (name_of (Message a))) (Some (name_of (Message b))) = sym h.named ∙ k.named in
    let same : name_of (Message a) ≡ name_of (Message b) = cc in
    let kinds : Message a ≡ Message b = kind_said p (Message a) (Message b) j h k same in
    cc

parameter_same : (p : KindSet) (a b : ParamKind) (j : Json) → IsOfKind p (Parameter a) j → IsOfKind p (Parameter b) j → a ≡ b
parameter_same p a b j h k =
    let names : ◌≡◌ {A = Option (List ℕ)} (Some (name_of (Parameter a))) (Some (name_of (Parameter b))) = sym h.named ∙ k.named in
    let same : name_of (Parameter a) ≡ name_of (Parameter b) = cc in
    let kinds : Parameter a ≡ Parameter b = kind_said p (Parameter a) (Parameter b) j h k same in
    cc

members_refused : (p : KindSet) (kind : Kind) (j : Json) (r : Refused) → RefusesMembers p kind j r → (h : IsOfKind p kind j) → member_fault j h.members (member_rules kind) ≡ None → ⊥
members_refused p kind j r (of_kind, at, is, told) h checked =
    let objects : ◌≡◌ {A = Option Members} (Some of_kind.members) (Some h.members) = sym of_kind.object ∙ h.object in
    let same : of_kind.members ≡ h.members = cc in
    let bad : None ≡ Some at = sym checked ∙ (ap (λ (ms : Members). member_fault j ms (member_rules kind)) (sym same) ∙ is) in
    cc

-- ---- the values

fields_refused : (rules : List FieldRule) (j : Json) (r : Refused) (ns : List ℕ) → RefusesFields rules j r → SaysFields rules j ns → ⊥
fields_refused [] j r ns bad h = absurd bad
fields_refused (rule ∷ rules) j r [] bad h = absurd h
fields_refused (rule ∷ rules) j r (n ∷ ns) (inl bad) h = bad.0 n h.0
fields_refused (rule ∷ rules) j r (n ∷ ns) (inr (said, bad)) h = fields_refused rules j r ns bad h.1

values_refused : (p : KindSet) (kind : Kind) (j : Json) (r : Refused) (fields tail : List ℕ) → RefusesValues kind j r → SaysParts p kind j fields tail → ⊥
values_refused p kind j r fields tail (inl bad) h = fields_refused (plain_fields_of kind) j r fields bad h.fields_said
values_refused p kind j r fields tail (inr (said, bad)) h = bad.0 tail h.tail_said

-- ---- parameters

each_refused : (Says : Json → Tree → Type 0) (Refuses : Json → Refused → Type 0) → ((j : Json) (r : Refused) (t : Tree) → Refuses j r → Says j t → ⊥) → (place : ℕ) (js : Items) (r : Refused) (ts : List Tree) → RefusesEach Says Refuses place js r → SaysEach Says js ts → ⊥
each_refused Says Refuses none place no_items r ts bad h = absurd bad
each_refused Says Refuses none place (item j js) r [] bad h = absurd h
each_refused Says Refuses none place (item j js) r (t ∷ ts) (inl (q, bad, is)) h = none j q t bad h.0
each_refused Says Refuses none place (item j js) r (t ∷ ts) (inr (said, bad)) h = each_refused Says Refuses none (suc place) js r ts bad h.1

own_parts_refused : (p : KindSet) (j : Json) (r : Refused) (kind : ParamKind) (fields tail : List ℕ) → RefusesOwnParts p j r → SaysParts p (Parameter kind) j fields tail → ⊥
own_parts_refused p j r kind fields tail (inl bad) h = kind_refused p IsParameter (Parameter kind) j r tt bad h.of_kind
own_parts_refused p j r kind fields tail (inr (inl (other, bad))) h =
    let same : other ≡ kind = parameter_same p other kind j bad.0 h.of_kind in
    members_refused p (Parameter kind) j r (subst (λ (x : ParamKind). RefusesMembers p (Parameter x) j r) same bad) h.of_kind h.checked
own_parts_refused p j r kind fields tail (inr (inr (other, has, bad))) h =
    let same : other ≡ kind = parameter_same p other kind j has.0 h.of_kind in
    values_refused p (Parameter kind) j r fields tail (subst (λ (x : ParamKind). RefusesValues (Parameter x) j r) same bad) h

pub parameter_refused : (p : KindSet) (levels : ℕ) (j : Json) (r : Refused) (t : Tree) → RefusesParameter p levels j r → SaysParameter p levels j t → ⊥
parameter_refused p zero j r t bad h = h
parameter_refused p (suc levels) j r t (inl bad) h = own_parts_refused p j r t.kind t.fields t.tail bad h.0
parameter_refused p (suc levels) j r t (inr (inl (kind, fields, tail, parts, bad))) h =
    each_refused (SaysParameter p levels) (RefusesParameter p levels) (λ i q u b s. parameter_refused p levels i q u b s) 0 (below j) r (trees t.children) bad h.1
parameter_refused p (suc levels) j r t (inr (inr (kind, q))) (said, each, lawful) =
    let same : kind ≡ t.kind = parameter_same p kind t.kind j q.parts.of_kind said.of_kind in
    let parts = parts_said p (Parameter kind) (Parameter t.kind) j q.fields t.fields q.tail t.tail (ap (λ (x : ParamKind). Parameter x) same) q.parts said in
    let below_same : q.children ≡ trees t.children = each_said (SaysParameter p levels) (λ i a b x y. parameter_said p levels i a b x y) (below j) q.children (trees t.children) q.each each in
    let children : forest q.children ≡ t.children = ap forest below_same ∙ forest-trees t.children in
    let moved : first_fault kind q.fields q.tail (forest q.children) ≡ first_fault t.kind t.fields t.tail t.children =
    ap (λ (x : ParamKind). first_fault x q.fields q.tail (forest q.children)) same
    ∙ (ap (λ (x : List ℕ). first_fault t.kind x q.tail (forest q.children)) parts.0
    ∙ (ap (λ (x : List ℕ). first_fault t.kind t.fields x (forest q.children)) parts.1 ∙ ap (λ (x : Forest). first_fault t.kind t.fields t.tail x) children)) in
    let bad : None ≡ Some q.fault = sym (lawful_to t.kind t.fields t.tail t.children lawful.0) ∙ (sym moved ∙ q.first) in
    cc

-- ---- messages

own_message_refused : (p : KindSet) (j : Json) (r : Refused) (m : MessageTree) → RefusesOwnMessage p j r → SaysMessage p j m → ⊥
own_message_refused p j r m (inl bad) h = kind_refused p IsMessage (Message m.kind) j r tt bad h.parts.of_kind
own_message_refused p j r m (inr (inl (other, bad))) h =
    let same : other ≡ m.kind = message_same p other m.kind j bad.0 h.parts.of_kind in
    members_refused p (Message m.kind) j r (subst (λ (x : MsgKind). RefusesMembers p (Message x) j r) same bad) h.parts.of_kind h.parts.checked
own_message_refused p j r m (inr (inr (inl (other, has, inl bad)))) h = bad.0 m.version h.version
own_message_refused p j r m (inr (inr (inl (other, has, inr bad)))) h = bad.1 m.id h.id
own_message_refused p j r m (inr (inr (inr (other, has, start, bad)))) h =
    let same : other ≡ m.kind = message_same p other m.kind j has.0 h.parts.of_kind in
    values_refused p (Message m.kind) j r m.fields m.tail (subst (λ (x : MsgKind). RefusesValues (Message x) j r) same bad) h.parts

pub message_refused : (p : KindSet) (j : Json) (r : Refused) (m : MessageTree) → RefusesMessage p j r → SaysMessage p j m → ⊥
message_refused p j r m (inl bad) h = own_message_refused p j r m bad h
message_refused p j r m (inr (inl (kind, fields, tail, parts, start, bad))) h =
    each_refused (SaysParameter p MAX_DEPTH) (RefusesParameter p MAX_DEPTH) (λ i q u b s. parameter_refused p MAX_DEPTH i q u b s) 0 (below j) r (trees m.children) bad h.parameters
message_refused p j r m (inr (inr (kind, q))) h =
    let same : kind ≡ m.kind = message_same p kind m.kind j q.parts.of_kind h.parts.of_kind in
    let parts = parts_said p (Message kind) (Message m.kind) j q.fields m.fields q.tail m.tail (ap (λ (x : MsgKind). Message x) same) q.parts h.parts in
    let version : q.version ≡ m.version = number_said Version (codes "version") j q.version m.version q.version_said h.version in
    let below_same : q.children ≡ trees m.children = each_said (SaysParameter p MAX_DEPTH) (λ i a b x y. parameter_said p MAX_DEPTH i a b x y) (below j) q.children (trees m.children) q.each h.parameters in
    let children : forest q.children ≡ m.children = ap forest below_same ∙ forest-trees m.children in
    let moved : first_message_fault q.version kind q.fields q.tail (forest q.children) ≡ first_message_fault m.version m.kind m.fields m.tail m.children =
    ap (λ (x : ℕ). first_message_fault x kind q.fields q.tail (forest q.children)) version
    ∙ (ap (λ (x : MsgKind). first_message_fault m.version x q.fields q.tail (forest q.children)) same
    ∙ (ap (λ (x : List ℕ). first_message_fault m.version m.kind x q.tail (forest q.children)) parts.0
    ∙ (ap (λ (x : List ℕ). first_message_fault m.version m.kind m.fields x (forest q.children)) parts.1 ∙ ap (λ (x : Forest). first_message_fault m.version m.kind m.fields m.tail x) children))) in
    let bad : None ≡ Some q.fault = sym (message_to m h.lawful) ∙ (sym moved ∙ q.first) in
    cc

pub line_refused_says_none : (p : KindSet) (line : List ℕ) (r : Refused) (m : MessageTree) → RefusesLine p line r → SaysLine p line m → ⊥
line_refused_says_none p line r m (inl (none, is)) (j, utf8, are, h) =
    let bad : None ≡ Some j = sym (none utf8) ∙ are in
    cc
line_refused_says_none p line r m (inr (i, utf8, is, refused)) (j, other, are, h) =
    let values : ◌≡◌ {A = Option Json} (Some j) (Some i) = sym are ∙ is in
    let same : j ≡ i = cc in
    message_refused p i r m refused (subst (λ (x : Json). SaysMessage p x m) same h)
