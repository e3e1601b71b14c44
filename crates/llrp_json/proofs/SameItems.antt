-- Items that have the same line are the same.
use Rattle.std.proofs.Common.{◌≡◌, ℕ, ◌^◌, ◌<◌, List, [], ◌∷◌, ◌++◌, sum_by, refl, sym, ap, subst, ◌∙◌, arith}
use Rattle.std.specs.Prelude.{◌==◌, Option, Some, codes, decimal, find}
use Rattle.std.specs.List.{AllByRecursion}
use Rattle.std.proofs.lemmas.List.{append_cancel_right}
use Rattle.llrp_schema.specs.declared.kinds.MsgKind.{MsgKind}
use Rattle.llrp_schema.specs.declared.kinds.ParamKind.{ParamKind}
use Rattle.llrp_schema.specs.declared.kinds.Kind.{Kind}
use Rattle.llrp_schema.specs.declared.kinds.Kind.TheVariants.{Message, Parameter}
use Rattle.llrp_schema.specs.declared.kinds.KindSet.{KindSet}
use Rattle.llrp_schema.specs.Schema.{groups_of, name_of, plain_fields_of, set_of_kind}
use Rattle.llrp_schema.proofs.PlaceLemmas.{child_set}
use Rattle.llrp_schema.proofs.TableLaws.{names_in}
use Rattle.llrp_tree.specs.declared.fault.Fault.{Fault}
use Rattle.llrp_tree.specs.declared.fault.Reason.{Reason}
use Rattle.llrp_tree.specs.declared.fault.Reason.TheVariants.{Reserved, Version, MessageType, MessageLength, Short, Value as OutOfRange, Count, Utf8, ParamType, Misplaced, TooMany, TooDeep, ParamLength, Extra, Missing}
use Rattle.llrp_tree.specs.Lawful.{AllLawful, ArePlaced, IsLawfulMessage, Obeys}
use Rattle.llrp_tree.specs.Tree.{Forest, none, and, MessageTree}
use Rattle.llrp_stream.specs.declared.item.Item.{Item}
use Rattle.llrp_stream.specs.declared.item.Item.TheVariants.{Bad, Msg}
use Rattle.llrp_listing.specs.StreamListing.{frame_fault_name}
use Rattle.llrp_listing.proofs.DecimalWords.{one_number}
use Rattle.llrp_json.specs.JsonItems.{AreFields, AreParameters}
use Rattle.llrp_json.specs.Calls.JsonLaws.{IsLawfulIn}
use Rattle.llrp_json.specs.JsonLines.{IsItemJson, IsMessageJson, fault_json}
use Rattle.llrp_json.specs.JsonValues.{member, object, string}
use Rattle.llrp_json.specs.Calls.JsonTexts.{IsJson, Value}
use Rattle.llrp_json.proofs.JsonEnds.{apart}
use Rattle.llrp_json.proofs.JsonParts.{members_same, objects_same, strings_same}
use Rattle.llrp_json.proofs.JsonTextLemmas.{IsMember, text_member}
use Rattle.llrp_json.proofs.JsonTexts.{fault_first, fault_members, fault_more, forest_texts, message_first, message_members, message_more, named, parts, parts_are_members, version_below}
use Rattle.llrp_json.proofs.SameParts.{heads_same, parts_same}

-- ---- kinds

-- texts of two members with one name
texts_same : (name a b : List ℕ) → member name (string a) ≡ member name (string b) → a ≡ b
texts_same name a b e = strings_same a b (members_same name name (string a) (string b) e).1

parameter_same : (k l : ParamKind) → Parameter k ≡ Parameter l → k ≡ l
parameter_same k l e = cc

message_kind_same : (k l : MsgKind) → Message k ≡ Message l → k ≡ l
message_kind_same k l e = cc

-- ---- parameters

-- the object of a parameter
abbrev whole : ParamKind → List ℕ → List (List ℕ) → List (List ℕ) → List ℕ
whole kind tail members below = object (named kind ∷ parts (Parameter kind) tail members below)

-- what two parameters have that have one object
record IsOneObject (k l : ParamKind) (fields others tail last : List ℕ) (ss ts : List (List ℕ)) : Type 0 where
  kind : k ≡ l
  numbers : fields ≡ others
  octets : tail ≡ last
  below : ss ≡ ts

one_object : (k l : ParamKind) (fields others tail last : List ℕ) (f g : Forest) (ms ls ss ts : List (List ℕ)) → set_of_kind (Parameter k) ≡ set_of_kind (Parameter l) → Obeys (Parameter k) fields tail f → Obeys (Parameter l) others last g → AreFields (plain_fields_of (Parameter k)) fields ms → AreFields (plain_fields_of (Parameter l)) others ls
    → AllByRecursion (IsJson Value) ss → AllByRecursion (IsJson Value) ts → whole k tail ms ss ≡ whole l last ls ts → IsOneObject k l fields others tail last ss ts
one_object k l fields others tail last f g ms ls ss ts own p q a b i j e =
    let first = objects_same (named k) (named l) (parts (Parameter k) tail ms ss) (parts (Parameter l) last ls ts)
    (text_member (codes "parameter") (name_of (Parameter k)), parts_are_members (Parameter k) fields tail f ms ss p a i)
    (text_member (codes "parameter") (name_of (Parameter l)), parts_are_members (Parameter l) others last g ls ts q b j) e in
    let name : name_of (Parameter k) ≡ name_of (Parameter l) = texts_same (codes "parameter") (name_of (Parameter k)) (name_of (Parameter l)) first.0 in
    let same : k ≡ l = parameter_same k l (names_in (Parameter k) (Parameter l) own name) in
    let rest = parts_same (Parameter k) fields others tail last f g ms ls ss ts p (subst (λ (x : ParamKind). Obeys (Parameter x) others last g) (sym same) q)
    a (subst (λ (x : ParamKind). AreFields (plain_fields_of (Parameter x)) others ls) (sym same) b) i j (first.1 ∙ ap (λ (x : ParamKind). parts (Parameter x) last ls ts) (sym same)) in
    record { kind = same; numbers = rest.0; octets = rest.1; below = rest.2 }

no_last : (texts : List (List ℕ)) (one : List ℕ) → [] ≡ texts ++ one ∷ [] → ⊥
no_last [] one e = cc
no_last (text ∷ texts) one e = cc

lasts_same : (ss ts : List (List ℕ)) (s t : List ℕ) → ss ++ s ∷ [] ≡ ts ++ t ∷ [] → (ss ≡ ts) × (s ≡ t)
lasts_same [] [] s t e = (refl, (heads_same s t [] [] e).0)
lasts_same [] (u ∷ ts) s t e = absurd (no_last ts t (heads_same s u [] (ts ++ t ∷ []) e).1)
lasts_same (u ∷ ss) [] s t e = absurd (no_last ss s (sym (heads_same u t (ss ++ s ∷ []) [] e).1))
lasts_same (u ∷ ss) (v ∷ ts) s t e =
    let parted = heads_same u v (ss ++ s ∷ []) (ts ++ t ∷ []) e in
    let more = lasts_same ss ts s t parted.1 in
    (ap (λ (x : List ℕ). x ∷ ss) parted.0 ∙ ap (λ (x : List (List ℕ)). v ∷ x) more.0, more.1)

-- parameters below nodes of one set of kinds that have the same objects
forests_same : (p : KindSet) (parent other : Kind) (f g : Forest) (ss ts : List (List ℕ)) → set_of_kind parent ≡ p → set_of_kind other ≡ p → AllLawful f → AllLawful g → ArePlaced (groups_of parent) f → ArePlaced (groups_of other) g → AreParameters f ss → AreParameters g ts → ss ≡ ts → f ≡ g
unfolding ArePlaced
forests_same p parent other none none ss ts u v l m c d a b e = refl
forests_same p parent other none (and before kind fields tail children) ss ts u v l m c d a b e = absurd (no_last b.0 _ (sym a ∙ e ∙ b.6))
forests_same p parent other (and before kind fields tail children) none ss ts u v l m c d a b e = absurd (no_last a.0 _ (sym b ∙ sym e ∙ a.6))
forests_same p parent other (and before k fields tail children) (and earlier n others last below) ss ts u v l m c d a b e =
    let parted = lasts_same a.0 b.0 (whole k tail a.1 a.2) (whole n last b.1 b.2) (sym a.6 ∙ e ∙ b.6) in
    let own : set_of_kind (Parameter k) ≡ p = child_set parent k c.1 ∙ u in
    let too : set_of_kind (Parameter n) ≡ p = child_set other n d.1 ∙ v in
    let one = one_object k n fields others tail last children below a.1 b.1 a.2 b.2 (own ∙ sym too) l.1.obeys m.1.obeys a.4 b.4 (forest_texts children a.2 l.2 a.5) (forest_texts below b.2 m.2 b.5) parted.1 in
    let first : before ≡ earlier = forests_same p parent other before earlier a.0 b.0 u v l.0 m.0 c.0 d.0 a.3 b.3 parted.0 in
    let inner : children ≡ below = forests_same p (Parameter k) (Parameter n) children below a.2 b.2 own too l.2 m.2 l.1.obeys.placed m.1.obeys.placed a.5 b.5 one.below in
    λ i. and (first i) (one.kind i) (one.numbers i) (one.octets i) (inner i)

-- ---- messages

messages_same : (p : KindSet) (m n : MessageTree) (s t : List ℕ) → set_of_kind (Message m.kind) ≡ p → set_of_kind (Message n.kind) ≡ p → IsLawfulMessage m → IsLawfulMessage n → IsMessageJson m s → IsMessageJson n t → s ≡ t → m ≡ n
messages_same p m n s t u v l k a b e =
    let first = objects_same (message_first m) (message_first n) (message_more m a.fields a.below) (message_more n b.fields b.below) (message_members m s l a) (message_members n t k b) (sym a.text_is ∙ e ∙ b.text_is) in
    let name : name_of (Message m.kind) ≡ name_of (Message n.kind) = texts_same (codes "message") (name_of (Message m.kind)) (name_of (Message n.kind)) first.0 in
    let same : m.kind ≡ n.kind = message_kind_same m.kind n.kind (names_in (Message m.kind) (Message n.kind) (u ∙ sym v) name) in
    let rest = parts (Message m.kind) m.tail a.fields a.below in
    let later = parts (Message n.kind) n.tail b.fields b.below in
    let second = heads_same (member (codes "version") (decimal m.version)) (member (codes "version") (decimal n.version)) (member (codes "id") (decimal m.id) ∷ rest) (member (codes "id") (decimal n.id) ∷ later) first.1 in
    let third = heads_same (member (codes "id") (decimal m.id)) (member (codes "id") (decimal n.id)) rest later second.1 in
    let version : m.version ≡ n.version = one_number m.version n.version (version_below m.version l.version) (version_below n.version k.version) (members_same (codes "version") (codes "version") (decimal m.version) (decimal n.version) second.0).1 in
    let small = l.id in
    let few = k.id in
    let id : m.id ≡ n.id = one_number m.id n.id (omega (arith, small)) (omega (arith, few)) (members_same (codes "id") (codes "id") (decimal m.id) (decimal n.id) third.0).1 in
    let body = parts_same (Message m.kind) m.fields n.fields m.tail n.tail m.children n.children a.fields b.fields a.below b.below l.obeys (subst (λ (x : MsgKind). Obeys (Message x) n.fields n.tail n.children) (sym same) k.obeys)
    a.are (subst (λ (x : MsgKind). AreFields (plain_fields_of (Message x)) n.fields b.fields) (sym same) b.are) (forest_texts m.children a.below l.children a.parameters) (forest_texts n.children b.below k.children b.parameters)
    (third.1 ∙ ap (λ (x : MsgKind). parts (Message x) n.tail b.fields b.below) (sym same)) in
    let children : m.children ≡ n.children = forests_same p (Message m.kind) (Message n.kind) m.children n.children a.below b.below u v l.children k.children l.obeys.placed k.obeys.placed a.parameters b.parameters body.2 in
    λ i. record { version = version i; id = id i; kind = same i; fields = body.0 i; tail = body.1 i; children = children i }

-- ---- faults

abbrev reasons : List Reason
reasons = Reserved ∷ Version ∷ MessageType ∷ MessageLength ∷ Short ∷ OutOfRange ∷ Count ∷ Utf8 ∷ ParamType ∷ Misplaced ∷ TooMany ∷ TooDeep ∷ ParamLength ∷ Extra ∷ Missing ∷ []

-- the names of two reasons have two sums
abbrev reason_at : ℕ → Option Reason
reason_at total = find (λ reason. sum_by (λ c. c) (frame_fault_name reason) == total) reasons

reason_back : (reason : Reason) → reason_at (sum_by (λ c. c) (frame_fault_name reason)) ≡ Some reason
unfolding frame_fault_name
reason_back Reserved = refl
reason_back _ = refl

reasons_same : (a b : Reason) → frame_fault_name a ≡ frame_fault_name b → a ≡ b
reasons_same a b e =
    let t : Some a ≡ Some b = sym (reason_back a) ∙ ap (λ (x : List ℕ). reason_at (sum_by (λ c. c) x)) e ∙ reason_back b in
    cc

faults_same : (i j : ℕ) (f g : Fault) → i < 2 ^ 32 → f.bit < 2 ^ 64 → j < 2 ^ 32 → g.bit < 2 ^ 64 → fault_json i f ≡ fault_json j g → (i ≡ j) × (f ≡ g)
unfolding fault_json
faults_same i j f g small few low less e =
    let first = objects_same (fault_first f) (fault_first g) (fault_more i f) (fault_more j g) (fault_members i f small few) (fault_members j g low less) e in
    let reason : f.reason ≡ g.reason = reasons_same f.reason g.reason (texts_same (codes "fault") (frame_fault_name f.reason) (frame_fault_name g.reason) first.0) in
    let second = heads_same (member (codes "id") (decimal i)) (member (codes "id") (decimal j)) (member (codes "bit") (decimal f.bit) ∷ []) (member (codes "bit") (decimal g.bit) ∷ []) first.1 in
    let third = heads_same (member (codes "bit") (decimal f.bit)) (member (codes "bit") (decimal g.bit)) [] [] second.1 in
    let id : i ≡ j = one_number i j (omega (arith, small)) (omega (arith, low)) (members_same (codes "id") (codes "id") (decimal i) (decimal j) second.0).1 in
    let bit : f.bit ≡ g.bit = one_number f.bit g.bit (omega (arith, few)) (omega (arith, less)) (members_same (codes "bit") (codes "bit") (decimal f.bit) (decimal g.bit) third.0).1 in
    (id, λ i. record { bit = bit i; reason = reason i })

-- ---- lines

-- a text is an object whose first member has this name
pub record IsNamed (name text : List ℕ) : Type 0 where
  pub value : List ℕ
  pub more : List (List ℕ)
  pub members : AllByRecursion IsMember (member name value ∷ more)
  pub text_is : text ≡ object (member name value ∷ more)

pub names_same : (n o s t : List ℕ) → IsNamed n s → IsNamed o t → s ≡ t → n ≡ o
names_same n o s t a b e =
    let first = objects_same (member n a.value) (member o b.value) a.more b.more a.members b.members (sym a.text_is ∙ e ∙ b.text_is) in
    (members_same n o a.value b.value first.0).0

pub message_named : (m : MessageTree) (text : List ℕ) → IsLawfulMessage m → IsMessageJson m text → IsNamed (codes "message") text
message_named m text l a = record { value = string (name_of (Message m.kind)); more = message_more m a.fields a.below; members = message_members m text l a; text_is = a.text_is }

pub fault_named : (id : ℕ) (fault : Fault) → id < 2 ^ 32 → fault.bit < 2 ^ 64 → IsNamed (codes "fault") (fault_json id fault)
unfolding fault_json
fault_named id fault small few = record { value = string (frame_fault_name fault.reason); more = fault_more id fault; members = fault_members id fault small few; text_is = refl }

-- no object of a message is one of a fault
no_fault : (m : MessageTree) (id : ℕ) (fault : Fault) (text : List ℕ) → IsLawfulMessage m → id < 2 ^ 32 → fault.bit < 2 ^ 64 → IsMessageJson m text → text ≡ fault_json id fault → ⊥
no_fault m id fault text l small few a e = apart 109 102 (codes "essage") (codes "ault") refl (names_same (codes "message") (codes "fault") text (fault_json id fault) (message_named m text l a) (fault_named id fault small few) e)

-- no two items of a set of kinds have one line
pub items_same : (p : KindSet) (a b : Item) (line : List ℕ) → IsLawfulIn p a → IsLawfulIn p b → IsItemJson a line → IsItemJson b line → a ≡ b
items_same p (Msg m) (Msg n) line u v a b = ap Msg (messages_same p m n a.0 b.0 u.1 v.1 u.0 v.0 a.1 b.1 (append_cancel_right a.0 b.0 (10 ∷ []) (sym a.2 ∙ b.2)))
items_same p (Msg m) (Bad id fault) line u v a b = absurd (no_fault m id fault a.0 u.0 v.0 v.1 a.1 (append_cancel_right a.0 (fault_json id fault) (10 ∷ []) (sym a.2 ∙ b)))
items_same p (Bad id fault) (Msg m) line u v a b = absurd (no_fault m id fault b.0 v.0 u.0 u.1 b.1 (append_cancel_right b.0 (fault_json id fault) (10 ∷ []) (sym b.2 ∙ a)))
items_same p (Bad i f) (Bad j g) line u v a b =
    let same = faults_same i j f g u.0 u.1 v.0 v.1 (append_cancel_right (fault_json i f) (fault_json j g) (10 ∷ []) (sym a ∙ b)) in
    λ i. Bad (same.0 i) (same.1 i)
