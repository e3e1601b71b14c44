-- What a value says of a message, and why it says none.
use Rattle.std.proofs.Common.{◌≡◌, ℕ, inl, inr, List, Some, sym, subst}
use Rattle.std.specs.Prelude.{None, Result, Ok, Err, MatchResult, codes}
use Rattle.json.specs.Find.{as_object}
use Rattle.json.specs.Json.{Json, Members}
use Rattle.llrp_schema.specs.declared.kinds.Kind.TheVariants.{Message}
use Rattle.llrp_schema.specs.declared.kinds.KindSet.{KindSet}
use Rattle.llrp_schema.specs.declared.kinds.MsgKind.{MsgKind}
use Rattle.llrp_schema.specs.Schema.{plain_fields_of, tail_of}
use Rattle.llrp_tree.specs.declared.TheConstants.{MAX_DEPTH}
use Rattle.llrp_tree.specs.declared.node.NodeFault.{NodeFault}
use Rattle.llrp_tree.specs.Checks.{first_message_fault}
use Rattle.llrp_tree.specs.Lawful.{IsLawfulMessage}
use Rattle.llrp_tree.specs.Tree.{MessageTree, Tree, forest}
use Rattle.llrp_tree.proofs.TreeLemmas.{trees-forest}
use Rattle.llrp_listing.specs.NodeLine.{Version, Id}
use Rattle.llrp_json_read.specs.declared.refusal.ReadErr.{ReadErr}
use Rattle.llrp_json_read.specs.declared.refusal.Reason.TheVariants as reason
use Rattle.llrp_json_read.specs.Calls.ReadErrors.{IsReadErr}
use Rattle.llrp_json_read.specs.MemberRules.{member_rules}
use Rattle.llrp_json_read.specs.ObjectMembers.{member_fault}
use Rattle.llrp_json_read.specs.ObjectSays.{IsOfKind, SaysEach, SaysFields, SaysMessage, SaysNumber, SaysParameter, SaysTail, below}
use Rattle.llrp_json_read.specs.ObjectRefused.{IsMessage, RefusesEach, RefusesKind, RefusesMessage, RefusesOwnMessage, RefusesParameter, RefusesStart, RefusesValues, whole}
use Rattle.llrp_json_read.specs.Private.Words.{MessageParts}
use Rattle.llrp_json_read.proofs.Parameters.{FaultAt, as_error}

-- the members of an object of a kind are those of the kind, whichever it is seen to have
abbrev pub AreChecked : MsgKind → Json → Type 0
AreChecked kind j = (members : Members) → as_object j ≡ Some members → member_fault j members (member_rules (Message kind)) ≡ None

pub message_kind_refused : (p : KindSet) (j : Json) (e : ReadErr) → IsReadErr (RefusesKind p IsMessage (codes "message") j) e → IsReadErr (RefusesOwnMessage p j) e
message_kind_refused p j e h = as_error (RefusesKind p IsMessage (codes "message") j) (RefusesOwnMessage p j) e (λ r bad. inl bad) h

pub message_members_refused : (p : KindSet) (kind : MsgKind) (j : Json) (e : ReadErr) → IsOfKind p (Message kind) j → IsReadErr (FaultAt (Message kind) j) e → IsReadErr (RefusesOwnMessage p j) e
message_members_refused p kind j e is h = as_error (FaultAt (Message kind) j) (RefusesOwnMessage p j) e (λ r bad. (let b = bad is.members is.object in inr (inl (kind, (is, b.0, b.1, b.2))))) h

pub start_refused : (p : KindSet) (kind : MsgKind) (j : Json) (e : ReadErr) → IsOfKind p (Message kind) j → AreChecked kind j → IsReadErr (RefusesStart j) e → IsReadErr (RefusesOwnMessage p j) e
start_refused p kind j e is checked h = as_error (RefusesStart j) (RefusesOwnMessage p j) e (λ r bad. inr (inr (inl (kind, (is, checked is.members is.object), bad)))) h

pub message_values_refused : (p : KindSet) (kind : MsgKind) (j : Json) (version id : ℕ) (e : ReadErr) → IsOfKind p (Message kind) j → AreChecked kind j → SaysNumber Version (codes "version") j version × SaysNumber Id (codes "id") j id → IsReadErr (RefusesValues (Message kind) j) e → IsReadErr (RefusesOwnMessage p j) e
message_values_refused p kind j version id e is checked start h =
    as_error (RefusesValues (Message kind) j) (RefusesOwnMessage p j) e (λ r bad. inr (inr (inr (kind, (is, checked is.members is.object), ((version, start.0), (id, start.1)), bad)))) h

pub message_parts_said : (p : KindSet) (kind : MsgKind) (j : Json) (version id : ℕ) (fields tail : List ℕ) → IsOfKind p (Message kind) j → AreChecked kind j → SaysNumber Version (codes "version") j version × SaysNumber Id (codes "id") j id
    → SaysFields (plain_fields_of (Message kind)) j fields × SaysTail (tail_of (Message kind)) j tail → MessageParts p j kind version id fields tail
message_parts_said p kind j version id fields tail is checked start h =
    record {
      parts = record { of_kind = is; checked = checked is.members is.object; fields_said = h.0; tail_said = h.1 };
      version_said = start.0;
      id_said = start.1;
    }

-- ---- a whole message

pub own_message_refused : (p : KindSet) (j : Json) (e : ReadErr) → IsReadErr (RefusesOwnMessage p j) e → IsReadErr (RefusesMessage p j) e
own_message_refused p j e h = as_error (RefusesOwnMessage p j) (RefusesMessage p j) e (λ r bad. inl bad) h

pub message_below_refused : (p : KindSet) (kind : MsgKind) (j : Json) (version id : ℕ) (fields tail : List ℕ) (e : ReadErr) → MessageParts p j kind version id fields tail → IsReadErr (RefusesEach (SaysParameter p MAX_DEPTH) (RefusesParameter p MAX_DEPTH) 0 (below j)) e → IsReadErr (RefusesMessage p j) e
message_below_refused p kind j version id fields tail e own h = as_error (RefusesEach (SaysParameter p MAX_DEPTH) (RefusesParameter p MAX_DEPTH) 0 (below j)) (RefusesMessage p j) e (λ r bad. inr (inl (kind, fields, tail, own.parts, ((version, own.version_said), (id, own.id_said)), bad))) h

-- what message is made of these parts, or why none is
abbrev pub IsMessageMade : MsgKind → ℕ → ℕ → List ℕ → List ℕ → List Tree → Result MessageTree ReadErr → Type 0
IsMessageMade kind version id fields tail children result =
    MatchResult result (λ m. (m ≡ record { version = version; id = id; kind = kind; fields = fields; tail = tail; children = forest children }) × IsLawfulMessage m)
    (IsReadErr (λ r. (fault : NodeFault) × (first_message_fault version kind fields tail (forest children) ≡ Some fault) × (r ≡ whole (reason.Node fault))))

pub message_made : (p : KindSet) (kind : MsgKind) (j : Json) (version id : ℕ) (fields tail : List ℕ) (children : List Tree) (result : Result MessageTree ReadErr) → MessageParts p j kind version id fields tail → SaysEach (SaysParameter p MAX_DEPTH) (below j) children
    → IsMessageMade kind version id fields tail children result → MatchResult result (SaysMessage p j) (IsReadErr (RefusesMessage p j))
message_made p kind j version id fields tail children (Ok m) own each h =
    let tree : MessageTree = record { version = version; id = id; kind = kind; fields = fields; tail = tail; children = forest children } in
    let says : SaysMessage p j tree = record { parts = own.parts; version = own.version_said; id = own.id_said; parameters = subst (λ (ts : List Tree). SaysEach (SaysParameter p MAX_DEPTH) (below j) ts) (sym (trees-forest children)) each; lawful = subst IsLawfulMessage h.0 h.1 } in
    subst (λ (t : MessageTree). SaysMessage p j t) (sym h.0) says
message_made p kind j version id fields tail children (Err e) own each h =
    as_error (λ r. (fault : NodeFault) × (first_message_fault version kind fields tail (forest children) ≡ Some fault) × (r ≡ whole (reason.Node fault))) (RefusesMessage p j) e
    (λ r bad. inr (inr (kind, record { version = version; id = id; fields = fields; tail = tail; children = children; version_said = own.version_said; id_said = own.id_said; parts = own.parts; each = each; fault = bad.0; first = bad.1; refused = bad.2 }))) h
