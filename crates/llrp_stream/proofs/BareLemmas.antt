-- A child without fields and tail, begun and made ready in one step.
use Rattle.std.proofs.Common.{◌≡◌, ℕ, ◌+◌, ◌-◌, ◌*◌, ◌<◌, Bool, List, ◌++◌, Ok, Some, refl, sym, ◌∙◌, subst, arith, length, drop, length-drop}
use Rattle.std.specs.Prelude.{IfSome, Option}
use Rattle.tag_bits.specs.Digits.{digits_of_bytes}
use Rattle.llrp_schema.specs.declared.kinds.Kind.{Kind}
use Rattle.llrp_schema.specs.declared.kinds.ParamKind.{ParamKind}
use Rattle.llrp_schema.specs.declared.kinds.Kind.TheVariants.{Message, Parameter}
use Rattle.llrp_schema.specs.declared.kinds.ParamKind.TheVariants.{ReaderEventNotificationData, RoSpecEvent, TagReportData, UtcTimestamp, WholeTagReportData}
use Rattle.llrp_schema.specs.declared.kinds.MsgKind.TheVariants.{RoAccessReport, ReaderEventNotification, WholeRoAccessReport}
use Rattle.llrp_schema.specs.Schema.{fields_of, groups_of, is_tv, number_of, param_kinds, param_rule, set_of_kind, message_rule, rule_of, tail_of, tlv_in, whole_param_kinds}
use Rattle.llrp_tree.specs.declared.fault.FrameErr.{FrameErr}
use Rattle.llrp_tree.specs.Tree.{Forest}
use Rattle.llrp_tree.specs.OpenTree.{Begun}
use Rattle.llrp_stream.specs.declared.engine.stack.Placed.{Placed}
use Rattle.llrp_stream.specs.declared.engine.stack.Child.TheVariants as child
use Rattle.llrp_stream.specs.declared.engine.body_reader.BodyReader.{BodyReader}
use Rattle.llrp_stream.specs.declared.engine.body_reader.Stage.TheVariants as stage
use Rattle.llrp_schema.specs.declared.seen.Seen.{Seen}
use Rattle.llrp_stream.specs.Calls.Reading.{AreSeen, HasReadTo}
use Rattle.llrp_stream.specs.Private.Reading.{HeadFails, HeadSays, IsBare, Moves, work}
use Rattle.llrp_stream.proofs.ChildPart.{outer_length}
use Rattle.llrp_stream.proofs.SeenLemmas.{seen_are}

-- what is known of the head of a child that was found
pub known_says : (r : BodyReader) (parent : Kind) (level : ℕ) (octets : List ℕ) (kind : ParamKind) (found : Option (Seen × ℕ)) (x : Seen × ℕ)
    → IfSome found (λ head. (children : Forest) (later : List Bool) → AreSeen (groups_of parent) children r.top.seen.bits → HeadSays (set_of_kind parent) (groups_of parent) children level (8 * r.at) (8 * r.top.stop) (digits_of_bytes octets ++ later) octets (Ok (child.Long (record { kind = kind; seen = head.0 }) head.1)))
    → found ≡ Some x → (children : Forest) (later : List Bool) → AreSeen (groups_of parent) children r.top.seen.bits → HeadSays (set_of_kind parent) (groups_of parent) children level (8 * r.at) (8 * r.top.stop) (digits_of_bytes octets ++ later) octets (Ok (child.Long (record { kind = kind; seen = x.0 }) x.1))
known_says r parent level octets kind found x h e = subst (λ (y : Option (Seen × ℕ)). IfSome y (λ head. (children : Forest) (later : List Bool) → AreSeen (groups_of parent) children r.top.seen.bits → HeadSays (set_of_kind parent) (groups_of parent) children level (8 * r.at) (8 * r.top.stop) (digits_of_bytes octets ++ later) octets (Ok (child.Long (record { kind = kind; seen = head.0 }) head.1)))) e h

-- what is seen of the children of a node of a known kind
pub seen_at : (r : BodyReader) (front : List ℕ) (b : Begun) (outer : List Begun) → HasReadTo r front b outer → (parent : Kind) → r.top.kind ≡ parent → AreSeen (groups_of parent) b.children r.top.seen.bits
seen_at r front b outer rd parent e = subst (λ (k : Kind). AreSeen (groups_of k) b.children r.top.seen.bits) e (seen_are r front b outer rd)

-- what a head says at the first level, said of the node that is innermost
pub says_long : (r : BodyReader) (front : List ℕ) (b : Begun) (outer : List Begun) → HasReadTo r front b outer → (parent : Kind) (level : ℕ) → r.top.kind ≡ parent → length r.outer.items + 1 ≡ level → r.stage ≡ stage.Children → (octets : List ℕ) (placed : Placed) (n : ℕ)
    → ((children : Forest) (later : List Bool) → AreSeen (groups_of parent) children r.top.seen.bits → HeadSays (set_of_kind parent) (groups_of parent) children level (8 * r.at) (8 * r.top.stop) (digits_of_bytes octets ++ later) octets (Ok (child.Long placed n)))
    → (later : List Bool) → HeadSays (set_of_kind r.top.kind) (groups_of r.top.kind) b.children (length outer + 1) (8 * r.at) (8 * r.top.stop) (digits_of_bytes octets ++ later) octets (Ok (child.Long placed n))
says_long r front b outer rd parent level e deep s octets placed n f = λ later.
    let few = outer_length r front b outer rd s in
    let same : level ≡ length outer + 1 = omega (arith, few, deep) in
    subst (λ (m : ℕ). HeadSays (set_of_kind r.top.kind) (groups_of r.top.kind) b.children m (8 * r.at) (8 * r.top.stop) (digits_of_bytes octets ++ later) octets (Ok (child.Long placed n))) same
    (subst (λ (k : Kind). HeadSays (set_of_kind k) (groups_of k) b.children level (8 * r.at) (8 * r.top.stop) (digits_of_bytes octets ++ later) octets (Ok (child.Long placed n))) (sym e)
    (f b.children later (seen_at r front b outer rd parent e)))

-- the same, where it fails
pub fails_here : (r : BodyReader) (front : List ℕ) (b : Begun) (outer : List Begun) → HasReadTo r front b outer → (parent : Kind) (level : ℕ) → r.top.kind ≡ parent → length r.outer.items + 1 ≡ level → r.stage ≡ stage.Children → (octets : List ℕ) (e : FrameErr)
    → ((children : Forest) (later : List Bool) → AreSeen (groups_of parent) children r.top.seen.bits → HeadFails (set_of_kind parent) (groups_of parent) children level (8 * r.at) (8 * r.top.stop) (digits_of_bytes octets ++ later) e)
    → (later : List Bool) → HeadFails (set_of_kind r.top.kind) (groups_of r.top.kind) b.children (length outer + 1) (8 * r.at) (8 * r.top.stop) (digits_of_bytes octets ++ later) e
fails_here r front b outer rd parent level is deep s octets e f = λ later.
    let few = outer_length r front b outer rd s in
    let same : level ≡ length outer + 1 = omega (arith, few, deep) in
    subst (λ (m : ℕ). HeadFails (set_of_kind r.top.kind) (groups_of r.top.kind) b.children m (8 * r.at) (8 * r.top.stop) (digits_of_bytes octets ++ later) e) same
    (subst (λ (k : Kind). HeadFails (set_of_kind k) (groups_of k) b.children level (8 * r.at) (8 * r.top.stop) (digits_of_bytes octets ++ later) e) (sym is)
    (f b.children later (seen_at r front b outer rd parent is)))

-- a step of some octets, and one of none after it
pub moved_twice : (b0 s0 begins stands : List Begun → Type 0) (old mid new : BodyReader) (front octets : List ℕ) (used : ℕ) → Moves b0 s0 old mid front octets used → Moves begins stands mid new front (drop used octets) 0 → Moves begins stands old new front octets used
moved_twice b0 s0 begins stands old mid new front octets used m n =
    let long = length-drop used octets in
    let less = n.less in
    let rest : length (drop used octets) - 0 ≡ length octets - used = omega (arith, long) in
    let first : work new (length octets - used) < work mid (length (drop used octets)) = subst (λ (k : ℕ). work new k < work mid (length (drop used octets))) rest less in
    let second : work mid (length (drop used octets)) < work old (length octets) = subst (λ (k : ℕ). work mid k < work old (length octets)) (sym long) m.less in
    record {
      within = m.within;
      are = n.are;
      place = omega (arith, m.place, n.place);
      same = n.same ∙ m.same;
      set = n.set ∙ m.set;
      less = omega (arith, first, second);
    }

-- ---- the rows of the tables

pub report_number : tlv_in (set_of_kind (Message RoAccessReport)) 240 ≡ Some TagReportData
unfolding tlv_in param_kinds is_tv set_of_kind number_of rule_of message_rule param_rule
report_number = refl

pub event_number : tlv_in (set_of_kind (Message ReaderEventNotification)) 246 ≡ Some ReaderEventNotificationData
unfolding tlv_in param_kinds is_tv set_of_kind number_of rule_of message_rule param_rule
event_number = refl

pub report_bare : IsBare (Parameter TagReportData)
unfolding fields_of tail_of rule_of param_rule
report_bare = record { fields = refl; tail = refl }

pub event_bare : IsBare (Parameter ReaderEventNotificationData)
unfolding fields_of tail_of rule_of param_rule
event_bare = record { fields = refl; tail = refl }

pub time_number : tlv_in (set_of_kind (Parameter ReaderEventNotificationData)) 128 ≡ Some UtcTimestamp
unfolding tlv_in param_kinds is_tv set_of_kind number_of rule_of message_rule param_rule
time_number = refl

pub spec_event_number : tlv_in (set_of_kind (Parameter ReaderEventNotificationData)) 249 ≡ Some RoSpecEvent
unfolding tlv_in param_kinds is_tv set_of_kind number_of rule_of message_rule param_rule
spec_event_number = refl

pub whole_report_number : tlv_in (set_of_kind (Message WholeRoAccessReport)) 240 ≡ Some WholeTagReportData
unfolding tlv_in whole_param_kinds is_tv set_of_kind number_of rule_of message_rule param_rule
whole_report_number = refl

pub whole_report_bare : IsBare (Parameter WholeTagReportData)
unfolding fields_of tail_of rule_of param_rule
whole_report_bare = record { fields = refl; tail = refl }
