-- How the text of an open tree grows.
use Rattle.std.proofs.Common.{◌≡◌, ℕ, ◌+◌, ◌-◌, ◌<◌, ◌≤◌, Bool, true, false, not, ◌||◌, List, [], ◌∷◌, ◌++◌, length, drop, Option, Some, None, refl, sym, ap, subst, ◌∙◌, arith, append_assoc, length-append}
use Rattle.std.specs.Prelude.{codes, decimal, filter, unwrap_or}
use Rattle.std.proofs.lemmas.List.{append-nil, take_all, take-append-drop}
use Rattle.llrp_schema.specs.declared.kinds.MsgKind.{MsgKind}
use Rattle.llrp_schema.specs.declared.kinds.ParamKind.{ParamKind}
use Rattle.llrp_schema.specs.declared.kinds.Kind.{Kind}
use Rattle.llrp_schema.specs.declared.kinds.Kind.TheVariants.{Message, Parameter}
use Rattle.llrp_schema.specs.declared.kinds.Tail.{Tail}
use Rattle.llrp_schema.specs.declared.kinds.Tail.TheVariants.{Absent, Words}
use Rattle.llrp_schema.specs.Schema.{FieldRule, fields_of, name_of, plain_fields_of, tail_of}
use Rattle.llrp_tree.specs.Tree.{Forest, none, and, MessageTree}
use Rattle.llrp_tree.specs.Spelling.{Head, message, tlv, tv}
use Rattle.llrp_tree.specs.OpenTree.{Begun, kind_of_head, plain_values, rules, form, due, Rest, IsHead}
use Rattle.llrp_tree.specs.Calls.Standing.{leading}
use Rattle.llrp_tree.proofs.Leading.{plain_in_range}
use Rattle.llrp_stream.specs.Calls.Received.{with_field, with_child, with_closed, with_value, with_octets, IsNextField, IsNextValue, IsBeforeTail, IsInTail, AreWhole, IsReady, IsMessageOf}
use Rattle.llrp_listing.specs.NodeLine.{field_form}
use Rattle.llrp_listing.proofs.OpenListingLemmas.{grown_drop, grown_take, grown_long, in_range_length, all_due, fields_in, nothing_after}
use Rattle.llrp_stream.proofs.BuildingLemmas.{more_plain, same_plain}
use Rattle.llrp_tree.proofs.BodyLemmas.{head_of_tree as head_of_open}
use Rattle.llrp_json.specs.JsonValues.{member, object, string}
use Rattle.llrp_json.specs.JsonItems.{AreFields, AreParameters, IsValue, field_name, more_members, parameters_members, tail_members}
use Rattle.llrp_json.specs.JsonLines.{IsMessageJson}
use Rattle.llrp_listing.specs.Calls.ItemPrinter.{IsMarked}
use Rattle.llrp_json.specs.Calls.OpenJson.{AreFirstFields, Awaits, Begins, Holds, IsLead, IsParent, IsTailOf, Opened, before_one_more, has_any, is_parent, listed, opening, part_of, separator_in, tail_begun, tail_end, whole_of}
use Rattle.llrp_json.specs.Private.OpenJson.{AppendsMessage, CanBeClosed, IsFull, at_end, more_of, one_parameter}
use Rattle.llrp_json.proofs.NodeTexts.{members_append, object_first, one_field_more, all_fields, next_plain, whole_tail, more_octets, listed_more, end_text}

-- ---- a text after a mark

marked : (mark : ℕ) (old new x was : List ℕ) (P Q : List ℕ → Type 0) → IsMarked mark old was P → new ≡ old ++ x → ((rest : List ℕ) → P rest → Q (rest ++ x)) → IsMarked mark new was Q
marked mark old new x was P Q m e k =
    (grown_long mark old new x m.0 e, grown_take mark old new x m.0 e ∙ m.1, subst Q (sym (grown_drop mark old new x m.0 e)) (k (drop mark old) m.2))

-- ---- a node that begins

lead_begins : (h : Head) (stop : ℕ) → IsLead (leading h stop []) [] (opening h)
lead_begins h stop = record { members = []; are = tt; text_is = sym (append-nil (opening h)) }

node_begins : (h : Head) (stop : ℕ) (outer : List Begun) (x rest : List ℕ) → x ≡ separator_in outer ++ opening h → Opened outer rest → Begins (leading h stop [] ∷ outer) (rest ++ x)
node_begins h stop outer x rest e o = (rest, opening h, o, lead_begins h stop, refl, ap (λ (y : List ℕ). rest ++ y) e ∙ sym (append_assoc rest (separator_in outer) (opening h)))

pub message_awaits : (mark depth : ℕ) (parent some : Bool) (old new was : List ℕ) (v : ℕ) (k : MsgKind) (n id stop : ℕ) → Holds mark depth parent old was [] → new ≡ old ++ opening (message v k n id)
    → Awaits mark 1 false Absent some new was (leading (message v k n id) stop [] ∷ [])
message_awaits mark depth parent some old new was v k n id stop h e = record {
  marked = marked mark old new (opening (message v k n id)) was (Opened []) (Begins (leading (message v k n id) stop [] ∷ [])) h.marked e (λ rest o. node_begins (message v k n id) stop [] (opening (message v k n id)) rest refl o);
  deep = refl;
  none_yet = refl;
  tail_is = refl;
}

parameter_opening : (h : Head) (k : ParamKind) → kind_of_head h ≡ Parameter k → 123 ∷ member (codes "parameter") (string (name_of (Parameter k))) ≡ opening h
parameter_opening (message v m n id) k e = absurd cc
parameter_opening (tlv j n) k e = ap (λ (x : Kind). 123 ∷ member (codes "parameter") (string (name_of x))) (sym e)
parameter_opening (tv j) k e = ap (λ (x : Kind). 123 ∷ member (codes "parameter") (string (name_of x))) (sym e)

known : (t : List Begun) (parent : Bool) → IsParent t parent → 0 < length t → before_one_more parent ≡ separator_in t
known [] parent p d = absurd (omega (arith, d))
known (b ∷ outer) parent p d = ap before_one_more p

begins_below : (mark depth level stop : ℕ) (parent some : Bool) (old new was x : List ℕ) (h : Head) (t : List Begun) → Holds mark depth parent old was t → x ≡ separator_in t ++ opening h → new ≡ old ++ x
    → Awaits mark (depth + 1) false Absent some new was (leading h stop [] ∷ t)
begins_below mark depth level stop parent some old new was x h t holds e f = record {
  marked = marked mark old new x was (Opened t) (Begins (leading h stop [] ∷ t)) holds.marked f (λ rest o. node_begins h stop t x rest e o);
  deep = let d = holds.deep in omega arith;
  none_yet = refl;
  tail_is = refl;
}

-- a parameter begins below a node
pub parameter_awaits : (mark depth stop : ℕ) (parent some : Bool) (old mid new was : List ℕ) (h : Head) (k : ParamKind) (t : List Begun) → Holds mark depth parent old was t → 0 < depth → kind_of_head h ≡ Parameter k
    → mid ≡ old ++ before_one_more parent → new ≡ mid ++ (123 ∷ member (codes "parameter") (string (name_of (Parameter k)))) → Awaits mark (depth + 1) false Absent some new was (leading h stop [] ∷ t)
parameter_awaits mark depth stop parent some old mid new was h k t holds deep kind_is e f =
    let start : List ℕ = 123 ∷ member (codes "parameter") (string (name_of (Parameter k))) in
    let whole : new ≡ old ++ (before_one_more parent ++ start) = f ∙ ap (λ (x : List ℕ). x ++ start) e ∙ append_assoc old (before_one_more parent) start in
    let d : 0 < length t = (let z = holds.deep in omega (arith, deep)) in
    let parts : before_one_more parent ++ start ≡ separator_in t ++ opening h = ap (λ (x : List ℕ). x ++ start) (known t parent holds.parent_is d) ∙ ap (λ (x : List ℕ). separator_in t ++ x) (parameter_opening h k kind_is) in
    begins_below mark depth 0 stop parent some old new was (before_one_more parent ++ start) h t holds parts whole

-- and where none is open
pub first_awaits : (mark depth stop : ℕ) (parent some : Bool) (old mid new was : List ℕ) (h : Head) (k : ParamKind) (t : List Begun) → Holds mark depth parent old was t → depth ≤ 0 → kind_of_head h ≡ Parameter k
    → (depth ≡ 0 → mid ≡ old) → new ≡ mid ++ (123 ∷ member (codes "parameter") (string (name_of (Parameter k)))) → Awaits mark (depth + 1) false Absent some new was (leading h stop [] ∷ t)
first_awaits mark depth stop parent some old mid new was h k [] holds shallow kind_is e f =
    let start : List ℕ = 123 ∷ member (codes "parameter") (string (name_of (Parameter k))) in
    let none_open : depth ≡ 0 = omega (arith, shallow) in
    begins_below mark depth 0 stop parent some old new was start h [] holds (parameter_opening h k kind_is) (f ∙ ap (λ (x : List ℕ). x ++ start) (e none_open))
first_awaits mark depth stop parent some old mid new was h k (b ∷ outer) holds shallow kind_is e f = absurd (let z = holds.deep in omega (arith, shallow))

-- ---- a field

field_lead : (b : Begun) (rule : FieldRule) (others : List FieldRule) (v : ℕ) (value lead : List ℕ) → drop (length b.fields) (rules b) ≡ rule ∷ others → b.tail ≡ None → rule.reserved ≡ false → IsValue (field_form rule) v value
    → IsLead b (part_of (form b) b.tail) lead → IsLead (record b { fields = b.fields ++ v ∷ [] }) (part_of (form b) b.tail) (lead ++ (44 ∷ member (field_name rule) value))
field_lead b rule others v value lead next bare plain is l =
    let m : List ℕ = member (field_name rule) value in
    let are = one_field_more (plain_fields_of (kind_of_head b.head)) (plain_values (rules b) b.fields) l.members rule (filter (λ field. not field.reserved) others) v value (next_plain (rules b) b.fields rule others next plain) l.are is in
    let none_read : part_of (form b) b.tail ≡ [] = ap (part_of (form b)) bare in
    record {
      members = l.members ++ m ∷ [];
      are = subst (λ (ns : List ℕ). AreFirstFields (plain_fields_of (kind_of_head b.head)) ns (l.members ++ m ∷ [])) (sym (more_plain (rules b) b.fields v rule others next plain)) are;
      text_is = ap (λ (x : List ℕ). x ++ (44 ∷ m)) (l.text_is ∙ ap (λ (x : List ℕ). opening b.head ++ (more_members l.members ++ x)) none_read) ∙ longer (opening b.head) (more_members l.members) (44 ∷ m)
          ∙ ap (λ (x : List ℕ). opening b.head ++ (x ++ [])) (ap (λ (x : List ℕ). more_members l.members ++ x) (sym (append-nil (44 ∷ m))) ∙ sym (members_append l.members (m ∷ [])))
          ∙ ap (λ (x : List ℕ). opening b.head ++ (more_members (l.members ++ m ∷ []) ++ x)) (sym none_read);
    }
  where
    longer : (a b c : List ℕ) → (a ++ (b ++ [])) ++ c ≡ a ++ ((b ++ c) ++ [])
    longer a b c = append_assoc a (b ++ []) c ∙ ap (λ (x : List ℕ). a ++ x) (ap (λ (x : List ℕ). x ++ c) (append-nil b) ∙ sym (append-nil (b ++ c)))

-- a plain field, whose member is appended
pub field_awaits : (mark depth : ℕ) (parent : Bool) (tail : Tail) (some : Bool) (old new was : List ℕ) (t : List Begun) (rule : FieldRule) (v : ℕ) (value : List ℕ) → Awaits mark depth parent tail some old was t → IsNextField t rule → rule.reserved ≡ false
    → IsValue (field_form rule) v value → new ≡ old ++ (44 ∷ member (field_name rule) value) → Awaits mark depth parent tail some new was (with_field v t)
field_awaits mark depth parent tail some old new was [] rule v value a nx plain is e = absurd a.marked.2
field_awaits mark depth parent tail some old new was (b ∷ outer) rule v value a nx plain is e =
    let same : nx.node ≡ b = (let z = nx.tree_is in cc) in
    let next : drop (length b.fields) (rules b) ≡ rule ∷ nx.others = ap (λ (x : Begun). drop (length x.fields) (rules x)) (sym same) ∙ nx.next in
    let bare : b.tail ≡ None = ap (λ (x : Begun). x.tail) (sym same) ∙ nx.untailed in
    let more : List ℕ = 44 ∷ member (field_name rule) value in
    record {
      marked = marked mark old new more was (Begins (b ∷ outer)) (Begins (with_field v (b ∷ outer))) a.marked e
          (λ rest o. (o.0, o.1 ++ more, o.2, field_lead b rule nx.others v value o.1 next bare plain is o.3, o.4, ap (λ (x : List ℕ). x ++ more) o.5 ∙ append_assoc (o.0 ++ separator_in outer) o.1 more));
      deep = a.deep;
      none_yet = a.none_yet;
      tail_is = a.tail_is;
    }

-- a reserved field, which has no member
pub reserved_awaits : (mark depth : ℕ) (parent : Bool) (tail : Tail) (some : Bool) (text was : List ℕ) (t : List Begun) (rule : FieldRule) (v : ℕ) → Awaits mark depth parent tail some text was t → IsNextField t rule → rule.reserved ≡ true
    → Awaits mark depth parent tail some text was (with_field v t)
reserved_awaits mark depth parent tail some text was [] rule v a nx reserved = absurd a.marked.2
reserved_awaits mark depth parent tail some text was (b ∷ outer) rule v a nx reserved =
    let same : nx.node ≡ b = (let z = nx.tree_is in cc) in
    let next : drop (length b.fields) (rules b) ≡ rule ∷ nx.others = ap (λ (x : Begun). drop (length x.fields) (rules x)) (sym same) ∙ nx.next in
    let o = a.marked.2 in
    let l = o.3 in
    let values : plain_values (rules b) b.fields ≡ plain_values (rules b) (b.fields ++ v ∷ []) = sym (same_plain (rules b) b.fields v rule nx.others next reserved) in
    record {
      marked = (a.marked.0, a.marked.1, (o.0, o.1, o.2, record { members = l.members; are = subst (λ (ns : List ℕ). AreFirstFields (plain_fields_of (kind_of_head b.head)) ns l.members) values l.are; text_is = l.text_is }, o.4, o.5));
      deep = a.deep;
      none_yet = a.none_yet;
      tail_is = a.tail_is;
    }

-- ---- a tail

no_words : (form : Tail) (tail : Option (List ℕ)) → tail ≡ None → IsTailOf form (Some (unwrap_or tail [] ++ [])) form false
no_words form tail e = subst (λ (x : Option (List ℕ)). IsTailOf form (Some (unwrap_or x [] ++ [])) form false) (sym e) (refl, λ words. ((0, refl), refl))

pub tail_awaits : (mark depth : ℕ) (parent : Bool) (tail : Tail) (some : Bool) (old new was : List ℕ) (t : List Begun) (f : Tail) → Awaits mark depth parent tail some old was t → IsBeforeTail t f → new ≡ old ++ tail_begun f []
    → Awaits mark depth parent f false new was (with_octets [] t)
tail_awaits mark depth parent tail some old new was [] f a nx e = absurd a.marked.2
tail_awaits mark depth parent tail some old new was (b ∷ outer) f a nx e =
    let same : nx.node ≡ b = (let z = nx.tree_is in cc) in
    let bare : b.tail ≡ None = ap (λ (x : Begun). x.tail) (sym same) ∙ nx.untailed in
    let formed : form b ≡ f = ap form (sym same) ∙ nx.form_is in
    let more : List ℕ = tail_begun f [] in
    record {
      marked = marked mark old new more was (Begins (b ∷ outer)) (Begins (with_octets [] (b ∷ outer))) a.marked e
          (λ rest o. (o.0, o.1 ++ more, o.2, tail_lead b f o.1 bare formed o.3, o.4, ap (λ (x : List ℕ). x ++ more) o.5 ∙ append_assoc (o.0 ++ separator_in outer) o.1 more));
      deep = a.deep;
      none_yet = a.none_yet;
      tail_is = subst (λ (x : Tail). IsTailOf (form b) (Some (unwrap_or b.tail [] ++ [])) x false) formed (no_words (form b) b.tail bare);
    }
  where
    tail_lead : (b : Begun) (f : Tail) (lead : List ℕ) → b.tail ≡ None → form b ≡ f → IsLead b (part_of (form b) b.tail) lead
        → IsLead (record b { tail = Some (unwrap_or b.tail [] ++ []) }) (tail_begun (form b) (unwrap_or b.tail [] ++ [])) (lead ++ tail_begun f [])
    tail_lead b f lead bare formed l = record {
      members = l.members;
      are = l.are;
      text_is = ap (λ (x : List ℕ). x ++ tail_begun f []) (l.text_is ∙ ap (λ (x : Option (List ℕ)). opening b.head ++ (more_members l.members ++ part_of (form b) x)) bare)
          ∙ append_assoc (opening b.head) (more_members l.members ++ []) (tail_begun f []) ∙ ap (λ (x : List ℕ). opening b.head ++ (x ++ tail_begun f [])) (append-nil (more_members l.members))
          ∙ ap (λ (x : Tail). opening b.head ++ (more_members l.members ++ tail_begun x [])) (sym formed)
          ∙ ap (λ (x : Option (List ℕ)). opening b.head ++ (more_members l.members ++ tail_begun (form b) (unwrap_or x [] ++ []))) (sym bare);
    }

more_any : (a b : List ℕ) (some more : Bool) → some ≡ has_any a → more ≡ (some || has_any b) → more ≡ has_any (a ++ b)
more_any [] b some more e f = f ∙ ap (λ (x : Bool). x || has_any b) e
more_any (x ∷ a) b some more e f = f ∙ ap (λ (x : Bool). x || has_any b) e

tail_known : (f g tail : Tail) (so_far octets : List ℕ) (some more : Bool) → f ≡ g → IsTailOf f (Some so_far) tail some → AreWhole g octets → more ≡ (some || has_any octets) → IsTailOf f (Some (so_far ++ octets)) tail more
tail_known f g tail so_far octets some more same k whole e = (
  k.0,
  λ words.
      let before = k.1 words in
      let after : AreWhole Words octets = subst (λ (x : Tail). AreWhole x octets) (sym same ∙ words) whole in
      ((before.0.0 + after.0, length-append so_far octets ∙ (let a = before.0.1 in let b = after.1 in omega arith)), more_any so_far octets some more before.1 e),
)

pub octets_await : (mark depth : ℕ) (parent : Bool) (tail : Tail) (some more : Bool) (old new was : List ℕ) (t : List Begun) (f : Tail) (octets : List ℕ) → Awaits mark depth parent tail some old was t → IsInTail t f → AreWhole f octets
    → more ≡ (some || has_any octets) → new ≡ old ++ more_of f some octets → Awaits mark depth parent tail more new was (with_octets octets t)
octets_await mark depth parent tail some more old new was [] f octets a nx whole any e = absurd a.marked.2
octets_await mark depth parent tail some more old new was (b ∷ outer) f octets a nx whole any e =
    let same : nx.node ≡ b = (let z = nx.tree_is in cc) in
    let tailed : b.tail ≡ Some nx.so_far = ap (λ (x : Begun). x.tail) (sym same) ∙ nx.tail_is in
    let formed : form b ≡ f = ap form (sym same) ∙ nx.form_is in
    let k : IsTailOf (form b) (Some nx.so_far) tail some = subst (λ (x : Option (List ℕ)). IsTailOf (form b) x tail some) tailed a.tail_is in
    let added : List ℕ = more_of f some octets in
    record {
      marked = marked mark old new added was (Begins (b ∷ outer)) (Begins (with_octets octets (b ∷ outer))) a.marked e
          (λ rest o. (o.0, o.1 ++ added, o.2, octets_lead b f tail nx.so_far octets o.1 some tailed formed k o.3, o.4, ap (λ (x : List ℕ). x ++ added) o.5 ∙ append_assoc (o.0 ++ separator_in outer) o.1 added));
      deep = a.deep;
      none_yet = a.none_yet;
      tail_is = subst (λ (x : Option (List ℕ)). IsTailOf (form b) (Some (unwrap_or x [] ++ octets)) tail more) (sym tailed) (tail_known (form b) f tail nx.so_far octets some more formed k whole any);
    }
  where
    octets_lead : (b : Begun) (f tail : Tail) (so_far octets lead : List ℕ) (some : Bool) → b.tail ≡ Some so_far → form b ≡ f → IsTailOf (form b) (Some so_far) tail some → IsLead b (part_of (form b) b.tail) lead
        → IsLead (record b { tail = Some (unwrap_or b.tail [] ++ octets) }) (tail_begun (form b) (unwrap_or b.tail [] ++ octets)) (lead ++ more_of f some octets)
    octets_lead b f tail so_far octets lead some tailed formed k l = record {
      members = l.members;
      are = l.are;
      text_is = ap (λ (x : List ℕ). x ++ more_of f some octets) (l.text_is ∙ ap (λ (x : Option (List ℕ)). opening b.head ++ (more_members l.members ++ part_of (form b) x)) tailed)
          ∙ append_assoc (opening b.head) (more_members l.members ++ tail_begun (form b) so_far) (more_of f some octets)
          ∙ ap (λ (x : List ℕ). opening b.head ++ x) (append_assoc (more_members l.members) (tail_begun (form b) so_far) (more_of f some octets))
          ∙ ap (λ (x : Tail). opening b.head ++ (more_members l.members ++ (tail_begun (form b) so_far ++ more_of x some octets))) (sym formed)
          ∙ ap (λ (x : List ℕ). opening b.head ++ (more_members l.members ++ x)) (sym (more_octets (form b) so_far octets some k.1))
          ∙ ap (λ (x : Option (List ℕ)). opening b.head ++ (more_members l.members ++ tail_begun (form b) (unwrap_or x [] ++ octets))) (sym tailed);
    }

-- ---- a node that has its leading parts

ended_tail : (form tail : Tail) (octets : Option (List ℕ)) (some : Bool) → IsTailOf form octets tail some → whole_of form octets ≡ part_of form octets ++ tail_end tail
ended_tail form tail None some k = ap tail_end (sym k)
ended_tail form tail (Some octets) some k = ap (λ (x : Tail). tail_begun form octets ++ tail_end x) (sym k.0)

ready_lead : (b : Begun) (tail : Tail) (some : Bool) (lead : List ℕ) → IsTailOf (form b) b.tail tail some → IsLead b (part_of (form b) b.tail) lead → IsLead b (whole_of (form b) b.tail) (lead ++ tail_end tail)
ready_lead b tail some lead k l = record {
  members = l.members;
  are = l.are;
  text_is = ap (λ (x : List ℕ). x ++ tail_end tail) l.text_is ∙ append_assoc (opening b.head) (more_members l.members ++ part_of (form b) b.tail) (tail_end tail)
      ∙ ap (λ (x : List ℕ). opening b.head ++ x) (append_assoc (more_members l.members) (part_of (form b) b.tail) (tail_end tail) ∙ ap (λ (x : List ℕ). more_members l.members ++ x) (sym (ended_tail (form b) tail b.tail some k)));
}

no_parameters : (f : Forest) → f ≡ none → AreParameters f []
no_parameters f e = subst (λ (x : Forest). AreParameters x []) (sym e) refl

pub ready_holds : (mark depth : ℕ) (parent : Bool) (tail : Tail) (some : Bool) (old new was : List ℕ) (t : List Begun) → Awaits mark depth parent tail some old was t → new ≡ old ++ tail_end tail → Holds mark depth parent new was t
ready_holds mark depth parent tail some old new was [] a e = absurd a.marked.2
ready_holds mark depth parent tail some old new was (b ∷ outer) a e =
    let none_below : b.children ≡ none = a.marked.2.4 in
    record {
      marked = marked mark old new (tail_end tail) was (Begins (b ∷ outer)) (Opened (b ∷ outer)) a.marked e
          (λ rest o. (
            o.0,
            o.1 ++ tail_end tail,
            [],
            o.2,
            ready_lead b tail some o.1 a.tail_is o.3,
            no_parameters b.children o.4,
            ap (λ (x : List ℕ). x ++ tail_end tail) o.5 ∙ append_assoc (o.0 ++ separator_in outer) o.1 (tail_end tail) ∙ ap (λ (x : List ℕ). (o.0 ++ separator_in outer) ++ x) (sym (append-nil (o.1 ++ tail_end tail))),
          ));
      deep = a.deep;
      parent_is = a.none_yet ∙ ap is_parent (sym none_below);
    }

-- ---- the object of a node

-- a whole node's text is that of its object
whole_text : (first : List ℕ) (members : List (List ℕ)) (form : Tail) (octets : List ℕ) (f : Forest) (below : List (List ℕ)) (tail lead : List ℕ) → tail ≡ more_members (tail_members form octets) → AreParameters f below
    → lead ≡ (123 ∷ first) ++ (more_members members ++ tail) → (lead ++ listed below) ++ at_end (is_parent f) ≡ object (first ∷ (members ++ (tail_members form octets ++ parameters_members below)))
whole_text first members form octets f below tail lead is are e =
    let ms : List ℕ = more_members members in
    let ts : List ℕ = more_members (tail_members form octets) in
    let ps : List ℕ = more_members (parameters_members below) in
    let start : List ℕ = 123 ∷ first in
    append_assoc lead (listed below) (at_end (is_parent f)) ∙ ap (λ (x : List ℕ). lead ++ x) (sym (end_text f below are))
    ∙ ap (λ (x : List ℕ). x ++ (ps ++ 125 ∷ [])) (e ∙ ap (λ (x : List ℕ). start ++ (ms ++ x)) is) ∙ append_assoc start (ms ++ ts) (ps ++ 125 ∷ [])
    ∙ ap (λ (x : List ℕ). start ++ x) (append_assoc ms ts (ps ++ 125 ∷ []) ∙ ap (λ (x : List ℕ). ms ++ x) (sym (append_assoc ts ps (125 ∷ []))) ∙ sym (append_assoc ms (ts ++ ps) (125 ∷ [])))
    ∙ ap (λ (x : List ℕ). start ++ ((ms ++ x) ++ 125 ∷ [])) (sym (members_append (tail_members form octets) (parameters_members below)))
    ∙ ap (λ (x : List ℕ). start ++ (x ++ 125 ∷ [])) (sym (members_append members (tail_members form octets ++ parameters_members below)))
    ∙ sym (object_first first (members ++ (tail_members form octets ++ parameters_members below)))

-- a node that is ready has its fields and its tail
pub ready_full : (b : Begun) (outer : List Begun) → IsReady (b ∷ outer) → IsFull b
ready_full b outer r =
    let same : r.node ≡ b = (let z = r.tree_is in cc) in
    let d : due b ≡ Rest = ap due (sym same) ∙ r.ready in
    record {
      ready = d;
      fields = in_range_length (plain_fields_of (kind_of_head b.head)) (plain_values (rules b) b.fields) (plain_in_range (rules b) b.fields (fields_in b outer r.is_open) (all_due b d).0);
    }

-- and if it lies in another it is a parameter
inner_parameter : (h : Head) (stop : ℕ) (p : Begun) (outer : List Begun) → IsHead h stop (p ∷ outer) → (kind : ParamKind) × (kind_of_head h ≡ Parameter kind)
inner_parameter (message v k n id) stop p outer i = absurd i
inner_parameter (tlv k n) stop p outer i = (k, refl)
inner_parameter (tv k) stop p outer i = (k, refl)

pub ready_closed : (t : List Begun) → IsReady t → 2 ≤ length t → CanBeClosed t
ready_closed [] r two = absurd (omega (arith, two))
ready_closed (b ∷ []) r two = absurd (omega (arith, two))
ready_closed (b ∷ p ∷ outer) r two = (ready_full b (p ∷ outer) r, inner_parameter b.head b.stop p outer (head_of_open b (p ∷ outer) r.is_open))

-- the fields of a node that has them all
full_fields : (b : Begun) (members : List (List ℕ)) → IsFull b → AreFirstFields (plain_fields_of (kind_of_head b.head)) (plain_values (rules b) b.fields) members
    → AreFields (plain_fields_of (kind_of_head b.head)) (plain_values (rules b) b.fields) members
full_fields b members f are = all_fields (plain_fields_of (kind_of_head b.head)) (plain_values (rules b) b.fields) members are f.fields

-- ---- a parameter that is whole

-- the last parameter of its parent
child_last : (h : Head) (k : ParamKind) → kind_of_head h ≡ Parameter k → (before : Forest) (vs : List ℕ) (tail : Option (List ℕ)) (cs : Forest) (earlier members below : List (List ℕ)) (text : List ℕ)
    → AreParameters before earlier → AreFields (plain_fields_of (kind_of_head h)) (plain_values (fields_of (kind_of_head h)) vs) members → AreParameters cs below
    → ((first : List ℕ) → opening h ≡ 123 ∷ first → text ≡ object (first ∷ (members ++ (tail_members (tail_of (kind_of_head h)) (unwrap_or tail []) ++ parameters_members below))))
    → AreParameters (with_child before h vs tail cs) (earlier ++ text ∷ [])
child_last (message v m n id) j i before vs tail cs earlier members below text are fs bs is = absurd cc
child_last (tlv k n) j i before vs tail cs earlier members below text are fs bs is =
    (earlier, members, below, are, fs, bs, ap (λ (x : List ℕ). earlier ++ x ∷ []) (is (member (codes "parameter") (string (name_of (Parameter k)))) refl))
child_last (tv k) j i before vs tail cs earlier members below text are fs bs is =
    (earlier, members, below, are, fs, bs, ap (λ (x : List ℕ). earlier ++ x ∷ []) (is (member (codes "parameter") (string (name_of (Parameter k)))) refl))

is_parent_now : (before : Forest) (h : Head) (vs : List ℕ) (tail : Option (List ℕ)) (cs : Forest) (k : ParamKind) → kind_of_head h ≡ Parameter k → true ≡ is_parent (with_child before h vs tail cs)
is_parent_now before (message v m n id) vs tail cs k i = absurd cc
is_parent_now before (tlv j n) vs tail cs k i = refl
is_parent_now before (tv j) vs tail cs k i = refl

closed_text : (above sep plead pbelow bsep btext old text : List ℕ) → old ≡ (above ++ sep) ++ (plead ++ pbelow) → text ≡ (old ++ bsep) ++ btext → text ≡ (above ++ sep) ++ (plead ++ (pbelow ++ (bsep ++ btext)))
closed_text above sep plead pbelow bsep btext old text e f =
    f ∙ append_assoc old bsep btext ∙ ap (λ (x : List ℕ). x ++ (bsep ++ btext)) e ∙ append_assoc (above ++ sep) (plead ++ pbelow) (bsep ++ btext) ∙ ap (λ (x : List ℕ). (above ++ sep) ++ x) (append_assoc plead pbelow (bsep ++ btext))

-- the innermost node is closed, and its object ends
closed_opened : (b p : Begun) (outer : List Begun) (rest : List ℕ) → CanBeClosed (b ∷ p ∷ outer) → Opened (b ∷ p ∷ outer) rest → Opened (with_closed (b ∷ p ∷ outer)) (rest ++ at_end (is_parent b.children))
closed_opened b p outer rest r o =
    let u = o.3 in
    let l = o.4 in
    let e : List ℕ = at_end (is_parent b.children) in
    let whole : List ℕ = (o.1 ++ listed o.2) ++ e in
    let object_is : (first : List ℕ) → opening b.head ≡ 123 ∷ first → whole ≡ object (first ∷ (l.members ++ (tail_members (form b) (unwrap_or b.tail []) ++ parameters_members o.2))) =
    λ first begins. whole_text first l.members (form b) (unwrap_or b.tail []) b.children o.2 (whole_of (form b) b.tail) o.1 (whole_tail (form b) b.tail (all_due b r.0.ready).1) o.5 (l.text_is ∙ ap (λ (x : List ℕ). x ++ (more_members l.members ++ whole_of (form b) b.tail)) begins) in
    let texts = child_last b.head r.1.0 r.1.1 p.children b.fields b.tail b.children u.2 l.members o.2 whole u.5 (full_fields b l.members r.0 l.are) o.5 object_is in
    let told : rest ++ e ≡ (o.0 ++ separator_in (p ∷ outer)) ++ whole = ap (λ (x : List ℕ). x ++ e) o.6 ∙ append_assoc (o.0 ++ separator_in (p ∷ outer)) (o.1 ++ listed o.2) e in (
      u.0,
      u.1,
      u.2 ++ whole ∷ [],
      u.3,
      record { members = u.4.members; are = u.4.are; text_is = u.4.text_is },
      texts,
      closed_text u.0 (separator_in outer) u.1 (listed u.2) (separator_in (p ∷ outer)) whole o.0 (rest ++ e) u.6 told
          ∙ ap (λ (x : List ℕ). (u.0 ++ separator_in outer) ++ (u.1 ++ x)) (sym (listed_more p.children u.2 whole u.5)),
    )

pub close_holds : (mark depth : ℕ) (parent : Bool) (old new was : List ℕ) (t : List Begun) → Holds mark depth parent old was t → 2 ≤ depth → CanBeClosed t → new ≡ old ++ at_end parent → Holds mark (depth - 1) true new was (with_closed t)
close_holds mark depth parent old new was [] h deep r e = absurd (let z = h.deep in omega (arith, deep))
close_holds mark depth parent old new was (b ∷ []) h deep r e = absurd (let z = h.deep in omega (arith, deep))
close_holds mark depth parent old new was (b ∷ p ∷ outer) h deep r e =
    let ended : at_end parent ≡ at_end (is_parent b.children) = ap at_end h.parent_is in
    let whole : new ≡ old ++ at_end (is_parent b.children) = e ∙ ap (λ (x : List ℕ). old ++ x) ended in
    record {
      marked = marked mark old new (at_end (is_parent b.children)) was (Opened (b ∷ p ∷ outer)) (Opened (with_closed (b ∷ p ∷ outer))) h.marked whole (λ rest o. closed_opened b p outer rest r o);
      deep = let z = h.deep in omega (arith, deep);
      parent_is = is_parent_now p.children b.head b.fields b.tail b.children r.1.0 r.1.1;
    }

-- ---- a whole value

abbrev value_object : ParamKind → List (List ℕ) → List (List ℕ) → List ℕ
value_object k members below = object (member (codes "parameter") (string (name_of (Parameter k))) ∷ (members ++ (tail_members (tail_of (Parameter k)) [] ++ parameters_members below)))

value_last : (k : ParamKind) (v : ℕ) (one : List ℕ) (f : Forest) (below : List (List ℕ)) → AreParameters (one_parameter k v) (one ∷ []) → AreParameters f below → AreParameters (and f k (v ∷ []) [] none) (below ++ one ∷ [])
value_last k v one f below a are =
    let text : one ∷ [] ≡ a.0 ++ value_object k a.1 a.2 ∷ [] = a.6 in
    let alone : one ∷ [] ≡ value_object k a.1 a.2 ∷ [] = text ∙ ap (λ (x : List (List ℕ)). x ++ value_object k a.1 a.2 ∷ []) a.3 in
    (below, a.1, a.2, are, a.4, a.5, ap (λ (x : List (List ℕ)). below ++ x) alone)

value_opened : (b : Begun) (outer : List Begun) (k : ParamKind) (v : ℕ) (one rest : List ℕ) → AreParameters (one_parameter k v) (one ∷ []) → Opened (b ∷ outer) rest → Opened (with_value k v (b ∷ outer)) (rest ++ (before_one_more (is_parent b.children) ++ one))
value_opened b outer k v one rest a o =
    let more : List ℕ = before_one_more (is_parent b.children) ++ one in (
      o.0,
      o.1,
      o.2 ++ one ∷ [],
      o.3,
      record { members = o.4.members; are = o.4.are; text_is = o.4.text_is },
      value_last k v one b.children o.2 a o.5,
      ap (λ (x : List ℕ). x ++ more) o.6 ∙ append_assoc (o.0 ++ separator_in outer) (o.1 ++ listed o.2) more ∙ ap (λ (x : List ℕ). (o.0 ++ separator_in outer) ++ x) (append_assoc o.1 (listed o.2) more)
          ∙ ap (λ (x : List ℕ). (o.0 ++ separator_in outer) ++ (o.1 ++ x)) (sym (listed_more b.children o.2 one o.5)),
    )

-- a node gets a parameter, so there is one
pub next_in_some : (t : List Begun) (k : ParamKind) (v : ℕ) → IsNextValue t k v → 0 < length t
next_in_some [] k v nx = absurd (let z : [] ≡ nx.node ∷ nx.outer = nx.tree_is in cc)
next_in_some (b ∷ outer) k v nx = omega arith

pub value_holds : (mark depth : ℕ) (parent : Bool) (old mid new was : List ℕ) (t : List Begun) (k : ParamKind) (v : ℕ) (one : List ℕ) → Holds mark depth parent old was t → 0 < length t → AreParameters (one_parameter k v) (one ∷ [])
    → mid ≡ old ++ before_one_more parent → new ≡ mid ++ one → Holds mark depth true new was (with_value k v t)
value_holds mark depth parent old mid new was [] k v one h some a e f = absurd (omega (arith, some))
value_holds mark depth parent old mid new was (b ∷ outer) k v one h some a e f =
    let sep : List ℕ = before_one_more (is_parent b.children) in
    let whole : new ≡ old ++ (sep ++ one) = f ∙ ap (λ (x : List ℕ). x ++ one) (e ∙ ap (λ (x : Bool). old ++ before_one_more x) h.parent_is) ∙ append_assoc old sep one in
    record {
      marked = marked mark old new (sep ++ one) was (Opened (b ∷ outer)) (Opened (with_value k v (b ∷ outer))) h.marked whole (λ rest o. value_opened b outer k v one rest a o);
      deep = h.deep;
      parent_is = refl;
    }

-- ---- a message that is whole

message_object : (h : Head) (vs : List ℕ) (tail : Option (List ℕ)) (cs : Forest) (m : MessageTree) (members below : List (List ℕ)) (text : List ℕ) → IsMessageOf h vs tail cs m
    → AreFields (plain_fields_of (kind_of_head h)) (plain_values (fields_of (kind_of_head h)) vs) members → AreParameters cs below
    → ((first : List ℕ) (more : List (List ℕ)) → opening h ≡ (123 ∷ first) ++ more_members more → text ≡ object (first ∷ ((more ++ members) ++ (tail_members (tail_of (kind_of_head h)) (unwrap_or tail []) ++ parameters_members below)))) → IsMessageJson m text
message_object (message v k n id) vs tail cs m members below text e fs bs is =
    subst (λ (x : MessageTree). IsMessageJson x text) (sym e)
    (record {
      fields = members;
      below = below;
      are = fs;
      parameters = bs;
      text_is = is (member (codes "message") (string (name_of (Message k)))) (member (codes "version") (decimal v) ∷ member (codes "id") (decimal id) ∷ []) refl;
    })
message_object (tlv k n) vs tail cs m members below text e fs bs is = absurd e
message_object (tv k) vs tail cs m members below text e fs bs is = absurd e

message_text : (first : List ℕ) (more members : List (List ℕ)) (form : Tail) (octets : List ℕ) (f : Forest) (below : List (List ℕ)) (tail lead start : List ℕ) → tail ≡ more_members (tail_members form octets) → AreParameters f below → start ≡ (123 ∷ first) ++ more_members more
    → lead ≡ start ++ (more_members members ++ tail) → (lead ++ listed below) ++ at_end (is_parent f) ≡ object (first ∷ ((more ++ members) ++ (tail_members form octets ++ parameters_members below)))
message_text first more members form octets f below tail lead start is are begins e =
    let whole : lead ≡ (123 ∷ first) ++ (more_members (more ++ members) ++ tail) =
    e ∙ ap (λ (x : List ℕ). x ++ (more_members members ++ tail)) begins ∙ append_assoc (123 ∷ first) (more_members more) (more_members members ++ tail)
    ∙ ap (λ (x : List ℕ). (123 ∷ first) ++ x) (sym (append_assoc (more_members more) (more_members members) tail) ∙ ap (λ (x : List ℕ). x ++ tail) (sym (members_append more members))) in
    whole_text first (more ++ members) form octets f below tail lead is are whole

ended : (b : Begun) (m : MessageTree) (rest : List ℕ) → IsFull b → IsMessageOf b.head b.fields b.tail b.children m → Opened (b ∷ []) rest → IsMessageJson m (rest ++ at_end (is_parent b.children))
ended b m rest r e o =
    let l = o.4 in
    let end : List ℕ = at_end (is_parent b.children) in
    let text : rest ++ end ≡ (o.1 ++ listed o.2) ++ end = ap (λ (x : List ℕ). x ++ end) (o.6 ∙ ap (λ (x : List ℕ). (x ++ []) ++ (o.1 ++ listed o.2)) o.3) in
    message_object b.head b.fields b.tail b.children m l.members o.2 (rest ++ end) e (full_fields b l.members r l.are) o.5
    (λ first more begins. text ∙ message_text first more l.members (form b) (unwrap_or b.tail []) b.children o.2 (whole_of (form b) b.tail) o.1 (opening b.head) (whole_tail (form b) b.tail (all_due b r.ready).1) o.5 begins l.text_is)

-- the object of a message that is whole was appended, and nothing follows
pub end_holds : (mark depth : ℕ) (parent : Bool) (old mid new was : List ℕ) (b : Begun) (m : MessageTree) (place : ℕ) → Holds mark depth parent old was (b ∷ []) → IsFull b → IsMessageOf b.head b.fields b.tail b.children m
    → mid ≡ old ++ at_end parent → new ≡ mid ++ 10 ∷ [] → place ≡ length new → (now : List ℕ) × Holds place 0 parent new now [] × AppendsMessage m was now
end_holds mark depth parent old mid new was b m place h r e ended_at line at =
    let end : List ℕ = at_end (is_parent b.children) in
    let rest : List ℕ = drop mark old in
    let json = ended b m rest r e h.marked.2 in
    let whole : new ≡ was ++ ((rest ++ end) ++ 10 ∷ []) =
    line ∙ ap (λ (x : List ℕ). x ++ 10 ∷ []) (ended_at ∙ ap (λ (x : Bool). old ++ at_end x) h.parent_is ∙ ap (λ (x : List ℕ). x ++ end) (sym (take-append-drop mark old) ∙ ap (λ (x : List ℕ). x ++ rest) h.marked.1))
    ∙ ap (λ (x : List ℕ). x ++ 10 ∷ []) (append_assoc was rest end) ∙ append_assoc was (rest ++ end) (10 ∷ []) in (
      new,
      record { marked = (omega arith, take_all place new (omega arith), nothing_after new place at); deep = refl; parent_is = tt },
      (rest ++ end, json, whole),
    )
