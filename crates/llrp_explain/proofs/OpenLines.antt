-- How the lines of an open tree grow with it.
use Rattle.std.proofs.Common.{◌≡◌, ℕ, suc, ◌+◌, ◌*◌, ◌≤◌, List, [], ◌∷◌, ◌++◌, length, drop, Bool, true, Option, Some, None, refl, sym, ap, subst, ◌∙◌, arith, append_assoc, length-append}
use Rattle.std.specs.Prelude.{nat_le, unwrap_or}
use Rattle.std.proofs.lemmas.List.{append-nil}
use Rattle.std.proofs.lemmas.Bool.{leb-true}
use Rattle.llrp_schema.specs.declared.kinds.MsgKind.{MsgKind}
use Rattle.llrp_schema.specs.declared.kinds.ParamKind.{ParamKind}
use Rattle.llrp_schema.specs.declared.kinds.Kind.{Kind}
use Rattle.llrp_schema.specs.declared.kinds.Kind.TheVariants.{Message, Parameter}
use Rattle.llrp_schema.specs.declared.kinds.Tail.{Tail}
use Rattle.llrp_schema.specs.declared.kinds.Tail.TheVariants.{Absent, Words, Text, Bits, Data}
use Rattle.llrp_schema.specs.Schema.{FieldRule, fields_of, tail_of}
use Rattle.llrp_tree.specs.Tree.{Forest, none, and, Tree, MessageTree}
use Rattle.llrp_tree.specs.Lawful.{head_octets, body_octets, octets, message_octets}
use Rattle.llrp_tree.specs.Spelling.{Head, message, tlv, tv, head_of, head_digits, body_digits, forest_digits, spread}
use Rattle.llrp_tree.specs.OpenTree.{Begun, kind_of_head, rules, form, plain_values, due, Rest, tail_due, covers, part, leading_digits, IsHead, IsHeader, IsTlvHead, IsTvHead, IsOpenTree}
use Rattle.llrp_tree.specs.FirstFault.{has_ended}
use Rattle.llrp_tree.specs.Calls.Standing.{begin_node, leading}
use Rattle.llrp_tree.proofs.Leading.{spread-plain}
use Rattle.llrp_tree.proofs.LengthLemmas.{length-tlv, length-message_head, length-body_digits, length-spell}
use Rattle.llrp_tree.proofs.WholeNodes.{closed_digits, no_field_due}
use Rattle.llrp_stream.specs.Calls.Received.{with_child, with_closed, with_value, IsReady, IsMessageOf}
use Rattle.llrp_explain.specs.declared.lines.Lines.{Lines}
use Rattle.llrp_explain.specs.Calls.ExplainLines.{ExplainLine, line, bits_of_lines, head_lines, field_lines, tail_lines, forest_lines, message_lines, read_lines, begun_lines, open_lines}
use Rattle.llrp_explain.specs.Calls.ExplainText.{kind_after, readings_text}
use Rattle.llrp_explain.specs.Calls.Printed.{Holds}
use Rattle.llrp_explain.specs.Private.Trees.{tree_lines}
use Rattle.llrp_explain.proofs.PrintedLemmas.{text_append, kind_append, bits_append}

-- ---- lines with the same text

-- they have as many bits, the same text from each bit on after each head, and the same kind after them
abbrev pub SameText : List ExplainLine → List ExplainLine → Type 0
SameText a b = (bits_of_lines a ≡ bits_of_lines b) × ((k : Option Kind) (n : ℕ) → readings_text k n a ≡ readings_text k n b) × ((k : Option Kind) → kind_after k a ≡ kind_after k b)

pub holds_same : (was : List ℕ) (a b : List ExplainLine) (x : Lines) → SameText a b → Holds was a x → Holds was b x
unfolding Holds
holds_same was a b x s h small =
    let bits = s.0 in
    let old = h (omega (arith, bits, small)) in
    (old.0 ∙ ap (λ (t : List ℕ). was ++ t) (s.1 None 0), old.1 ∙ bits, old.2 ∙ s.2 None)

same_refl : (a : List ExplainLine) → SameText a a
same_refl a = (refl, λ k n. refl, λ k. refl)

same_equal : (a b : List ExplainLine) → a ≡ b → SameText a b
same_equal a b e = subst (λ (x : List ExplainLine). SameText a x) e (same_refl a)

same_then : (a b c : List ExplainLine) → SameText a b → SameText b c → SameText a c
same_then a b c f g = (f.0 ∙ g.0, λ k n. f.1 k n ∙ g.1 k n, λ k. f.2 k ∙ g.2 k)

same_append : (a b c d : List ExplainLine) → SameText a b → SameText c d → SameText (a ++ c) (b ++ d)
same_append a b c d f g = (
  bits_append a c ∙ (let x = f.0 in let y = g.0 in let z : bits_of_lines a + bits_of_lines c ≡ bits_of_lines b + bits_of_lines d = omega arith in z) ∙ sym (bits_append b d),
  λ k n. text_append k n a c ∙ ap (λ (t : List ℕ). t ++ readings_text (kind_after k a) (n + bits_of_lines a) c) (f.1 k n)
      ∙ ap (λ (t : List ℕ). readings_text k n b ++ t) (ap (λ (m : ℕ). readings_text (kind_after k a) (n + m) c) (f.0) ∙ ap (λ (j : Option Kind). readings_text j (n + bits_of_lines b) c) (f.2 k) ∙ g.1 (kind_after k b) (n + bits_of_lines b)) ∙ sym (text_append k n b d),
  λ k. kind_append k a c ∙ ap (λ (j : Option Kind). kind_after j c) (f.2 k) ∙ g.2 (kind_after k b) ∙ sym (kind_append k b d),
)

-- ---- a node that begins

no_fields : (level : ℕ) (rs : List FieldRule) → field_lines level rs [] ≡ []
unfolding field_lines
no_fields level [] = refl
no_fields level (r ∷ rs) = refl

no_forest : (level : ℕ) → forest_lines level none ≡ []
unfolding forest_lines
no_forest level = refl

shorter : (o h f t c : List ExplainLine) → t ≡ [] → c ≡ [] → o ++ (h ++ ((f ++ t) ++ c)) ≡ o ++ (h ++ f)
shorter o h f t c et ec = rw (et, ec, append-nil f, append-nil f) refl

-- the lines of a node of which some fields are read
pub lead_lines : (h : Head) (stop : ℕ) (vs : List ℕ) (outer : List Begun) → open_lines (leading h stop vs ∷ outer) ≡ open_lines outer ++ (head_lines (length outer) h ++ field_lines (length outer) (fields_of (kind_of_head h)) vs)
unfolding open_lines begun_lines
lead_lines h stop vs outer = shorter (open_lines outer) (head_lines (length outer) h) (field_lines (length outer) (fields_of (kind_of_head h)) vs) [] (forest_lines (suc (length outer)) none) refl (no_forest (suc (length outer)))

pub begun_lead : (h : Head) (stop : ℕ) (outer : List Begun) → open_lines (leading h stop [] ∷ outer) ≡ open_lines outer ++ head_lines (length outer) h
begun_lead h stop outer = lead_lines h stop [] outer ∙ ap (λ (f : List ExplainLine). open_lines outer ++ (head_lines (length outer) h ++ f)) (no_fields (length outer) (fields_of (kind_of_head h))) ∙ ap (λ (x : List ExplainLine). open_lines outer ++ x) (append-nil (head_lines (length outer) h))

-- ---- a field

field_more : (level : ℕ) (rs : List FieldRule) (vs : List ℕ) (v : ℕ) (r : FieldRule) (others : List FieldRule) → drop (length vs) rs ≡ r ∷ others → field_lines level rs (vs ++ v ∷ []) ≡ field_lines level rs vs ++ line level r.name r.width v ∷ []
unfolding field_lines
field_more level [] [] v r others e = absurd cc
field_more level [] (u ∷ vs) v r others e = absurd cc
field_more level (s ∷ rs) [] v r others e =
    let same : s ≡ r = cc in
    ap (λ (x : List ExplainLine). line level s.name s.width v ∷ x) (no_fields level rs) ∙ ap (λ (x : FieldRule). line level x.name x.width v ∷ []) same
field_more level (s ∷ rs) (u ∷ vs) v r others e = ap (λ (x : List ExplainLine). line level s.name s.width u ∷ x) (field_more level rs vs v r others e)

pub lead_field : (h : Head) (stop : ℕ) (vs : List ℕ) (outer : List Begun) (v : ℕ) (r : FieldRule) (others : List FieldRule) → drop (length vs) (fields_of (kind_of_head h)) ≡ r ∷ others
    → open_lines (leading h stop (vs ++ v ∷ []) ∷ outer) ≡ open_lines (leading h stop vs ∷ outer) ++ line (length outer) r.name r.width v ∷ []
lead_field h stop vs outer v r others e =
    let o = open_lines outer in
    let hs = head_lines (length outer) h in
    let fs = field_lines (length outer) (fields_of (kind_of_head h)) vs in
    let l : List ExplainLine = line (length outer) r.name r.width v ∷ [] in
    lead_lines h stop (vs ++ v ∷ []) outer ∙ ap (λ (x : List ExplainLine). o ++ (hs ++ x)) (field_more (length outer) (fields_of (kind_of_head h)) vs v r others e)
    ∙ ap (λ (x : List ExplainLine). o ++ x) (sym (append_assoc hs fs l)) ∙ sym (append_assoc o (hs ++ fs) l) ∙ ap (λ (x : List ExplainLine). x ++ l) (sym (lead_lines h stop vs outer))

-- ---- a node that has its fields and its tail

pub ready_bare : (b : Begun) (outer : List Begun) → b.tail ≡ None → b.children ≡ none → open_lines (leading b.head b.stop b.fields ∷ outer) ≡ open_lines (b ∷ outer)
unfolding open_lines begun_lines
ready_bare b outer et ec = rw (et, ec) refl

pub ready_tail : (b : Begun) (outer : List Begun) (os : List ℕ) → b.tail ≡ Some os → b.children ≡ none → open_lines (leading b.head b.stop b.fields ∷ outer) ++ tail_lines (length outer) (form b) os ≡ open_lines (b ∷ outer)
unfolding open_lines begun_lines
ready_tail b outer os et ec =
    let o = open_lines outer in
    let hs = head_lines (length outer) b.head in
    let fs = field_lines (length outer) (rules b) b.fields in
    let ts = tail_lines (length outer) (form b) os in
    ap (λ (x : List ExplainLine). x ++ ts) (lead_lines b.head b.stop b.fields outer) ∙ append_assoc o (hs ++ fs) ts ∙ ap (λ (x : List ExplainLine). o ++ x) (append_assoc hs fs ts ∙ ap (λ (x : List ExplainLine). hs ++ x) (sym (append-nil (fs ++ ts))))
    ∙ ap (λ (x : List ExplainLine). o ++ (hs ++ ((fs ++ ts) ++ x))) (sym (no_forest (suc (length outer))))
    ∙ ap (λ (x : Forest). o ++ (hs ++ ((fs ++ ts) ++ forest_lines (suc (length outer)) x))) (sym ec)
    ∙ ap (λ (x : Option (List ℕ)). o ++ (hs ++ ((fs ++ read_lines (length outer) (form b) x) ++ forest_lines (suc (length outer)) b.children))) (sym et)

-- ---- a whole parameter of type and value

grouped : (o h f c x : List ExplainLine) → (o ++ (h ++ (f ++ c))) ++ x ≡ o ++ (h ++ (f ++ (c ++ x)))
grouped o h f c x = simp append_assoc

pub value_lines : (b : Begun) (outer : List Begun) (k : ParamKind) (v : ℕ) → open_lines (b ∷ outer) ++ tree_lines (suc (length outer)) (record { kind = k; fields = v ∷ []; tail = []; children = none }) ≡ open_lines (with_value k v (b ∷ outer))
unfolding open_lines begun_lines forest_lines
value_lines b outer k v =
    grouped (open_lines outer) (head_lines (length outer) b.head) (field_lines (length outer) (rules b) b.fields ++ read_lines (length outer) (form b) b.tail) (forest_lines (suc (length outer)) b.children) (tree_lines (suc (length outer)) (record { kind = k; fields = v ∷ []; tail = []; children = none }))

-- ---- a parameter that is whole

fields_in : (b : Begun) (outer : List Begun) → IsOpenTree (b ∷ outer) → (IsHead b.head b.stop outer) × (spread (rules b) (plain_values (rules b) b.fields) ≡ b.fields → Unit {0})
unfolding IsOpenTree
fields_in b outer s = (s.0.head, λ e. tt)

all_due : (b : Begun) → due b ≡ Rest → (drop (length b.fields) (rules b) ≡ []) × (tail_due (form b) b.tail ≡ Rest)
unfolding due
all_due b d = no_field_due (drop (length b.fields) (rules b)) (tail_due (form b) b.tail) d

spread_again : (b : Begun) (outer : List Begun) → IsOpenTree (b ∷ outer) → due b ≡ Rest → spread (rules b) (plain_values (rules b) b.fields) ≡ b.fields
unfolding IsOpenTree
spread_again b outer s d = spread-plain (rules b) b.fields s.0.fields (all_due b d).0

-- an empty tail has no text
read_same : (level : ℕ) (f : Tail) (tail : Option (List ℕ)) → tail_due f tail ≡ Rest → SameText (read_lines level f tail) (tail_lines level f (unwrap_or tail []))
unfolding tail_lines readings_text kind_after bits_of_lines
read_same level Absent None e = (refl, λ k n. refl, λ k. refl)
read_same level Words None e = absurd cc
read_same level Text None e = absurd cc
read_same level Bits None e = absurd cc
read_same level Data None e = absurd cc
read_same level f (Some os) e = same_refl (tail_lines level f os)

-- the octets of a node of which all is read
own_octets : (b : Begun) (outer : List Begun) → IsOpenTree (b ∷ outer) → due b ≡ Rest → length (covers (b ∷ outer)) ≡ length (covers outer) + (length (head_digits b.head) + 8 * (body_octets (kind_of_head b.head) (unwrap_or b.tail []) + octets b.children))
unfolding IsOpenTree covers part
own_octets b outer s d =
    let r = all_due b d in
    let os : List ℕ = unwrap_or b.tail [] in
    let own = closed_digits (kind_of_head b.head) b.fields b.tail s.0.fields r.0 r.1 in
    let body : List Bool = leading_digits (kind_of_head b.head) b.fields b.tail ++ forest_digits b.children in
    let body_long : length body ≡ 8 * (body_octets (kind_of_head b.head) os + octets b.children) = ap (λ (x : List Bool). length (x ++ forest_digits b.children)) own ∙ (let a = length-append (body_digits (kind_of_head b.head) (plain_values (rules b) b.fields) os) (forest_digits b.children) in let l = length-body_digits (kind_of_head b.head) (plain_values (rules b) b.fields) os in let c = length-spell b.children in omega arith) in
    let grown = length-append (covers outer) (head_digits b.head ++ body) in
    let both = length-append (head_digits b.head) body in
    omega (arith, grown, both, body_long)

inside_of : (b : Begun) (outer : List Begun) → IsOpenTree (b ∷ outer) → length (covers (b ∷ outer)) ≤ b.stop
unfolding IsOpenTree
inside_of b outer s = s.0.inside

-- its head says how many
child_head : (h : Head) (stop at : ℕ) (k : ParamKind) (os : List ℕ) (cs : Forest) (p : Begun) (outer : List Begun) → IsHead h stop (p ∷ outer) → kind_of_head h ≡ Parameter k → has_ended h (nat_le stop at) ≡ true → at ≤ stop
    → at ≡ length (covers (p ∷ outer)) + (length (head_digits h) + 8 * (body_octets (kind_of_head h) os + octets cs)) → head_of k (head_octets k + body_octets (Parameter k) os + octets cs) ≡ h
child_head (message v k0 n id) stop at k os cs p outer i e ended le long = absurd i
child_head (tlv j n) stop at k os cs p outer i e ended le long =
    let same : j ≡ k = cc in
    let f : IsTlvHead j n stop p outer = i in
    let over = leb-true stop at ended in
    let four : head_octets j ≡ 4 = (let g = f.kind_is_tlv in rw g refl) in
    let size : n ≡ head_octets j + body_octets (Parameter j) os + octets cs = omega (arith, f.stops, over, le, long, length-tlv j n, four) in
    ap (λ (x : ParamKind). head_of x (head_octets x + body_octets (Parameter x) os + octets cs)) (sym same) ∙ sym (let g = f.kind_is_tlv in ap (λ (m : ℕ). tlv j m) size ∙ rw g refl)
child_head (tv j) stop at k os cs p outer i e ended le long =
    let same : j ≡ k = cc in
    let f : IsTvHead j stop p outer = i in
    ap (λ (x : ParamKind). head_of x (head_octets x + body_octets (Parameter x) os + octets cs)) (sym same) ∙ (let g = f.kind_is_tv in rw g refl)

inner_kind : (h : Head) (stop : ℕ) (p : Begun) (outer : List Begun) → IsHead h stop (p ∷ outer) → (k : ParamKind) × (kind_of_head h ≡ Parameter k)
inner_kind (message v m n id) stop p outer f = absurd f
inner_kind (tlv k n) stop p outer f = (k, refl)
inner_kind (tv k) stop p outer f = (k, refl)

with_child_and : (before : Forest) (h : Head) (k : ParamKind) (vs : List ℕ) (tail : Option (List ℕ)) (cs : Forest) → kind_of_head h ≡ Parameter k → with_child before h vs tail cs ≡ and before k (plain_values (fields_of (Parameter k)) vs) (unwrap_or tail []) cs
with_child_and before (message v m n id) k vs tail cs e = absurd cc
with_child_and before (tlv j n) k vs tail cs e = (let same : j ≡ k = cc in ap (λ (x : ParamKind). and before x (plain_values (fields_of (Parameter x)) vs) (unwrap_or tail []) cs) same)
with_child_and before (tv j) k vs tail cs e = (let same : j ≡ k = cc in ap (λ (x : ParamKind). and before x (plain_values (fields_of (Parameter x)) vs) (unwrap_or tail []) cs) same)

-- the lines of the parameter of a node of which all is read
whole_child : (b p : Begun) (outer : List Begun) (k : ParamKind) (level : ℕ) → IsOpenTree (b ∷ p ∷ outer) → due b ≡ Rest → has_ended b.head (nat_le b.stop (length (covers (b ∷ p ∷ outer)))) ≡ true → kind_of_head b.head ≡ Parameter k
    → SameText (begun_lines level b) (tree_lines level (record { kind = k; fields = plain_values (fields_of (Parameter k)) b.fields; tail = unwrap_or b.tail []; children = b.children }))
unfolding begun_lines
whole_child b p outer k level s d ended e =
    let os : List ℕ = unwrap_or b.tail [] in
    let head = child_head b.head b.stop (length (covers (b ∷ p ∷ outer))) k os b.children p outer (fields_in b (p ∷ outer) s).0 e ended (inside_of b (p ∷ outer) s) (own_octets b (p ∷ outer) s d) in
    let again = spread_again b (p ∷ outer) s d in
    let fields_are : field_lines level (rules b) b.fields ≡ field_lines level (rules b) (spread (rules b) (plain_values (rules b) b.fields)) = ap (λ (vs : List ℕ). field_lines level (rules b) vs) (sym again) in
    let own = same_append (field_lines level (rules b) b.fields) (field_lines level (rules b) (spread (rules b) (plain_values (rules b) b.fields))) (read_lines level (form b) b.tail) (tail_lines level (form b) os) (same_equal _ _ fields_are) (read_same level (form b) b.tail (all_due b d).1) in
    let below = forest_lines (suc level) b.children in
    let node = same_append (head_lines level b.head) (head_lines level (head_of k (head_octets k + body_octets (Parameter k) os + octets b.children)))
    ((field_lines level (rules b) b.fields ++ read_lines level (form b) b.tail) ++ below) ((field_lines level (rules b) (spread (rules b) (plain_values (rules b) b.fields)) ++ tail_lines level (form b) os) ++ below)
    (same_equal _ _ (ap (λ (h : Head). head_lines level h) (sym head))) (same_append _ _ below below own (same_refl below)) in
    subst (λ q. SameText (begun_lines level b) (head_lines level (head_of k (head_octets k + body_octets (Parameter k) os + octets b.children)) ++ ((field_lines level (fields_of q) (spread (fields_of q) (plain_values (fields_of q) b.fields)) ++ tail_lines level (tail_of q) os) ++ below))) e node

pub closed_lines : (t : List Begun) → IsReady t → SameText (open_lines t) (open_lines (with_closed t))
unfolding open_lines begun_lines forest_lines
closed_lines [] r = same_refl []
closed_lines (b ∷ []) r = same_refl (open_lines (b ∷ []))
closed_lines (b ∷ p ∷ outer) r =
    let same : r.node ≡ b = (let z = r.tree_is in cc) in
    let d : due b ≡ Rest = ap due (sym same) ∙ r.ready in
    let ended = subst (λ (n : Begun). has_ended n.head (nat_le n.stop (length (covers (b ∷ p ∷ outer)))) ≡ true) same r.ended in
    let i = inner_kind b.head b.stop p outer (fields_in b (p ∷ outer) r.is_open).0 in
    let level : ℕ = suc (length outer) in
    let tree : Tree = record { kind = i.0; fields = plain_values (fields_of (Parameter i.0)) b.fields; tail = unwrap_or b.tail []; children = b.children } in
    let child = whole_child b p outer i.0 level r.is_open d ended i.1 in
    let o = open_lines outer in
    let hs = head_lines (length outer) p.head in
    let fs = field_lines (length outer) (rules p) p.fields ++ read_lines (length outer) (form p) p.tail in
    let cs = forest_lines (suc (length outer)) p.children in
    let all : open_lines (p ∷ outer) ++ tree_lines level tree ≡ o ++ (hs ++ (fs ++ forest_lines level (and p.children i.0 tree.fields tree.tail tree.children))) = grouped o hs fs cs (tree_lines level tree) in
    let moved : o ++ (hs ++ (fs ++ forest_lines level (and p.children i.0 tree.fields tree.tail tree.children))) ≡ o ++ (hs ++ (fs ++ forest_lines level (with_child p.children b.head b.fields b.tail b.children))) = ap (λ (f : Forest). o ++ (hs ++ (fs ++ forest_lines level f))) (sym (with_child_and p.children b.head i.0 b.fields b.tail b.children i.1)) in
    same_then _ (open_lines (p ∷ outer) ++ tree_lines level tree) _ (same_append (open_lines (p ∷ outer)) (open_lines (p ∷ outer)) (begun_lines level b) (tree_lines level tree) (same_refl _) child) (same_equal _ _ (all ∙ moved))

-- ---- a message that is whole

message_size : (v n id stop at : ℕ) (k : MsgKind) (os : List ℕ) (cs : Forest) → IsHeader v n id stop → nat_le stop at ≡ true → at ≤ stop → at ≡ 0 + (length (head_digits (message v k n id)) + 8 * (body_octets (Message k) os + octets cs)) → n ≡ 10 + body_octets (Message k) os + octets cs
message_size v n id stop at k os cs f ended le long = (let over = leb-true stop at ended in omega (arith, f.stops, over, le, long, length-message_head v k n id))

whole_message : (h : Head) (stop : ℕ) (vs : List ℕ) (tail : Option (List ℕ)) (cs : Forest) (m : MessageTree) → IsOpenTree (begin_node h stop vs tail cs ∷ []) → due (begin_node h stop vs tail cs) ≡ Rest → has_ended h (nat_le stop (length (covers (begin_node h stop vs tail cs ∷ [])))) ≡ true → IsMessageOf h vs tail cs m
    → SameText (open_lines (begin_node h stop vs tail cs ∷ [])) (message_lines m)
unfolding open_lines begun_lines message_lines covers
whole_message (message v k n id) stop vs tail cs m s d ended e =
    let b : Begun = begin_node (message v k n id) stop vs tail cs in
    let os : List ℕ = unwrap_or tail [] in
    let w : MessageTree = record { version = v; id = id; kind = k; fields = plain_values (fields_of (Message k)) vs; tail = os; children = cs } in
    let size : n ≡ message_octets w = message_size v n id stop (length (covers (b ∷ []))) k os cs (fields_in b [] s).0 ended (inside_of b [] s) (own_octets b [] s d) in
    let again = spread_again b [] s d in
    let fields_are : field_lines 0 (rules b) vs ≡ field_lines 0 (rules b) (spread (rules b) (plain_values (rules b) vs)) = ap (λ (us : List ℕ). field_lines 0 (rules b) us) (sym again) in
    let own = same_append _ _ (read_lines 0 (form b) tail) (tail_lines 0 (form b) os) (same_equal _ _ fields_are) (read_same 0 (form b) tail (all_due b d).1) in
    let below = forest_lines 1 cs in
    let node = same_append (head_lines 0 (message v k n id)) (head_lines 0 (message v k (message_octets w) id))
    ((field_lines 0 (rules b) vs ++ read_lines 0 (form b) tail) ++ below) ((field_lines 0 (rules b) (spread (rules b) (plain_values (rules b) vs)) ++ tail_lines 0 (form b) os) ++ below)
    (same_equal _ _ (ap (λ (j : ℕ). head_lines 0 (message v k j id)) size)) (same_append _ _ below below own (same_refl below)) in
    subst (λ (x : MessageTree). SameText (open_lines (b ∷ [])) (message_lines x)) (sym e) node
whole_message (tlv k n) stop vs tail cs m s d ended e = absurd e
whole_message (tv k) stop vs tail cs m s d ended e = absurd e

pub ended_lines : (b : Begun) (m : MessageTree) → IsReady (b ∷ []) → IsMessageOf b.head b.fields b.tail b.children m → SameText (open_lines (b ∷ [])) (message_lines m)
ended_lines b m r e =
    let same : r.node ≡ b = (let z = r.tree_is in cc) in
    let d : due b ≡ Rest = ap due (sym same) ∙ r.ready in
    let ended = subst (λ (n : Begun). has_ended n.head (nat_le n.stop (length (covers (b ∷ [])))) ≡ true) same r.ended in
    whole_message b.head b.stop b.fields b.tail b.children m r.is_open d ended e
