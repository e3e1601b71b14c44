-- What the printer of a frame holds, part by part.
use Rattle.std.proofs.Common.{◌≡◌, ◌≢◌, ◌⊎◌, inl, inr, ℕ, suc, ◌+◌, ◌-◌, ◌*◌, ◌/◌, ◌≤◌, ◌<◌, List, [], ◌∷◌, ◌++◌, length, drop, Bool, true, false, Option, Some, None, refl, sym, ap, subst, ◌∙◌, arith, append_assoc}
use Rattle.std.specs.Prelude.{unwrap_or, is_none, is_some, is_err, not, Result, Ok, Err, OnOk}
use Rattle.std.proofs.lemmas.List.{append-nil}
use Rattle.llrp_schema.specs.declared.kinds.MsgKind.{MsgKind}
use Rattle.llrp_schema.specs.declared.kinds.ParamKind.{ParamKind}
use Rattle.llrp_schema.specs.declared.kinds.Kind.TheVariants.{Parameter}
use Rattle.llrp_schema.specs.declared.kinds.Tail.{Tail}
use Rattle.llrp_schema.specs.Schema.{FieldRule, fields_of, tail_of, is_tv, number_of}
use Rattle.llrp_tree.specs.declared.fault.Fault.{Fault}
use Rattle.llrp_tree.specs.declared.fault.Reason.{Reason}
use Rattle.llrp_tree.specs.declared.fault.Reason.TheVariants.{Reserved, Version, MessageType, MessageLength, Short, Value, Count, Utf8, ParamType, Misplaced, TooMany, TooDeep, ParamLength, Extra, Missing}
use Rattle.llrp_tree.specs.Tree.{Tree, none}
use Rattle.llrp_tree.specs.Lawful.{tree_octets}
use Rattle.llrp_tree.specs.Spelling.{Head, message, tlv, tv, head_of, spread}
use Rattle.llrp_tree.specs.OpenTree.{Begun, kind_of_head, rules, form, covers, IsHead, IsOpenTree}
use Rattle.llrp_tree.specs.FirstFault.{next_fault}
use Rattle.llrp_tree.specs.Calls.Standing.{begin_node, leading}
use Rattle.llrp_stream.specs.declared.engine.listener.Stopped.{Stopped}
use Rattle.llrp_stream.specs.declared.engine.body_reader.Stage.{Stage}
use Rattle.llrp_stream.specs.declared.engine.body_reader.Stage.TheVariants as stage
use Rattle.llrp_stream.specs.Calls.Received.{with_field, with_octets, with_value, with_closed, without_tail, IsNextField, IsBeforeTail, IsInTail, IsReady}
use Rattle.llrp_stream.specs.Calls.Reading.{IsDueAt, IsStopped, MayFailFor, Told, ToldBy}
use Rattle.llrp_explain.specs.declared.lines.Lines.{Lines}
use Rattle.llrp_explain.specs.declared.printer.FramePrinter.{FramePrinter}
use Rattle.llrp_explain.specs.Calls.ExplainLines.{ExplainLine, line, bits_of_lines, head_lines, field_lines, tail_lines, forest_lines, open_lines}
use Rattle.llrp_explain.specs.Calls.ExplainText.{kind_after, readings_text}
use Rattle.llrp_explain.specs.Calls.Printed.{Holds, Adds}
use Rattle.llrp_explain.specs.Private.Trees.{tree_lines}
use Rattle.llrp_explain.specs.Calls.FaultSentences.{refusal_text}
use Rattle.llrp_explain.specs.Calls.Printing.{AreHanded, Begins, IsPending, IsRefusal, IsTreeOf, RefusesPart, Stands}
use Rattle.llrp_explain.specs.Private.RefusedNodes.{IsRefusedNode}
use Rattle.llrp_explain.proofs.LineDigits.{open_is, bits_are}
use Rattle.llrp_explain.proofs.OpenLines.{begun_lead, lead_field, ready_bare, ready_tail, value_lines, closed_lines, holds_same}
use Rattle.llrp_explain.proofs.PrintedLemmas.{bits_append, adds_then, on_adds, moved}

-- ---- a message begins

fresh : (x : Lines) → x.text.items ≡ [] → x.bit ≡ 0 → x.kind ≡ None → Holds [] [] x
unfolding Holds readings_text kind_after bits_of_lines
fresh x t b k small = (t, b, k)

pub message_begun : (v n id stop : ℕ) (k : MsgKind) (x y : Lines) → x.text.items ≡ [] → x.bit ≡ 0 → x.kind ≡ None → Adds (head_lines 0 (message v k n id)) x y → Holds [] (open_lines (leading (message v k n id) stop [] ∷ [])) y
unfolding open_lines
message_begun v n id stop k x y t b j a = subst (λ (ls : List ExplainLine). Holds [] ls y) (sym (begun_lead (message v k n id) stop [])) (a [] [] (fresh x t b j))

-- ---- a parameter begins

head_in : (h : Head) (stop : ℕ) (t : List Begun) → IsOpenTree (leading h stop [] ∷ t) → IsHead h stop t
unfolding IsOpenTree
head_in h stop t s = s.0.head

pub not_first : {Q : Type 0} (h : Head) (k : ParamKind) (stop : ℕ) → kind_of_head h ≡ Parameter k → IsOpenTree (leading h stop [] ∷ []) → Q
not_first (message v m n id) k stop e s = absurd cc
not_first (tlv j n) k stop e s = absurd (head_in (tlv j n) stop [] s)
not_first (tv j) k stop e s = absurd (head_in (tv j) stop [] s)

short_head : (h : Head) (k : ParamKind) (stop : ℕ) (b : Begun) (outer : List Begun) → kind_of_head h ≡ Parameter k → IsHead h stop (b ∷ outer) → is_tv k ≡ true → tv k ≡ h
short_head (message v m n id) k stop b outer e i f = absurd i
short_head (tlv j n) k stop b outer e i f = (let same : j ≡ k = cc in let g : is_tv k ≡ false = ap is_tv (sym same) ∙ i.kind_is_tlv in absurd (let z : true ≡ false = sym f ∙ g in cc))
short_head (tv j) k stop b outer e i f = (let same : j ≡ k = cc in ap tv (sym same))

pub short_begun : (h : Head) (k : ParamKind) (stop level : ℕ) (b : Begun) (outer : List Begun) (x y : Lines) → Holds [] (open_lines (b ∷ outer)) x → length (b ∷ outer) ≡ level → kind_of_head h ≡ Parameter k → IsOpenTree (leading h stop [] ∷ b ∷ outer)
    → is_tv k ≡ true → Adds (head_lines level (tv k)) x y → Holds [] (open_lines (leading h stop [] ∷ b ∷ outer)) y
short_begun h k stop level b outer x y holds deep e s f a =
    let is = short_head h k stop b outer e (head_in h stop (b ∷ outer) s) f in
    subst (λ (ls : List ExplainLine). Holds [] ls y) (ap (λ (n : ℕ). open_lines (b ∷ outer) ++ head_lines n (tv k)) (sym deep) ∙ ap (λ (j : Head). open_lines (b ∷ outer) ++ head_lines (length (b ∷ outer)) j) is ∙ sym (begun_lead h stop (b ∷ outer))) (a [] (open_lines (b ∷ outer)) holds)

open_bits : (t : List Begun) → bits_of_lines (open_lines t) ≡ length (covers t)
open_bits t = bits_are (open_lines t) ∙ ap (λ (ds : List Bool). length ds) (open_is t)

long_bits : (level n : ℕ) (k : ParamKind) → bits_of_lines (head_lines level (tlv k n)) ≡ 32
unfolding bits_of_lines head_lines
long_bits level n k = refl

long_head : (h : Head) (k : ParamKind) (stop octets bit : ℕ) (b : Begun) (outer : List Begun) → kind_of_head h ≡ Parameter k → IsHead h (8 * stop) (b ∷ outer) → is_tv k ≡ false → bit ≡ length (covers (b ∷ outer)) → octets ≡ stop - bit / 8 → tlv k octets ≡ h
long_head (message v m n id) k stop octets bit b outer e i f at is = absurd i
long_head (tlv j n) k stop octets bit b outer e i f at is =
    let same : j ≡ k = cc in
    let size : octets ≡ n = (let s = i.stops in omega (arith, s, at, is)) in
    ap (λ (m : ℕ). tlv k m) size ∙ ap (λ (x : ParamKind). tlv x n) (sym same)
long_head (tv j) k stop octets bit b outer e i f at is = (let same : j ≡ k = cc in let g : is_tv k ≡ true = ap is_tv (sym same) ∙ i.kind_is_tv in absurd (let z : true ≡ false = sym g ∙ f in cc))

pub long_begun : (h : Head) (k : ParamKind) (stop level octets : ℕ) (b : Begun) (outer : List Begun) (x y : Lines) → Holds [] (open_lines (b ∷ outer)) x → length (b ∷ outer) ≡ level → kind_of_head h ≡ Parameter k → IsOpenTree (leading h (8 * stop) [] ∷ b ∷ outer)
    → is_tv k ≡ false → octets ≡ stop - x.bit / 8 → Adds (head_lines level (tlv k octets)) x y → Holds [] (open_lines (leading h (8 * stop) [] ∷ b ∷ outer)) y
unfolding Holds
long_begun h k stop level octets b outer x y holds deep e s f is a small =
    let t : List Begun = b ∷ outer in
    let lead = begun_lead h (8 * stop) t in
    let few : bits_of_lines (open_lines t) < 4294967296 = (let z = ap bits_of_lines lead ∙ bits_append (open_lines t) (head_lines (length t) h) in omega (arith, z, small)) in
    let at : x.bit ≡ length (covers t) = (holds few).1 ∙ open_bits t in
    let head = long_head h k stop octets x.bit b outer e (head_in h (8 * stop) t s) f at is in
    let same : open_lines t ++ head_lines level (tlv k octets) ≡ open_lines (leading h (8 * stop) [] ∷ t) = ap (λ (n : ℕ). open_lines t ++ head_lines n (tlv k octets)) (sym deep) ∙ ap (λ (j : Head). open_lines t ++ head_lines (length t) j) head ∙ sym lead in
    subst (λ (ls : List ExplainLine). bits_of_lines ls < 4294967296 → (y.text.items ≡ [] ++ readings_text None 0 ls) × (y.bit ≡ bits_of_lines ls) × (y.kind ≡ kind_after None ls)) same (a [] (open_lines t) holds) small

-- ---- fields and tails

pending_same : (f : Option Tail) (os : List ℕ) (b c : Begun) → b.head ≡ c.head → b.tail ≡ c.tail → IsPending f os b → IsPending f os c
pending_same None os b c eh et p = sym et ∙ p
pending_same (Some f) os b c eh et p = (ap (λ (h : Head). Rattle.llrp_schema.specs.Schema.tail_of (kind_of_head h)) (sym eh) ∙ p.0, sym et ∙ p.1)

pub field_begun : (depth level v : ℕ) (name : List ℕ) (rule : FieldRule) (f : Option Tail) (os : List ℕ) (b : Begun) (outer : List Begun) (x y : Lines)
    → Holds [] (open_lines (leading b.head b.stop b.fields ∷ outer)) x × (depth ≡ suc (length outer)) × (b.children ≡ none) × IsPending f os b → level ≡ depth - 1 → name ≡ rule.name → IsNextField (b ∷ outer) rule → Adds (line level name rule.width v ∷ []) x y
    → Holds [] (open_lines (leading b.head b.stop (b.fields ++ v ∷ []) ∷ outer)) y × (depth ≡ suc (length outer)) × (b.children ≡ none) × IsPending f os (begin_node b.head b.stop (b.fields ++ v ∷ []) b.tail b.children)
field_begun depth level v name rule f os b outer x y o l n nx a =
    let same : nx.node ≡ b = (let z = nx.tree_is in cc) in
    let next : drop (length b.fields) (rules b) ≡ rule ∷ nx.others = ap (λ (z : Begun). drop (length z.fields) (rules z)) (sym same) ∙ nx.next in
    let d = o.1 in
    let is_level : level ≡ length outer = omega (arith, l, d) in
    let more = a [] (open_lines (leading b.head b.stop b.fields ∷ outer)) o.0 in
    let whole : open_lines (leading b.head b.stop b.fields ∷ outer) ++ line level name rule.width v ∷ [] ≡ open_lines (leading b.head b.stop (b.fields ++ v ∷ []) ∷ outer) =
    ap (λ (m : ℕ). open_lines (leading b.head b.stop b.fields ∷ outer) ++ line m name rule.width v ∷ []) is_level ∙ ap (λ (w : List ℕ). open_lines (leading b.head b.stop b.fields ∷ outer) ++ line (length outer) w rule.width v ∷ []) n
    ∙ sym (lead_field b.head b.stop b.fields outer v rule nx.others next) in
    (subst (λ (ls : List ExplainLine). Holds [] ls y) whole more, d, o.2, pending_same f os b (begin_node b.head b.stop (b.fields ++ v ∷ []) b.tail b.children) refl refl o.3)

pub tail_begun : (f : Tail) (b : Begun) (outer : List Begun) → IsBeforeTail (b ∷ outer) f → IsPending (Some f) [] (begin_node b.head b.stop b.fields (Some (unwrap_or b.tail [] ++ [])) b.children)
tail_begun f b outer nx =
    let same : nx.node ≡ b = (let z = nx.tree_is in cc) in
    let bare : b.tail ≡ None = ap (λ (x : Begun). x.tail) (sym same) ∙ nx.untailed in
    (ap form (sym same) ∙ nx.form_is, ap (λ (x : Option (List ℕ)). Some (unwrap_or x [] ++ [])) bare)

pub octets_begun : (f : Option Tail) (g : Tail) (old new octets : List ℕ) (b : Begun) (outer : List Begun) → IsInTail (b ∷ outer) g → IsPending f old b → new ≡ old ++ octets → IsPending f new (begin_node b.head b.stop b.fields (Some (unwrap_or b.tail [] ++ octets)) b.children)
octets_begun None g old new octets b outer nx p e = (
    let same : nx.node ≡ b = (let z = nx.tree_is in cc) in
    let tailed : b.tail ≡ Some nx.so_far = ap (λ (x : Begun). x.tail) (sym same) ∙ nx.tail_is in
    absurd (let z : None ≡ Some nx.so_far = sym p ∙ tailed in cc)
    )
octets_begun (Some f) g old new octets b outer nx p e = (p.0, ap (λ (x : Option (List ℕ)). Some (unwrap_or x [] ++ octets)) p.1 ∙ ap Some (sym e))

-- ---- a node that is ready

pub ready_none : (f : Option Tail) (os : List ℕ) (depth : ℕ) (b : Begun) (outer : List Begun) (x : Lines) → f ≡ None → Holds [] (open_lines (leading b.head b.stop b.fields ∷ outer)) x × (depth ≡ suc (length outer)) × (b.children ≡ none) × IsPending f os b
    → Holds [] (open_lines (b ∷ outer)) x × (depth ≡ suc (length outer))
ready_none f os depth b outer x e o =
    let p = subst (λ (g : Option Tail). IsPending g os b) e o.3 in
    (subst (λ (ls : List ExplainLine). Holds [] ls x) (ready_bare b outer p o.2) o.0, o.1)

pub ready_some : (f : Option Tail) (g : Tail) (os : List ℕ) (depth level : ℕ) (b : Begun) (outer : List Begun) (x y : Lines) → f ≡ Some g → Holds [] (open_lines (leading b.head b.stop b.fields ∷ outer)) x × (depth ≡ suc (length outer)) × (b.children ≡ none) × IsPending f os b
    → level ≡ depth - 1 → Adds (tail_lines level g os) x y → Holds [] (open_lines (b ∷ outer)) y × (depth ≡ suc (length outer))
ready_some f g os depth level b outer x y e o l a =
    let p = subst (λ (h : Option Tail). IsPending h os b) e o.3 in
    let d = o.1 in
    let is_level : level ≡ length outer = omega (arith, l, d) in
    let more = a [] (open_lines (leading b.head b.stop b.fields ∷ outer)) o.0 in
    let whole = ap (λ (n : ℕ). open_lines (leading b.head b.stop b.fields ∷ outer) ++ tail_lines n g os) is_level ∙ ap (λ (h : Tail). open_lines (leading b.head b.stop b.fields ∷ outer) ++ tail_lines (length outer) h os) (sym p.0) ∙ ready_tail b outer os p.1 o.2 in
    (subst (λ (ls : List ExplainLine). Holds [] ls y) whole more, d)

-- ---- a whole parameter

pub value_added : (k : ParamKind) (v level : ℕ) (b : Begun) (outer : List Begun) (x y : Lines) → Holds [] (open_lines (b ∷ outer)) x → length (b ∷ outer) ≡ level → Adds (tree_lines level (record { kind = k; fields = v ∷ []; tail = []; children = none })) x y
    → Holds [] (open_lines (with_value k v (b ∷ outer))) y
value_added k v level b outer x y holds deep a =
    let tree : Tree = record { kind = k; fields = v ∷ []; tail = []; children = none } in
    subst (λ (ls : List ExplainLine). Holds [] ls y) (ap (λ (n : ℕ). open_lines (b ∷ outer) ++ tree_lines n tree) (sym deep) ∙ value_lines b outer k v) (a [] (open_lines (b ∷ outer)) holds)

pub any_size : (k : ParamKind) (n m : ℕ) → is_tv k ≡ true → head_of k n ≡ head_of k m
any_size k n m e = rw e refl

three_added : (h f t : List ExplainLine) → ((h ++ f) ++ t) ≡ h ++ ((f ++ t) ++ [])
three_added h f t = append_assoc h f t ∙ ap (λ (x : List ExplainLine). h ++ x) (sym (append-nil (f ++ t)))

pub value_node : {T E : Type 0} (r : Result T E) (k : ParamKind) (v level : ℕ) (x0 x1 x2 x3 : Lines) (rs : List FieldRule) (f : Tail) → is_tv k ≡ true → rs ≡ fields_of (Parameter k) → f ≡ tail_of (Parameter k)
    → Adds (head_lines level (head_of k 0)) x0 x1 → Adds (field_lines level rs (spread rs (v ∷ []))) x1 x2 → OnOk r (Adds (tail_lines level f []) x2 x3)
    → OnOk r (Adds (tree_lines level (record { kind = k; fields = v ∷ []; tail = []; children = none })) x0 x3)
unfolding forest_lines
value_node r k v level x0 x1 x2 x3 rs f e er ef a b c =
    let t : Tree = record { kind = k; fields = v ∷ []; tail = []; children = none } in
    let h = head_lines level (head_of k 0) in
    let h2 = head_lines level (head_of k (tree_octets t)) in
    let is_h : h ≡ h2 = ap (λ (j : Head). head_lines level j) (any_size k 0 (tree_octets t) e) in
    let fs = field_lines level rs (spread rs (v ∷ [])) in
    let fs2 = field_lines level (fields_of (Parameter k)) (spread (fields_of (Parameter k)) (v ∷ [])) in
    let is_f : fs ≡ fs2 = ap (λ (q : List FieldRule). field_lines level q (spread q (v ∷ []))) er in
    let ts = tail_lines level f [] in
    let ts2 = tail_lines level (tail_of (Parameter k)) [] in
    let is_t : ts ≡ ts2 = ap (λ (g : Tail). tail_lines level g []) ef in
    moved r ((h ++ fs) ++ ts) (h2 ++ ((fs2 ++ ts2) ++ [])) x0 x3
    (three_added h fs ts ∙ ap (λ (x : List ExplainLine). x ++ ((fs ++ ts) ++ [])) is_h ∙ ap (λ (x : List ExplainLine). h2 ++ ((x ++ ts) ++ [])) is_f ∙ ap (λ (x : List ExplainLine). h2 ++ ((fs2 ++ x) ++ [])) is_t)
    (on_adds r (h ++ fs) ts x0 x2 x3 (adds_then h fs x0 x1 x2 a b) c)

-- ---- a parameter, or the message, is whole

pub closed_holds : (depth after : ℕ) (t : List Begun) (printer : FramePrinter) → Stands printer t → printer.depth ≡ depth → 2 ≤ depth → after ≡ depth - 1 → IsReady t → Stands (record printer { depth = after }) (with_closed t)
closed_holds depth after [] printer o d two e r = tt
closed_holds depth after (b ∷ []) printer o d two e r = (let k = o.1 in absurd (omega (arith, k, d, two)))
closed_holds depth after (b ∷ p ∷ outer) printer o d two e r = (let k = o.1 in (holds_same [] _ _ printer.lines (closed_lines (b ∷ p ∷ outer) r) o.0, omega (arith, k, d, e)))

-- ---- a fault

-- the lines of the tree that has the fault
pub fault_lines : (s : Stage) (known : ℕ) (b : Begun) (outer : List Begun) (fault : Fault) (printer : FramePrinter) → Told (Begins printer) (Stands printer) s (b ∷ outer) → IsDueAt s known b → MayFailFor s fault.reason
    → (tree : List Begun) → (b ∷ outer ≡ tree) ⊎ ((fault.reason ≡ Utf8) × (without_tail (b ∷ outer) ≡ tree)) → (fault.reason ≡ Utf8 → tree ≡ without_tail tree) → Holds [] (open_lines tree) printer.lines
fault_lines (stage.Leading next) known b outer fault printer told due may tree (inl is) bare =
    subst (λ (t : List Begun). Holds [] (open_lines t) printer.lines) is (subst (λ (ls : List ExplainLine). Holds [] ls printer.lines) (ready_bare b outer due.1 told.2) told.0)
fault_lines (stage.Leading next) known b outer fault printer told due may tree (inr is) bare = subst (λ (t : List Begun). Holds [] (open_lines t) printer.lines) is.1 told.0
fault_lines (stage.Tail left) known b outer fault printer told due may tree (inl is) bare =
    subst (λ (t : List Begun). Holds [] (open_lines t) printer.lines) (ap without_tail is ∙ sym (bare may)) told.0
fault_lines (stage.Tail left) known b outer fault printer told due may tree (inr is) bare = subst (λ (t : List Begun). Holds [] (open_lines t) printer.lines) is.1 told.0
fault_lines stage.Children known b outer fault printer told due may tree (inl is) bare = subst (λ (t : List Begun). Holds [] (open_lines t) printer.lines) is told.0
fault_lines stage.Children known b outer fault printer told due may tree (inr is) bare = absurd (may is.0)

of_text : (reason : Reason) → (reason ≡ Utf8) ⊎ (reason ≢ Utf8)
of_text Reserved = inr (λ e. let z : Reserved ≡ Utf8 = e in cc)
of_text Version = inr (λ e. let z : Version ≡ Utf8 = e in cc)
of_text MessageType = inr (λ e. let z : MessageType ≡ Utf8 = e in cc)
of_text MessageLength = inr (λ e. let z : MessageLength ≡ Utf8 = e in cc)
of_text Short = inr (λ e. let z : Short ≡ Utf8 = e in cc)
of_text Value = inr (λ e. let z : Value ≡ Utf8 = e in cc)
of_text Count = inr (λ e. let z : Count ≡ Utf8 = e in cc)
of_text Utf8 = inl refl
of_text ParamType = inr (λ e. let z : ParamType ≡ Utf8 = e in cc)
of_text Misplaced = inr (λ e. let z : Misplaced ≡ Utf8 = e in cc)
of_text TooMany = inr (λ e. let z : TooMany ≡ Utf8 = e in cc)
of_text TooDeep = inr (λ e. let z : TooDeep ≡ Utf8 = e in cc)
of_text ParamLength = inr (λ e. let z : ParamLength ≡ Utf8 = e in cc)
of_text Extra = inr (λ e. let z : Extra ≡ Utf8 = e in cc)
of_text Missing = inr (λ e. let z : Missing ≡ Utf8 = e in cc)

told_depth : (s : Stage) (b : Begun) (outer : List Begun) (printer : FramePrinter) → Told (Begins printer) (Stands printer) s (b ∷ outer) → printer.depth ≡ suc (length outer)
told_depth (stage.Leading next) b outer printer told = told.1
told_depth (stage.Tail left) b outer printer told = told.1
told_depth stage.Children b outer printer told = told.1

bit_is : (b : Begun) (outer : List Begun) (printer : FramePrinter) → Holds [] (open_lines (b ∷ outer)) printer.lines → length (covers (b ∷ outer)) ≤ 4294967000 → printer.lines.bit ≡ length (covers (b ∷ outer))
unfolding Holds
bit_is b outer printer h small = (let bits = open_bits (b ∷ outer) in (h (omega (arith, bits, small))).1 ∙ bits)

-- the text that is kept of what is refused
module _ (old : FramePrinter) (s : Stopped) (b : Begun) (outer : List Begun) (octets : List ℕ) (fault : Fault) (text : List ℕ) (told : Told (Begins old) (Stands old) s.stage (b ∷ outer)) (is : IsStopped (Some s) (b ∷ outer) fault.reason)
    (utf8 : fault.reason ≡ Utf8 → (c : Begun) (around : List Begun) (rest : List Bool) → next_fault (c ∷ around) rest ≡ Some (fault.bit, fault.reason) → text ≡ refusal_text (c ∷ around) fault.bit fault.reason rest)
    (other : fault.reason ≢ Utf8 → (c : Begun) (around : List Begun) (rest : List Bool) → IsRefusedNode s.node old.depth old.lines.bit octets fault c around rest → IsDueAt s.stage s.first c → MayFailFor s.stage fault.reason → text ≡ refusal_text (c ∷ around) fault.bit fault.reason rest) where
  text_part : fault.reason ≡ Utf8 → (tree : List Begun) (rest : List Bool) → next_fault tree rest ≡ Some (fault.bit, fault.reason) → text ≡ refusal_text tree fault.bit fault.reason rest
  unfolding next_fault
  text_part e [] rest f = absurd cc
  text_part e (c ∷ around) rest f = utf8 e c around rest f

  same_tree : (tree : List Begun) → fault.reason ≢ Utf8 → IsTreeOf (b ∷ outer) fault tree → b ∷ outer ≡ tree
  same_tree tree not (inl e) = e
  same_tree tree not (inr e) = absurd (not e.0)

  same_handed : (tree : List Begun) (rest : List Bool) → fault.reason ≢ Utf8 → (fault.reason ≡ Utf8) ⊎ AreHanded tree octets rest → AreHanded tree octets rest
  same_handed tree rest not (inl e) = absurd (not e)
  same_handed tree rest not (inr h) = h

  other_part : fault.reason ≢ Utf8 → (rest : List Bool) → IsOpenTree (b ∷ outer) → length (covers (b ∷ outer)) ≤ 4294967000 → AreHanded (b ∷ outer) octets rest → next_fault (b ∷ outer) rest ≡ Some (fault.bit, fault.reason) → text ≡ refusal_text (b ∷ outer) fault.bit fault.reason rest
  other_part not rest open_tree small h f =
      let holds = fault_lines s.stage s.first b outer fault old told is.1 is.2 (b ∷ outer) (inl refl) (λ e. absurd (not e)) in
      let bit = bit_is b outer old holds small in
      other not b outer rest (record { is_open = open_tree; level = is.0; depth_is = told_depth s.stage b outer old told; at_is = bit; small = omega (arith, bit, small); handed = h; fails = f }) is.1 is.2

  pub kept_part : RefusesPart (b ∷ outer) octets fault text
  kept_part tree rest of open_tree small h f = elim (of_text fault.reason) [
    | inl e ↦ text_part e tree rest f
    | inr not ↦ (
        let same = same_tree tree not of in
        subst (λ (t : List Begun). IsOpenTree t → length (covers t) ≤ 4294967000 → AreHanded t octets rest → next_fault t rest ≡ Some (fault.bit, fault.reason) → text ≡ refusal_text t fault.bit fault.reason rest) same (other_part not rest) open_tree small (same_handed tree rest not h) f)
  ]

pub refusal : (stopped : Option Stopped) (t : List Begun) (handed : List ℕ) (fault : Fault) (old new : FramePrinter) → ToldBy (Begins old) (Stands old) stopped t → IsStopped stopped t fault.reason → new.of_header ≡ is_none stopped
    → ((s : Stopped) → stopped ≡ Some s → new.lines ≡ old.lines) → (new.failed ≡ false → stopped ≡ None → new.tail.items ≡ handed)
    → (new.failed ≡ false → (s : Stopped) → stopped ≡ Some s → (b : Begun) (outer : List Begun) → Told (Begins old) (Stands old) s.stage (b ∷ outer) → IsStopped (Some s) (b ∷ outer) fault.reason → RefusesPart (b ∷ outer) handed fault new.refused.items) → IsRefusal new t handed fault
refusal None [] handed fault old new told is e same kept part = (e, λ f. kept f refl)
refusal None (b ∷ outer) handed fault old new told is e same kept part = absurd cc
refusal (Some s) [] handed fault old new told is e same kept part = absurd is
refusal (Some s) (b ∷ outer) handed fault old new told is e same kept part = (
  e,
  λ tree of bare. subst (λ (x : Lines). Holds [] (open_lines tree) x) (sym (same s refl)) (fault_lines s.stage s.first b outer fault old told is.1 is.2 tree of bare),
  λ f. part f s refl b outer told is,
)

-- what is not there
pub none_is : {T : Type 0} (o : Option T) (b : Bool) → is_some o ≡ not b → b ≡ is_none o
none_is o true e = ap not (sym e)
none_is o false e = ap not (sym e)

-- what holds where a result is Ok
pub on_both : {T E : Type 0} (r : Result T E) (P Q S : Type 0) → OnOk r P → OnOk r Q → (P → Q → S) → OnOk r S
on_both (Ok v) P Q S p q f = f p q
on_both (Err e) P Q S p q f = tt

pub if_kept : {T E : Type 0} (r : Result T E) (P : Type 0) → OnOk r P → is_err r ≡ false → P
if_kept (Ok v) P p e = p
if_kept (Err x) P p e = absurd (let z : true ≡ false = e in cc)

-- ---- the printer's steps, whatever open tree it holds

pub short_in : (h : Head) (k : ParamKind) (stop level depth : ℕ) (t : List Begun) (old : FramePrinter) (y : Lines) (os : List ℕ) → Stands old t → length t ≡ level → kind_of_head h ≡ Parameter k → IsOpenTree (leading h stop [] ∷ t) → is_tv k ≡ true → depth ≡ level + 1
    → Adds (head_lines level (tv k)) old.lines y → Holds [] (open_lines (leading h stop [] ∷ t)) y × (depth ≡ suc (length t)) × (none ≡ none) × IsPending None os (leading h stop [])
short_in h k stop level depth [] old y os st l e s f d a = not_first h k stop e s
short_in h k stop level depth (b ∷ outer) old y os st l e s f d a = (short_begun h k stop level b outer old.lines y st.0 l e s f a, omega (arith, l, d), refl, refl)

pub long_in : (h : Head) (k : ParamKind) (stop level depth octets : ℕ) (t : List Begun) (old : FramePrinter) (y : Lines) (os : List ℕ) → Stands old t → length t ≡ level → kind_of_head h ≡ Parameter k → IsOpenTree (leading h (8 * stop) [] ∷ t) → is_tv k ≡ false → depth ≡ level + 1
    → octets ≡ stop - old.lines.bit / 8 → Adds (head_lines level (tlv k octets)) old.lines y → Holds [] (open_lines (leading h (8 * stop) [] ∷ t)) y × (depth ≡ suc (length t)) × (none ≡ none) × IsPending None os (leading h (8 * stop) [])
long_in h k stop level depth octets [] old y os st l e s f d n a = not_first h k (8 * stop) e s
long_in h k stop level depth octets (b ∷ outer) old y os st l e s f d n a = (long_begun h k stop level octets b outer old.lines y st.0 l e s f n a, omega (arith, l, d), refl, refl)

pub field_in : (level v : ℕ) (name : List ℕ) (rule : FieldRule) (t : List Begun) (old : FramePrinter) (y : Lines) → Begins old t → level ≡ old.depth - 1 → name ≡ rule.name → IsNextField t rule → Adds (line level name rule.width v ∷ []) old.lines y
    → Begins (record old { lines = y }) (with_field v t)
field_in level v name rule [] old y o l n nx a = absurd o
field_in level v name rule (b ∷ outer) old y o l n nx a = field_begun old.depth level v name rule old.form old.tail.items b outer old.lines y o l n nx a

pub tail_in : (f : Tail) (t : List Begun) (old new : FramePrinter) → Begins old t → IsBeforeTail t f → new.lines ≡ old.lines → new.depth ≡ old.depth → new.form ≡ Some f → new.tail.items ≡ [] → Begins new (with_octets [] t)
tail_in f [] old new o nx el ed ef et = absurd o
tail_in f (b ∷ outer) old new o nx el ed ef et = (
  subst (λ (x : Lines). Holds [] (open_lines (leading b.head b.stop b.fields ∷ outer)) x) (sym el) o.0,
  ed ∙ o.1,
  o.2,
  subst (λ (g : Option Tail). IsPending g new.tail.items (begin_node b.head b.stop b.fields (Some (unwrap_or b.tail [] ++ [])) b.children)) (sym ef) (subst (λ (os : List ℕ). IsPending (Some f) os (begin_node b.head b.stop b.fields (Some (unwrap_or b.tail [] ++ [])) b.children)) (sym et) (tail_begun f b outer nx)),
)

pub octets_in : (g : Tail) (octets : List ℕ) (t : List Begun) (old new : FramePrinter) → Begins old t → IsInTail t g → new.lines ≡ old.lines → new.depth ≡ old.depth → new.form ≡ old.form → new.tail.items ≡ old.tail.items ++ octets → Begins new (with_octets octets t)
octets_in g octets [] old new o nx el ed ef et = absurd o
octets_in g octets (b ∷ outer) old new o nx el ed ef et = (
  subst (λ (x : Lines). Holds [] (open_lines (leading b.head b.stop b.fields ∷ outer)) x) (sym el) o.0,
  ed ∙ o.1,
  o.2,
  subst (λ (f : Option Tail). IsPending f new.tail.items (begin_node b.head b.stop b.fields (Some (unwrap_or b.tail [] ++ octets)) b.children)) (sym ef) (octets_begun old.form g old.tail.items new.tail.items octets b outer nx o.3 et),
)

pub none_in : (t : List Begun) (old : FramePrinter) → Begins old t → old.form ≡ None → Stands old t
none_in [] old o e = absurd o
none_in (b ∷ outer) old o e = ready_none old.form old.tail.items old.depth b outer old.lines e o

pub some_in : (g : Tail) (level : ℕ) (t : List Begun) (old : FramePrinter) (y : Lines) → Begins old t → old.form ≡ Some g → level ≡ old.depth - 1 → Adds (tail_lines level g old.tail.items) old.lines y → Stands (record old { lines = y }) t
some_in g level [] old y o e l a = absurd o
some_in g level (b ∷ outer) old y o e l a = ready_some old.form g old.tail.items old.depth level b outer old.lines y e o l a

pub value_in : (k : ParamKind) (v level : ℕ) (t : List Begun) (old : FramePrinter) (y : Lines) → Stands old t → length t ≡ level → Adds (tree_lines level (record { kind = k; fields = v ∷ []; tail = []; children = none })) old.lines y → Stands (record old { lines = y }) (with_value k v t)
value_in k v level [] old y o l a = tt
value_in k v level (b ∷ outer) old y o l a = (value_added k v level b outer old.lines y o.0 l a, o.1)
