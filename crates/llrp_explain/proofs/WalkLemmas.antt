-- The lines of a message, part by part.
use Rattle.std.proofs.Common.{◌≡◌, ℕ, zero, suc, ◌+◌, ◌/◌, ◌<◌, ◌≤◌, List, [], ◌∷◌, ◌++◌, length, take, get_or, map, true, false, refl, sym, ap, subst, ◌∙◌, arith, append_assoc, ◌⊎◌, inl, inr, drop, ◌-◌}
use Rattle.std.specs.Prelude.{Result, OnOk, codes}
use Rattle.llrp_schema.specs.declared.kinds.MsgKind.{MsgKind}
use Rattle.llrp_schema.specs.declared.kinds.ParamKind.{ParamKind}
use Rattle.llrp_schema.specs.declared.kinds.Kind.TheVariants.{Message, Parameter}
use Rattle.llrp_schema.specs.declared.kinds.Tail.{Tail}
use Rattle.llrp_schema.specs.declared.kinds.Tail.TheVariants.{Absent, Words, Text, Bits, Data}
use Rattle.llrp_schema.specs.declared.kinds.Field.{Field}
use Rattle.llrp_schema.specs.Calls.Schema.{field_rule}
use Rattle.std.proofs.lemmas.List.{take_all}
use Rattle.llrp_schema.specs.Schema.{FieldRule, fields_of, tail_of}
use Rattle.llrp_tree.specs.Tree.{Forest, Tree, MessageTree, add, forest, trees}
use Rattle.llrp_tree.specs.Lawful.{levels, first, others, tree_octets, message_octets}
use Rattle.llrp_tree.specs.Spelling.{message, tlv, tv, head_of, spread}
use Rattle.llrp_tree.proofs.TreeLemmas.{forest-trees, forest-take_more}
use Rattle.llrp_tree.proofs.SpelledLemmas.{levels_of_first, levels_of_others}
use Rattle.llrp_explain.specs.declared.lines.Lines.{Lines}
use Rattle.llrp_explain.specs.Calls.ExplainLines.{ExplainLine, line, kind_line, octets_line, head_lines, field_lines, tail_lines, forest_lines, message_lines}
use Rattle.llrp_explain.specs.Calls.Printed.{Adds}
use Rattle.llrp_explain.specs.Private.Trees.{tree_lines}
use Rattle.llrp_explain.proofs.PrintedLemmas.{adds_none, adds_then, on_adds, moved}

-- ---- heads

pub message_added : {T E : Type 0} (r : Result T E) (v octets id : ℕ) (k : MsgKind) (x0 x1 x2 x3 x4 x5 : Lines)
    → Adds (line 0 (codes "reserved") 3 0 ∷ []) x0 x1 → Adds (line 0 (codes "Version") 3 v ∷ []) x1 x2 → Adds (kind_line 0 (codes "MessageType") 10 (Message k) ∷ []) x2 x3 → Adds (line 0 (codes "MessageLength") 32 octets ∷ []) x3 x4
    → OnOk r (Adds (line 0 (codes "MessageID") 32 id ∷ []) x4 x5) → OnOk r (Adds (head_lines 0 (message v k octets id)) x0 x5)
unfolding head_lines
message_added r v octets id k x0 x1 x2 x3 x4 x5 a b c d f =
    let l1 : ExplainLine = line 0 (codes "reserved") 3 0 in
    let l2 : ExplainLine = line 0 (codes "Version") 3 v in
    let l3 : ExplainLine = kind_line 0 (codes "MessageType") 10 (Message k) in
    let l4 : ExplainLine = line 0 (codes "MessageLength") 32 octets in
    let l5 : ExplainLine = line 0 (codes "MessageID") 32 id in
    on_adds r (l1 ∷ l2 ∷ l3 ∷ l4 ∷ []) (l5 ∷ []) x0 x4 x5 (adds_then (l1 ∷ l2 ∷ l3 ∷ []) (l4 ∷ []) x0 x3 x4 (adds_then (l1 ∷ l2 ∷ []) (l3 ∷ []) x0 x2 x3 (adds_then (l1 ∷ []) (l2 ∷ []) x0 x1 x2 a b) c) d) f

pub long_added : {T E : Type 0} (r : Result T E) (level octets : ℕ) (k : ParamKind) (x0 x1 x2 x3 : Lines)
    → Adds (line level (codes "reserved") 6 0 ∷ []) x0 x1 → Adds (kind_line level (codes "ParameterType") 10 (Parameter k) ∷ []) x1 x2
    → OnOk r (Adds (line level (codes "ParameterLength") 16 octets ∷ []) x2 x3) → OnOk r (Adds (head_lines level (tlv k octets)) x0 x3)
unfolding head_lines
long_added r level octets k x0 x1 x2 x3 a b f =
    let l1 : ExplainLine = line level (codes "reserved") 6 0 in
    let l2 : ExplainLine = kind_line level (codes "ParameterType") 10 (Parameter k) in
    let l3 : ExplainLine = line level (codes "ParameterLength") 16 octets in
    on_adds r (l1 ∷ l2 ∷ []) (l3 ∷ []) x0 x2 x3 (adds_then (l1 ∷ []) (l2 ∷ []) x0 x1 x2 a b) f

pub short_added : {T E : Type 0} (r : Result T E) (level : ℕ) (k : ParamKind) (x0 x1 x2 : Lines)
    → Adds (line level (codes "type and value") 1 1 ∷ []) x0 x1 → OnOk r (Adds (kind_line level (codes "ParameterType") 7 (Parameter k) ∷ []) x1 x2) → OnOk r (Adds (head_lines level (tv k)) x0 x2)
unfolding head_lines
short_added r level k x0 x1 x2 a f = on_adds r (line level (codes "type and value") 1 1 ∷ []) (kind_line level (codes "ParameterType") 7 (Parameter k) ∷ []) x0 x1 x2 a f

-- ---- fields

pub no_fields : (level : ℕ) (rules : List FieldRule) (values : List ℕ) (x : Lines) → rules ≡ [] → Adds (field_lines level rules (spread rules values)) x x
unfolding field_lines
no_fields level rules values x e = subst (λ (rs : List FieldRule). Adds (field_lines level rs (spread rs values)) x x) (sym e) (adds_none x)

reserved_first : (level : ℕ) (s : FieldRule) (rules : List FieldRule) (values : List ℕ) → s.reserved ≡ true → line level s.name s.width 0 ∷ field_lines level rules (spread rules values) ≡ field_lines level (s ∷ rules) (spread (s ∷ rules) values)
unfolding field_lines
reserved_first level s rules values e = rw e refl

plain_first : (level v : ℕ) (s : FieldRule) (rules : List FieldRule) (values later : List ℕ) → s.reserved ≡ false → v ≡ first values → later ≡ others values
    → line level s.name s.width v ∷ field_lines level rules (spread rules later) ≡ field_lines level (s ∷ rules) (spread (s ∷ rules) values)
unfolding field_lines
plain_first level v s rules values later e f g = rw (e, f, g) refl

pub reserved_added : {T E : Type 0} (r : Result T E) (level : ℕ) (s : FieldRule) (rules all : List FieldRule) (values name : List ℕ) (x y z : Lines) → all ≡ s ∷ rules → s.reserved ≡ true → name ≡ s.name → Adds (line level name s.width 0 ∷ []) x y
    → OnOk r (Adds (field_lines level rules (spread rules values)) y z) → OnOk r (Adds (field_lines level all (spread all values)) x z)
reserved_added r level s rules all values name x y z a e w f h =
    subst (λ (rs : List FieldRule). OnOk r (Adds (field_lines level rs (spread rs values)) x z)) (sym a)
    (moved r (line level s.name s.width 0 ∷ field_lines level rules (spread rules values)) _ x z (reserved_first level s rules values e)
    (on_adds r (line level s.name s.width 0 ∷ []) (field_lines level rules (spread rules values)) x y z (subst (λ (n : List ℕ). Adds (line level n s.width 0 ∷ []) x y) w f) h))

pub plain_added : {T E : Type 0} (r : Result T E) (level v : ℕ) (s : FieldRule) (rules all : List FieldRule) (values later name : List ℕ) (x y z : Lines) → all ≡ s ∷ rules → s.reserved ≡ false → v ≡ first values → later ≡ others values → name ≡ s.name
    → Adds (line level name s.width v ∷ []) x y → OnOk r (Adds (field_lines level rules (spread rules later)) y z) → OnOk r (Adds (field_lines level all (spread all values)) x z)
plain_added r level v s rules all values later name x y z a e f g w h k =
    subst (λ (rs : List FieldRule). OnOk r (Adds (field_lines level rs (spread rs values)) x z)) (sym a)
    (moved r (line level s.name s.width v ∷ field_lines level rules (spread rules later)) _ x z (plain_first level v s rules values later e f g)
    (on_adds r (line level s.name s.width v ∷ []) (field_lines level rules (spread rules later)) x y z (subst (λ (n : List ℕ). Adds (line level n s.width v ∷ []) x y) w h) k))

pub rules_first : (rules : List Field) (d : Field) → 1 ≤ length rules → map field_rule rules ≡ field_rule (get_or rules 0 d) ∷ map field_rule (take (length rules - 1) (drop 1 rules))
rules_first [] d some = absurd (omega arith)
rules_first (rule ∷ rules) d some = (let rest : take (length (rule ∷ rules) - 1) rules ≡ rules = take_all (length (rule ∷ rules) - 1) rules (omega arith) in rw rest refl)

-- ---- tails

pub octets_added : {T E : Type 0} (r : Result T E) (level : ℕ) (form : Tail) (tail : List ℕ) (x z : Lines) → (form ≡ Absent) ⊎ (form ≡ Data) → OnOk r (Adds (octets_line level (codes "octets") tail ∷ []) x z) → OnOk r (Adds (tail_lines level form tail) x z)
unfolding tail_lines
octets_added r level form tail x z (inl e) h = subst (λ (f : Tail). OnOk r (Adds (tail_lines level f tail) x z)) (sym e) h
octets_added r level form tail x z (inr e) h = subst (λ (f : Tail). OnOk r (Adds (tail_lines level f tail) x z)) (sym e) h

pub bits_added : {T E : Type 0} (r : Result T E) (level : ℕ) (form : Tail) (tail : List ℕ) (x z : Lines) → form ≡ Bits → OnOk r (Adds (octets_line level (codes "bits") tail ∷ []) x z) → OnOk r (Adds (tail_lines level form tail) x z)
unfolding tail_lines
bits_added r level form tail x z e h = subst (λ (f : Tail). OnOk r (Adds (tail_lines level f tail) x z)) (sym e) h

pub words_added : {T E : Type 0} (r : Result T E) (level : ℕ) (form : Tail) (tail : List ℕ) (x y z : Lines) → form ≡ Words → Adds (line level (codes "count") 16 (length tail / 2) ∷ []) x y → OnOk r (Adds (octets_line level (codes "words") tail ∷ []) y z)
    → OnOk r (Adds (tail_lines level form tail) x z)
unfolding tail_lines
words_added r level form tail x y z e f h =
    subst (λ (g : Tail). OnOk r (Adds (tail_lines level g tail) x z)) (sym e) (on_adds r (line level (codes "count") 16 (length tail / 2) ∷ []) (octets_line level (codes "words") tail ∷ []) x y z f h)

pub text_added : {T E : Type 0} (r : Result T E) (level : ℕ) (form : Tail) (tail : List ℕ) (x y z : Lines) → form ≡ Text → Adds (line level (codes "count") 16 (length tail) ∷ []) x y → OnOk r (Adds (octets_line level (codes "text") tail ∷ []) y z)
    → OnOk r (Adds (tail_lines level form tail) x z)
unfolding tail_lines
text_added r level form tail x y z e f h =
    subst (λ (g : Tail). OnOk r (Adds (tail_lines level g tail) x z)) (sym e) (on_adds r (line level (codes "count") 16 (length tail) ∷ []) (octets_line level (codes "text") tail ∷ []) x y z f h)

-- ---- nodes

regrouped : (h f t c : List ExplainLine) → ((h ++ f) ++ t) ++ c ≡ h ++ ((f ++ t) ++ c)
regrouped h f t c = simp append_assoc

pub node_added : {T E : Type 0} (r : Result T E) (t : Tree) (level n m : ℕ) (k : ParamKind) (rules : List FieldRule) (vs tail : List ℕ) (form : Tail) (cs : List Tree) (x0 x1 x2 x3 x4 : Lines)
    → k ≡ t.kind → n ≡ tree_octets t → rules ≡ fields_of (Parameter t.kind) → vs ≡ t.fields → form ≡ tail_of (Parameter t.kind) → tail ≡ t.tail → cs ≡ trees t.children → m ≡ suc level
    → Adds (head_lines level (head_of k n)) x0 x1 → Adds (field_lines level rules (spread rules vs)) x1 x2 → Adds (tail_lines level form tail) x2 x3 → OnOk r (Adds (forest_lines m (forest cs)) x3 x4) → OnOk r (Adds (tree_lines level t) x0 x4)
node_added r t level n m k rules vs tail form cs x0 x1 x2 x3 x4 ek en er ev ef et ec em a b c d =
    let h : List ExplainLine = head_lines level (head_of k n) in
    let f : List ExplainLine = field_lines level rules (spread rules vs) in
    let l : List ExplainLine = tail_lines level form tail in
    let is_h : h ≡ head_lines level (head_of t.kind (tree_octets t)) = ap (λ (j : ParamKind). head_lines level (head_of j n)) ek ∙ ap (λ (i : ℕ). head_lines level (head_of t.kind i)) en in
    let is_f : f ≡ field_lines level (fields_of (Parameter t.kind)) (spread (fields_of (Parameter t.kind)) t.fields) =
    ap (λ (rs : List FieldRule). field_lines level rs (spread rs vs)) er ∙ ap (λ (ws : List ℕ). field_lines level (fields_of (Parameter t.kind)) (spread (fields_of (Parameter t.kind)) ws)) ev in
    let is_l : l ≡ tail_lines level (tail_of (Parameter t.kind)) t.tail = ap (λ (g : Tail). tail_lines level g tail) ef ∙ ap (λ (os : List ℕ). tail_lines level (tail_of (Parameter t.kind)) os) et in
    let is_c : forest_lines m (forest cs) ≡ forest_lines (suc level) t.children = ap (λ (i : ℕ). forest_lines i (forest cs)) em ∙ ap (λ (g : Forest). forest_lines (suc level) g) (ap forest ec ∙ forest-trees t.children) in
    moved r (((h ++ f) ++ l) ++ forest_lines m (forest cs)) _ x0 x4
    (regrouped h f l (forest_lines m (forest cs)) ∙ ap (λ (u : List ExplainLine). u ++ ((f ++ l) ++ forest_lines m (forest cs))) is_h
    ∙ ap (λ (u : List ExplainLine). head_lines level (head_of t.kind (tree_octets t)) ++ ((u ++ l) ++ forest_lines m (forest cs))) is_f
    ∙ ap (λ (u : List ExplainLine). head_lines level (head_of t.kind (tree_octets t)) ++ ((field_lines level (fields_of (Parameter t.kind)) (spread (fields_of (Parameter t.kind)) t.fields) ++ u) ++ forest_lines m (forest cs))) is_l
    ∙ ap (λ (u : List ExplainLine). head_lines level (head_of t.kind (tree_octets t)) ++ ((field_lines level (fields_of (Parameter t.kind)) (spread (fields_of (Parameter t.kind)) t.fields) ++ tail_lines level (tail_of (Parameter t.kind)) t.tail) ++ u)) is_c)
    (on_adds r ((h ++ f) ++ l) (forest_lines m (forest cs)) x0 x3 x4 (adds_then (h ++ f) l x0 x2 x3 (adds_then h f x0 x1 x2 a b) c) d)

pub whole_added : {T E : Type 0} (r : Result T E) (w : MessageTree) (v n id : ℕ) (k : MsgKind) (rules : List FieldRule) (vs tail : List ℕ) (form : Tail) (cs : List Tree) (x0 x1 x2 x3 x4 : Lines)
    → v ≡ w.version → k ≡ w.kind → n ≡ message_octets w → id ≡ w.id → rules ≡ fields_of (Message w.kind) → vs ≡ w.fields → form ≡ tail_of (Message w.kind) → tail ≡ w.tail → cs ≡ trees w.children
    → Adds (head_lines 0 (message v k n id)) x0 x1 → Adds (field_lines 0 rules (spread rules vs)) x1 x2 → Adds (tail_lines 0 form tail) x2 x3 → OnOk r (Adds (forest_lines 1 (forest cs)) x3 x4) → OnOk r (Adds (message_lines w) x0 x4)
unfolding message_lines
whole_added r w v n id k rules vs tail form cs x0 x1 x2 x3 x4 ev ek en ei er es ef et ec a b c d =
    let h : List ExplainLine = head_lines 0 (message v k n id) in
    let f : List ExplainLine = field_lines 0 rules (spread rules vs) in
    let l : List ExplainLine = tail_lines 0 form tail in
    let h2 : List ExplainLine = head_lines 0 (message w.version w.kind (message_octets w) w.id) in
    let f2 : List ExplainLine = field_lines 0 (fields_of (Message w.kind)) (spread (fields_of (Message w.kind)) w.fields) in
    let l2 : List ExplainLine = tail_lines 0 (tail_of (Message w.kind)) w.tail in
    let is_h : h ≡ h2 = ap (λ (i : ℕ). head_lines 0 (message i k n id)) ev ∙ ap (λ (j : MsgKind). head_lines 0 (message w.version j n id)) ek ∙ ap (λ (i : ℕ). head_lines 0 (message w.version w.kind i id)) en ∙ ap (λ (i : ℕ). head_lines 0 (message w.version w.kind (message_octets w) i)) ei in
    let is_f : f ≡ f2 = ap (λ (rs : List FieldRule). field_lines 0 rs (spread rs vs)) er ∙ ap (λ (ws : List ℕ). field_lines 0 (fields_of (Message w.kind)) (spread (fields_of (Message w.kind)) ws)) es in
    let is_l : l ≡ l2 = ap (λ (g : Tail). tail_lines 0 g tail) ef ∙ ap (λ (os : List ℕ). tail_lines 0 (tail_of (Message w.kind)) os) et in
    let is_c : forest_lines 1 (forest cs) ≡ forest_lines 1 w.children = ap (λ (g : Forest). forest_lines 1 g) (ap forest ec ∙ forest-trees w.children) in
    moved r (((h ++ f) ++ l) ++ forest_lines 1 (forest cs)) _ x0 x4
    (regrouped h f l (forest_lines 1 (forest cs)) ∙ ap (λ (u : List ExplainLine). u ++ ((f ++ l) ++ forest_lines 1 (forest cs))) is_h
    ∙ ap (λ (u : List ExplainLine). h2 ++ ((u ++ l) ++ forest_lines 1 (forest cs))) is_f
    ∙ ap (λ (u : List ExplainLine). h2 ++ ((f2 ++ u) ++ forest_lines 1 (forest cs))) is_l
    ∙ ap (λ (u : List ExplainLine). h2 ++ ((f2 ++ l2) ++ u)) is_c)
    (on_adds r ((h ++ f) ++ l) (forest_lines 1 (forest cs)) x0 x3 x4 (adds_then (h ++ f) l x0 x2 x3 (adds_then h f x0 x1 x2 a b) c) d)

-- ---- parameters in a row

pub no_trees : (level : ℕ) (ts : List Tree) (x : Lines) → ts ≡ [] → Adds (forest_lines level (forest ts)) x x
unfolding forest_lines
no_trees level ts x e = subst (λ (us : List Tree). Adds (forest_lines level (forest us)) x x) (sym e) (adds_none x)

one_more : (level : ℕ) (f : Forest) (t : Tree) → forest_lines level (add f t) ≡ forest_lines level f ++ tree_lines level t
unfolding forest_lines
one_more level f t = refl

pub trees_more : (level i : ℕ) (ts : List Tree) (t : Tree) (x y z : Lines) → i < length ts → t ≡ get_or ts i t → Adds (forest_lines level (forest (take i ts))) x y → Adds (tree_lines level t) y z → Adds (forest_lines level (forest (take (i + 1) ts))) x z
trees_more level i ts t x y z lt is f g =
    subst (λ (ls : List ExplainLine). Adds ls x z) (sym (ap (λ (u : Forest). forest_lines level u) (forest-take_more ts i t lt is) ∙ one_more level (forest (take i ts)) t))
    (adds_then (forest_lines level (forest (take i ts))) (tree_lines level t) x y z f g)

pub member_levels : (ts : List Tree) (i : ℕ) (d t : Tree) → i < length ts → t ≡ get_or ts i d → levels t.children + 1 ≤ levels (forest ts)
member_levels [] i d t lt is = absurd (omega arith)
member_levels (s ∷ ts) zero d t lt is = (let same : t ≡ s = is in let e : levels t.children ≡ levels s.children = ap (λ (u : Tree). levels u.children) same in let l = levels_of_first s ts in omega arith)
member_levels (s ∷ ts) (suc i) d t lt is = (let m = member_levels ts i d t (omega arith) is in let l = levels_of_others s ts in omega arith)

pub children_levels : (cs : List Tree) (f : Forest) → cs ≡ trees f → levels (forest cs) ≡ levels f
children_levels cs f e = ap levels (ap forest e ∙ forest-trees f)
