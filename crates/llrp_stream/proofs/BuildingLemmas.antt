-- How the open nodes of a builder grow with the open tree that it receives.
use Rattle.std.proofs.Common.{◌≡◌, ℕ, ◌<◌, true, false, not, cond, List, [], ◌∷◌, ◌++◌, length, drop, map, Option, Some, None, refl, sym, ap, subst, ◌∙◌, arith}
use Rattle.std.specs.Prelude.{if◌then◌else◌, Result, Ok, Err, OnOk, unwrap_or, min}
use Rattle.std.proofs.lemmas.List.{length-reverse, nil_from_length}
use Rattle.llrp_schema.specs.declared.kinds.ParamKind.{ParamKind}
use Rattle.llrp_schema.specs.declared.kinds.Kind.{Kind}
use Rattle.llrp_schema.specs.declared.kinds.Kind.TheVariants.{Parameter}
use Rattle.llrp_schema.specs.Schema.{FieldRule, fields_of}
use Rattle.llrp_schema.proofs.TableLaws.{few_plain_fields}
use Rattle.llrp_tree.specs.Tree.{Forest, and, MessageTree}
use Rattle.llrp_tree.specs.Private.Weight.{open_weight}
use Rattle.llrp_tree.specs.Spelling.{Head, message, tlv, tv}
use Rattle.llrp_tree.specs.OpenTree.{Begun, kind_of_head, rules, plain_values}
use Rattle.llrp_tree.specs.Calls.Standing.{begin_node}
use Rattle.llrp_tree.proofs.Leading.{plain}
use Rattle.llrp_stream.specs.Calls.Received.{with_field, with_closed, IsNextField, CanClose}
use Rattle.llrp_stream.specs.Calls.Received.{with_child as with_parameter}
use Rattle.llrp_stream.specs.Building.{OpenParts, Building, nodes_weight}
use Rattle.llrp_stream.specs.Private.Building.{parts_of, IsOf, HasHeader, HasOpen}
use Rattle.llrp_stream.specs.Private.OpenNodes.{with_value, with_child, nested, AreNested, HasRoom, IsWholeParameter}

-- ---- weight

parts_weigh : (t : List Begun) → nodes_weight (map parts_of t) ≡ open_weight t
parts_weigh [] = refl
parts_weigh (b ∷ outer) = let rest = parts_weigh outer in omega arith

-- the open nodes weigh as the open tree does
pub weigh_alike : (b : Building) (t : List Begun) → HasOpen b t → nodes_weight b.nodes ≡ open_weight t
weigh_alike b t h = ap nodes_weight h.nodes ∙ parts_weigh t

-- ---- a field

pub none_dropped : (vs : List ℕ) (r : FieldRule) (others : List FieldRule) → drop (length vs) [] ≡ r ∷ others → ⊥
none_dropped [] r others e = cc
none_dropped (v ∷ vs) r others e = cc

pub same_plain : (rs : List FieldRule) (vs : List ℕ) (v : ℕ) (r : FieldRule) (others : List FieldRule) → drop (length vs) rs ≡ r ∷ others → r.reserved ≡ true → plain_values rs (vs ++ v ∷ []) ≡ plain_values rs vs
same_plain [] vs v r others e f = absurd (none_dropped vs r others e)
same_plain (s ∷ rs) [] v r others e f = (let same : s ≡ r = cc in let g : s.reserved ≡ true = ap (λ (x : FieldRule). x.reserved) same ∙ f in rw g refl)
same_plain (s ∷ rs) (u ∷ vs) v r others e f =
    let rest = same_plain rs vs v r others e f in
    elim s.reserved as (λ b. (if b then plain_values rs (vs ++ v ∷ []) else u ∷ plain_values rs (vs ++ v ∷ [])) ≡ (if b then plain_values rs vs else u ∷ plain_values rs vs)) [ true ↦ rest | false ↦ ap (λ (x : List ℕ). u ∷ x) rest ]

pub more_plain : (rs : List FieldRule) (vs : List ℕ) (v : ℕ) (r : FieldRule) (others : List FieldRule) → drop (length vs) rs ≡ r ∷ others → r.reserved ≡ false → plain_values rs (vs ++ v ∷ []) ≡ plain_values rs vs ++ v ∷ []
more_plain [] vs v r others e f = absurd (none_dropped vs r others e)
more_plain (s ∷ rs) [] v r others e f = (let same : s ≡ r = cc in let g : s.reserved ≡ false = ap (λ (x : FieldRule). x.reserved) same ∙ f in rw g refl)
more_plain (s ∷ rs) (u ∷ vs) v r others e f =
    let rest = more_plain rs vs v r others e f in
    elim s.reserved as (λ b. (if b then plain_values rs (vs ++ v ∷ []) else u ∷ plain_values rs (vs ++ v ∷ [])) ≡ (if b then plain_values rs vs else u ∷ plain_values rs vs) ++ v ∷ []) [ true ↦ rest | false ↦ ap (λ (x : List ℕ). u ∷ x) rest ]

-- where a plain field comes next, not all plain values are there
fewer_plain : (rs : List FieldRule) (vs : List ℕ) (r : FieldRule) (others : List FieldRule) → drop (length vs) rs ≡ r ∷ others → r.reserved ≡ false → length (plain_values rs vs) < length (plain rs)
fewer_plain [] vs r others e f = absurd (none_dropped vs r others e)
fewer_plain (s ∷ rs) [] r others e f =
    let same : s ≡ r = cc in
    let g : s.reserved ≡ false = ap (λ (x : FieldRule). x.reserved) same ∙ f in
    (elim s.reserved as (λ b. b ≡ false → 0 < length (cond (not b) (s ∷ plain rs) (plain rs))) [ true ↦ λ f2. absurd cc | false ↦ λ f2. omega arith ]) g
fewer_plain (s ∷ rs) (u ∷ vs) r others e f =
    let rest = fewer_plain rs vs r others e f in
    elim s.reserved as (λ b. length (if b then plain_values rs vs else u ∷ plain_values rs vs) < length (cond (not b) (s ∷ plain rs) (plain rs))) [ true ↦ rest | false ↦ omega (arith, rest) ]

-- a node inside others with the same head
same_header : (version id : ℕ) (b c : Begun) (outer : List Begun) → b.head ≡ c.head → HasHeader version id (b ∷ outer) → HasHeader version id (c ∷ outer)
same_header version id b c [] e h = subst (λ (x : Head). IsOf version id x) e h
same_header version id b c (p ∷ outer) e h = h

pub has_room : (b : Building) (t : List Begun) (rule : FieldRule) → HasOpen b t → IsNextField t rule → rule.reserved ≡ false → HasRoom b.nodes
has_room b t rule h x plain_one =
    let n = x.node in
    record {
      node = parts_of n;
      outer = map parts_of x.outer;
      are = h.nodes ∙ ap (λ (u : List Begun). map parts_of u) x.tree_is;
      few = omega (arith, fewer_plain (rules n) n.fields rule x.others x.next plain_one, few_plain_fields (kind_of_head n.head));
    }

grown : (version id value : ℕ) (whole : Option MessageTree) (nodes : List OpenParts) (n : Begun) (outer : List Begun) (plains : List ℕ) → plains ≡ plain_values (rules n) (n.fields ++ value ∷ []) → HasHeader version id (n ∷ outer)
    → nodes ≡ record (parts_of n) { fields = plains } ∷ map parts_of outer → HasOpen (record { version = version; id = id; nodes = nodes; done = whole }) (with_field value (n ∷ outer))
grown version id value whole nodes n outer plains e header are = record {
  nodes = are ∙ ap (λ (x : List ℕ). record (parts_of n) { fields = x } ∷ map parts_of outer) e;
  header = same_header version id n (begin_node n.head n.stop (n.fields ++ value ∷ []) n.tail n.children) outer refl header;
}

pub plain_field : (b : Building) (t : List Begun) (rule : FieldRule) (value : ℕ) (new : List OpenParts) → HasOpen b t → IsNextField t rule → rule.reserved ≡ false → new ≡ with_value value b.nodes → HasOpen (record b { nodes = new }) (with_field value t)
plain_field b t rule value new h x p e =
    let n = x.node in
    let u : List Begun = n ∷ x.outer in
    let g : HasOpen b u = subst (λ (y : List Begun). HasOpen b y) x.tree_is h in
    let more = more_plain (rules n) n.fields value rule x.others x.next p in
    subst (λ (y : List Begun). HasOpen (record b { nodes = new }) (with_field value y)) (sym x.tree_is)
    (grown b.version b.id value b.done new n x.outer (plain_values (rules n) n.fields ++ value ∷ []) (sym more) g.header (e ∙ ap (with_value value) g.nodes))

pub reserved_field : (b : Building) (t : List Begun) (rule : FieldRule) (value : ℕ) → HasOpen b t → IsNextField t rule → rule.reserved ≡ true → HasOpen b (with_field value t)
reserved_field b t rule value h x p =
    let n = x.node in
    let u : List Begun = n ∷ x.outer in
    let g : HasOpen b u = subst (λ (y : List Begun). HasOpen b y) x.tree_is h in
    let same = same_plain (rules n) n.fields value rule x.others x.next p in
    subst (λ (y : List Begun). HasOpen b (with_field value y)) (sym x.tree_is)
    (grown b.version b.id value b.done b.nodes n x.outer (plain_values (rules n) n.fields) (sym same) g.header g.nodes)

-- ---- a node is closed

pub can_close : (b : Building) → CanClose (HasOpen b) → IsWholeParameter b.nodes
can_close b c = record {
  node = parts_of c.node;
  parent = parts_of c.parent;
  outer = map parts_of c.outer;
  kind = c.kind;
  are = c.told.nodes;
  kind_is = c.kind_is;
  lawful = subst (λ (k : Kind). Rattle.llrp_tree.specs.Lawful.AreLawful c.kind (plain_values (fields_of k) c.node.fields) (unwrap_or c.node.tail []) c.node.children) (sym c.kind_is) c.lawful.0;
}

child_is : (p : Begun) (h : Head) (fields : List ℕ) (tail : Option (List ℕ)) (children : Forest) (kind : ParamKind) → kind_of_head h ≡ Parameter kind
    → with_child (parts_of p) kind (record { kind = kind_of_head h; fields = plain_values (fields_of (kind_of_head h)) fields; tail = unwrap_or tail []; children = children })
    ≡ parts_of (begin_node p.head p.stop p.fields p.tail (with_parameter p.children h fields tail children))
child_is p (message v k n i) fields tail children kind e = absurd cc
child_is p (tlv k n) fields tail children kind e =
    let same : kind ≡ k = cc in
    ap (λ (x : ParamKind). record (parts_of p) { children = and p.children x (plain_values (fields_of (Parameter k)) fields) (unwrap_or tail []) children }) same
child_is p (tv k) fields tail children kind e =
    let same : kind ≡ k = cc in
    ap (λ (x : ParamKind). record (parts_of p) { children = and p.children x (plain_values (fields_of (Parameter k)) fields) (unwrap_or tail []) children }) same

-- what a closing says of the nodes
abbrev pub Closed : List OpenParts → List OpenParts → Type 0
Closed old new = (node parent : OpenParts) (outer : List OpenParts) (kind : ParamKind) → old ≡ node ∷ parent ∷ outer → node.kind ≡ Parameter kind → new ≡ with_child parent kind node ∷ outer

kind_at : Kind → List OpenParts → Kind
kind_at other [] = other
kind_at other (n ∷ outer) = n.kind

closed_built : (b : Building) (new : List OpenParts) (t : List Begun) → IsWholeParameter b.nodes → Closed b.nodes new → HasOpen b t → HasOpen (record b { nodes = new }) (with_closed t)
unfolding kind_at
closed_built b new [] w c h = (let e = sym h.nodes ∙ w.are in absurd cc)
closed_built b new (x ∷ []) w c h = (let e = sym h.nodes ∙ w.are in absurd cc)
closed_built b new (x ∷ y ∷ outer) w c h =
    let kind_is : kind_of_head x.head ≡ Parameter w.kind = ap (λ (l : List OpenParts). kind_at (Parameter w.kind) l) (sym h.nodes ∙ w.are) ∙ w.kind_is in
    let are = c (parts_of x) (parts_of y) (map parts_of outer) w.kind h.nodes kind_is in
    record {
      nodes = are ∙ ap (λ (p : OpenParts). p ∷ map parts_of outer) (child_is y x.head x.fields x.tail x.children w.kind kind_is);
      header = same_header b.version b.id y (begin_node y.head y.stop y.fields y.tail (with_parameter y.children x.head x.fields x.tail x.children)) outer refl h.header;
    }

pub closed_on_ok : {T E : Type 0} (r : Result T E) (b : Building) (new : List OpenParts) (Ready : List Begun → Type 0) → IsWholeParameter b.nodes
    → ((node parent : OpenParts) (outer : List OpenParts) (kind : ParamKind) → b.nodes ≡ node ∷ parent ∷ outer → node.kind ≡ Parameter kind → OnOk r (new ≡ with_child parent kind node ∷ outer))
    → OnOk r (List ℕ → (t : List Begun) → HasOpen b t → Ready t → HasOpen (record b { nodes = new }) (with_closed t))
closed_on_ok (Ok x) b new Ready w c = λ was t h ready. closed_built b new t w c h
closed_on_ok (Err e) b new Ready w c = tt

-- ---- no node is left

-- one node has none around it
pub none_around : (top : Option OpenParts) (outer : List OpenParts) (n m : OpenParts) → top ≡ Some n → nested top outer ≡ m ∷ [] → outer ≡ []
none_around None outer n m e f = absurd cc
none_around (Some x) outer n m e f =
    let one = ap (λ (l : List OpenParts). length l) f in
    nil_from_length outer (omega (arith, one, length-reverse outer))

pub none_left : (top : Option OpenParts) (outer : List OpenParts) → top ≡ None → outer ≡ [] → AreNested top outer × (0 ≡ min (nodes_weight (nested top outer)) 4294967295)
none_left None [] e f = (refl, omega arith)
none_left None (x ∷ outer) e f = absurd cc
none_left (Some x) outer e f = absurd cc
