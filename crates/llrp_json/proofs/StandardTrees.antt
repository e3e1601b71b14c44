-- An open tree under the standard's names takes each part as the open tree does.
use Rattle.std.proofs.Common.{◌≡◌, ℕ, ◌<◌, ◌^◌, List, [], ◌∷◌, ◌++◌, length, drop, Option, true, refl, sym, ap, subst, ◌∙◌, arith}
use Rattle.std.specs.Prelude.{◌-◌, get_or, map, take, unwrap_or}
use Rattle.std.proofs.lemmas.List.{take_all}
use Rattle.llrp_schema.specs.declared.kinds.ParamKind.{ParamKind}
use Rattle.llrp_schema.specs.declared.kinds.Kind.{Kind}
use Rattle.llrp_schema.specs.declared.kinds.Kind.TheVariants.{Parameter}
use Rattle.llrp_schema.specs.declared.kinds.Tail.{Tail}
use Rattle.llrp_schema.specs.Schema.{FieldRule, bits_of, fields_of, is_tv, tail_of}
use Rattle.llrp_schema.specs.declared.kinds.Field.{Field}
use Rattle.llrp_schema.specs.Calls.ProfilePart.{field_shape}
use Rattle.llrp_schema.specs.Calls.Schema.{field_rule}
use Rattle.llrp_tree.specs.Tree.{Forest, and, MessageTree}
use Rattle.llrp_tree.specs.Spelling.{Head, message, tlv, tv}
use Rattle.llrp_tree.specs.OpenTree.{Begun, due, form, kind_of_head, plain_values, rules, tail_due, Rest}
use Rattle.llrp_tree.specs.Calls.Standing.{begin_node}
use Rattle.llrp_stream.specs.Calls.Received.{with_child, with_closed, with_field, with_octets, with_value, IsBeforeTail, IsInTail, IsMessageOf, IsNextField}
use Rattle.llrp_listing.proofs.OpenListingLemmas.{all_due}
use Rattle.llrp_json.specs.JsonNames.{in_standard, standard_forest, standard_message, standard_parameter}
use Rattle.llrp_json.specs.Private.OpenJson.{CanBeClosed, IsFull}
use Rattle.llrp_json.specs.Private.StandardNames.{AreAwaited, standard_chain, standard_head, standard_node}
use Rattle.llrp_json.proofs.StandardShapes.{parameter_form, same_bits, same_count, same_dropped, same_fields, same_length, same_next, same_plain, same_signed, same_tail, same_width, standard_kind}

-- ---- the kind of a node

pub kind_of_standard : (h : Head) → kind_of_head (standard_head h) ≡ standard_kind (kind_of_head h)
kind_of_standard (message v k n id) = refl
kind_of_standard (tlv k n) = refl
kind_of_standard (tv k) = refl

node_fields : (h : Head) → map field_shape (fields_of (kind_of_head (standard_head h))) ≡ map field_shape (fields_of (kind_of_head h))
node_fields h = ap (λ (k : Kind). map field_shape (fields_of k)) (kind_of_standard h) ∙ same_fields (kind_of_head h)

node_tail : (h : Head) → tail_of (kind_of_head (standard_head h)) ≡ tail_of (kind_of_head h)
node_tail h = ap tail_of (kind_of_standard h) ∙ same_tail (kind_of_head h)

node_values : (h : Head) (vs : List ℕ) → plain_values (fields_of (kind_of_head (standard_head h))) vs ≡ plain_values (fields_of (kind_of_head h)) vs
node_values h vs = same_plain (fields_of (kind_of_head (standard_head h))) (fields_of (kind_of_head h)) vs (node_fields h)

pub length_chain : (t : List Begun) → length (standard_chain t) ≡ length t
length_chain [] = refl
length_chain (b ∷ outer) = let rest = length_chain outer in omega arith

-- ---- a part more

pub field_chain : (v : ℕ) (t : List Begun) → standard_chain (with_field v t) ≡ with_field v (standard_chain t)
field_chain v [] = refl
field_chain v (b ∷ outer) = refl

pub octets_chain : (octets : List ℕ) (t : List Begun) → standard_chain (with_octets octets t) ≡ with_octets octets (standard_chain t)
octets_chain octets [] = refl
octets_chain octets (b ∷ outer) = refl

pub value_chain : (k : ParamKind) (v : ℕ) (t : List Begun) → standard_chain (with_value k v t) ≡ with_value (standard_parameter k) v (standard_chain t)
value_chain k v [] = refl
value_chain k v (b ∷ outer) = refl

child_chain : (before : Forest) (h : Head) (vs : List ℕ) (tail : Option (List ℕ)) (cs : Forest) → standard_forest (with_child before h vs tail cs) ≡ with_child (standard_forest before) (standard_head h) vs tail (standard_forest cs)
child_chain before (message v k n id) vs tail cs = refl
child_chain before (tlv k n) vs tail cs = ap (λ (x : List ℕ). and (standard_forest before) (standard_parameter k) x (unwrap_or tail []) (standard_forest cs)) (sym (node_values (tlv k n) vs))
child_chain before (tv k) vs tail cs = ap (λ (x : List ℕ). and (standard_forest before) (standard_parameter k) x (unwrap_or tail []) (standard_forest cs)) (sym (node_values (tv k) vs))

pub closed_chain : (t : List Begun) → standard_chain (with_closed t) ≡ with_closed (standard_chain t)
closed_chain [] = refl
closed_chain (b ∷ []) = refl
closed_chain (b ∷ p ∷ outer) =
    ap (λ (c : Forest). begin_node (standard_head p.head) p.stop p.fields p.tail c ∷ standard_chain outer) (child_chain p.children b.head b.fields b.tail b.children)

-- ---- the next field

-- what the innermost node awaits begins with a row of the next field
module _ (t : List Begun) (r : FieldRule) (rows : List FieldRule) (nx : IsNextField t r) (awaited : AreAwaited t rows) where
  due_rows : rows ≡ drop (length nx.node.fields) (fields_of (kind_of_head (standard_head nx.node.head)))
  due_rows = subst (λ (x : List Begun). AreAwaited x rows) nx.tree_is awaited

  pub next_row : (row : FieldRule) × (more : List FieldRule) × (rows ≡ row ∷ more) × (field_shape row ≡ field_shape r)
  next_row =
      let h = nx.node.head in
      let k : ℕ = length nx.node.fields in
      let dropped = same_dropped k (fields_of (kind_of_head (standard_head h))) (fields_of (kind_of_head h)) (node_fields h) in
      let next = same_next (drop k (fields_of (kind_of_head (standard_head h)))) (drop k (fields_of (kind_of_head h))) nx.others r dropped nx.next in
      (next.0, next.1, due_rows ∙ next.2, next.3)

  pub next_field : (row : FieldRule) (more : List FieldRule) → rows ≡ row ∷ more → IsNextField (standard_chain t) row
  next_field row more e = record {
    node = standard_node nx.node;
    outer = standard_chain nx.outer;
    others = more;
    tree_is = ap standard_chain nx.tree_is;
    next = sym due_rows ∙ e;
    untailed = nx.untailed;
  }

dropped_more : (k : ℕ) (v : ℕ) (vs : List ℕ) (rs more : List FieldRule) (row : FieldRule) → drop (length vs) rs ≡ row ∷ more → drop (length (vs ++ v ∷ [])) rs ≡ more
dropped_more k v [] [] more row e = absurd cc
dropped_more k v [] (r ∷ rs) more row e = cc
dropped_more k v (w ∷ vs) [] more row e = absurd cc
dropped_more k v (w ∷ vs) (r ∷ rs) more row e = dropped_more k v vs rs more row e

-- and after it the others are awaited
pub rows_after : (v : ℕ) (t : List Begun) (row : FieldRule) (more : List FieldRule) → AreAwaited t (row ∷ more) → AreAwaited (with_field v t) more
rows_after v [] row more a = a
rows_after v (b ∷ outer) row more a = sym (dropped_more 0 v b.fields (fields_of (kind_of_head (standard_head b.head))) more row (sym a))

-- rows of the program's fields begin with that of the first
first_row : (fs : List Field) (d : Field) (row : FieldRule) (more : List FieldRule) → map field_rule fs ≡ row ∷ more → (0 < length fs) × (field_rule (get_or fs 0 d) ≡ row) × (map field_rule (drop 1 fs) ≡ more)
first_row [] d row more e = absurd cc
first_row (f ∷ fs) d row more e = let z : field_rule f ∷ map field_rule fs ≡ row ∷ more = e in (omega arith, cc, cc)

-- the fields after the first are the others
pub all_others : (fs : List Field) → take (length fs - 1) (drop 1 fs) ≡ drop 1 fs
all_others [] = refl
all_others (f ∷ fs) = take_all (length (f ∷ fs) - 1) fs (omega arith)

-- where these fields are awaited, the first stands for the next field, and after it the others are awaited
module _ (t : List Begun) (r : FieldRule) (fs : List Field) (d : Field) (nx : IsNextField t r) (awaited : AreAwaited t (map field_rule fs)) where
  next : (row : FieldRule) × (more : List FieldRule) × (map field_rule fs ≡ row ∷ more) × (field_shape row ≡ field_shape r)
  next = next_row t r (map field_rule fs) nx awaited

  first : (0 < length fs) × (field_rule (get_or fs 0 d) ≡ next.0) × (map field_rule (drop 1 fs) ≡ next.1)
  first = first_row fs d next.0 next.1 next.2

  pub awaited_some : 0 < length fs
  awaited_some = first.0

  pub awaited_width : (get_or fs 0 d).width ≡ r.width
  awaited_width = ap (λ (x : FieldRule). x.width) first.1 ∙ same_width next.0 r next.3

  pub awaited_signed : (get_or fs 0 d).signed ≡ r.signed
  awaited_signed = ap (λ (x : FieldRule). x.signed) first.1 ∙ same_signed next.0 r next.3

  pub awaited_next : IsNextField (standard_chain t) (field_rule (get_or fs 0 d))
  awaited_next = subst (IsNextField (standard_chain t)) (sym first.1) (next_field t r (map field_rule fs) nx awaited next.0 next.1 next.2)

  pub awaited_after : (v : ℕ) → AreAwaited (with_field v t) (map field_rule (drop 1 fs))
  awaited_after v = subst (AreAwaited (with_field v t)) (sym first.2) (rows_after v t next.0 next.1 (subst (AreAwaited t) next.2 awaited))

-- a tail awaits the same rows
pub rows_in_tail : (octets : List ℕ) (t : List Begun) (rows : List FieldRule) → AreAwaited t rows → AreAwaited (with_octets octets t) rows
rows_in_tail octets [] rows a = a
rows_in_tail octets (b ∷ outer) rows a = a

-- ---- a tail

pub tail_next : (t : List Begun) (f : Tail) → IsBeforeTail t f → IsBeforeTail (standard_chain t) f
tail_next t f nx = record {
  node = standard_node nx.node;
  outer = standard_chain nx.outer;
  tree_is = ap standard_chain nx.tree_is;
  form_is = node_tail nx.node.head ∙ nx.form_is;
  all_fields = nx.all_fields ∙ sym (same_length (fields_of (kind_of_head (standard_head nx.node.head))) (fields_of (kind_of_head nx.node.head)) (node_fields nx.node.head));
  untailed = nx.untailed;
}

pub tail_goes_on : (t : List Begun) (f : Tail) → IsInTail t f → IsInTail (standard_chain t) f
tail_goes_on t f nx = record {
  node = standard_node nx.node;
  outer = standard_chain nx.outer;
  tree_is = ap standard_chain nx.tree_is;
  form_is = node_tail nx.node.head ∙ nx.form_is;
  so_far = nx.so_far;
  tail_is = nx.tail_is;
}

-- ---- a node that is ready

none_due : (rs : List FieldRule) → map field_shape rs ≡ [] → rs ≡ []
none_due [] e = refl
none_due (r ∷ rs) e = absurd cc

due_rest : (b : Begun) → drop (length b.fields) (rules b) ≡ [] → tail_due (form b) b.tail ≡ Rest → due b ≡ Rest
unfolding due
due_rest b e f = rw (e, f) refl

pub full_node : (b : Begun) → IsFull b → IsFull (standard_node b)
full_node b f =
    let k : ℕ = length b.fields in
    let theirs : List FieldRule = fields_of (kind_of_head (standard_head b.head)) in
    let ours : List FieldRule = fields_of (kind_of_head b.head) in
    let all = all_due b f.ready in
    let none : drop k theirs ≡ [] = none_due (drop k theirs) (same_dropped k theirs ours (node_fields b.head) ∙ ap (λ (x : List FieldRule). map field_shape x) all.0) in
    record {
      ready = due_rest (standard_node b) none (ap (λ (x : Tail). tail_due x b.tail) (node_tail b.head) ∙ all.1);
      fields = ap (λ (x : List ℕ). length x) (node_values b.head b.fields) ∙ f.fields ∙ sym (same_count theirs ours (node_fields b.head));
    }

pub closed_node : (t : List Begun) → CanBeClosed t → CanBeClosed (standard_chain t)
closed_node [] c = c
closed_node (b ∷ outer) c = (full_node b c.0, (standard_parameter c.1.0, kind_of_standard b.head ∙ ap standard_kind c.1.1))

-- ---- a message

pub whole_message : (h : Head) (vs : List ℕ) (tail : Option (List ℕ)) (cs : Forest) (m : MessageTree) → IsMessageOf h vs tail cs m → IsMessageOf (standard_head h) vs tail (standard_forest cs) (in_standard m)
whole_message (message v k n id) vs tail cs m e =
    ap in_standard e ∙ ap (λ (x : List ℕ). record { version = v; id = id; kind = standard_message k; fields = x; tail = unwrap_or tail []; children = standard_forest cs }) (sym (node_values (message v k n id) vs))
whole_message (tlv k n) vs tail cs m e = absurd e
whole_message (tv k) vs tail cs m e = absurd e

-- ---- a whole value

pub standard_tv : (k : ParamKind) → is_tv k ≡ true → is_tv (standard_parameter k) ≡ true
standard_tv k e = parameter_form k ∙ e

pub value_fits : (k : ParamKind) (v : ℕ) → v < 2 ^ bits_of (fields_of (Parameter k)) → v < 2 ^ bits_of (fields_of (Parameter (standard_parameter k)))
value_fits k v lt = subst (λ (n : ℕ). v < 2 ^ n) (sym (same_bits (fields_of (Parameter (standard_parameter k))) (fields_of (Parameter k)) (same_fields (Parameter k)))) lt
