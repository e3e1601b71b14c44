-- Where text is no UTF-8, the tail of the innermost node is not read.
use Rattle.std.proofs.Common.{◌≡◌, ◌≢◌, inl, inr, ℕ, ◌+◌, ◌*◌, List, [], ◌∷◌, ◌++◌, length, Bool, true, false, Option, Some, None, refl, sym, ap, ◌∙◌}
use Rattle.std.specs.Prelude.{nat_le, if◌then◌else◌, ◌==◌, ◌&&◌}
use Rattle.std.proofs.lemmas.List.{append-nil}
use Rattle.llrp_schema.specs.Schema.{FieldRule}
use Rattle.llrp_schema.specs.declared.kinds.Tail.{Tail}
use Rattle.llrp_tree.specs.declared.fault.Reason.{Reason}
use Rattle.llrp_tree.specs.declared.fault.Reason.TheVariants.{Utf8, Short, Reserved, Value, Missing, Extra, ParamLength}
use Rattle.llrp_tree.specs.Tree.{Forest, none}
use Rattle.llrp_tree.specs.OpenTree.{Begun, form, groups, set, in_range, is_enough, covers, Due, AField, ATail, Rest, due, tail_due, field_due, IsOpenTree}
use Rattle.llrp_tree.specs.FirstFault.{number, first_failing, check, checks, kind_checks, tv_kind, tlv_kind, tlv_octets, turn_of, next_part, next_fault, first_digit, has_none, has_ended}
use Rattle.llrp_tree.specs.Calls.Standing.{begin_node, leading}
use Rattle.llrp_stream.specs.Calls.Received.{without_tail}
use Rattle.llrp_stream.proofs.FaultTrees.{reason_in, no_kind_text, no_more_text, no_length_text, no_head_text}

field_no_text : (room range reserved : Bool) (at bit : ℕ) (reason : Reason) → first_failing (check room at Short ∷ check range at (if reserved then Reserved else Value) ∷ []) ≡ Some (bit, reason) → reason ≢ Utf8
field_no_text false range reserved at bit reason e = (let same : Short ≡ reason = ap reason_in e in λ z. let w : Short ≡ Utf8 = same ∙ z in cc)
field_no_text true false true at bit reason e = (let same : Reserved ≡ reason = ap reason_in e in λ z. let w : Reserved ≡ Utf8 = same ∙ z in cc)
field_no_text true false false at bit reason e = (let same : Value ≡ reason = ap reason_in e in λ z. let w : Value ≡ Utf8 = same ∙ z in cc)
field_no_text true true reserved at bit reason e = absurd cc

closing_no_text : (enough : Bool) (stop bit : ℕ) (reason : Reason) → first_failing (check enough stop Missing ∷ []) ≡ Some (bit, reason) → reason ≢ Utf8
closing_no_text false stop bit reason e = (let same : Missing ≡ reason = ap reason_in e in λ z. let w : Missing ≡ Utf8 = same ∙ z in cc)
closing_no_text true stop bit reason e = absurd cc

-- a node fails for text where its tail comes next
module _ (b : Begun) (outer : List Begun) (at : ℕ) (rest : List Bool) (bit : ℕ) (reason : Reason) where
  pub by_turn : (d : Due) (over no_groups digit : Bool) → first_failing (checks (turn_of d over no_groups digit) (length (b ∷ outer)) b at rest) ≡ Some (bit, reason) → reason ≡ Utf8 → d ≡ ATail
  unfolding checks
  by_turn (AField r) over no_groups digit e is = absurd (field_no_text (nat_le (at + r.width) b.stop) (in_range r (number rest 0 r.width)) r.reserved at bit reason e is)
  by_turn ATail over no_groups digit e is = refl
  by_turn Rest true no_groups digit e is = absurd (closing_no_text (is_enough (groups b) b.children) b.stop bit reason e is)
  by_turn Rest false true digit e is = (let same : Extra ≡ reason = ap reason_in e in absurd (let w : Extra ≡ Utf8 = same ∙ is in cc))
  by_turn Rest false false true e is =
      absurd (no_kind_text (tv_kind (set b) rest) (groups b) b.children (length (b ∷ outer)) at (at + 1) [] bit reason (no_more_text bit reason) (ap first_failing (append-nil (kind_checks (tv_kind (set b) rest) (groups b) b.children (length (b ∷ outer)) at (at + 1))) ∙ e) is)
  by_turn Rest false false false e is =
      absurd (no_head_text (nat_le (at + 32) b.stop) (number rest 0 6 == 0) at (kind_checks (tlv_kind (set b) rest) (groups b) b.children (length (b ∷ outer)) at (at + 6) ++ check (nat_le 4 (tlv_octets rest) && nat_le (at + 8 * tlv_octets rest) b.stop) (at + 16) ParamLength ∷ []) bit reason (no_kind_text (tlv_kind (set b) rest) (groups b) b.children (length (b ∷ outer)) at (at + 6) (check (nat_le 4 (tlv_octets rest) && nat_le (at + 8 * tlv_octets rest) b.stop) (at + 16) ParamLength ∷ []) bit reason (no_length_text (nat_le 4 (tlv_octets rest) && nat_le (at + 8 * tlv_octets rest) b.stop) (at + 16) bit reason)) e is)

tail_not_read : (rs : List FieldRule) (f : Tail) (tail : Option (List ℕ)) → field_due rs (tail_due f tail) ≡ ATail → tail ≡ None
tail_not_read [] f None e = refl
tail_not_read [] f (Some os) e = absurd cc
tail_not_read (r ∷ rs) f tail e = absurd cc

bare_node : (b : Begun) → b.tail ≡ None → b.children ≡ none → b ≡ leading b.head b.stop b.fields
bare_node b et ec = ap (λ (t : Option (List ℕ)). begin_node b.head b.stop b.fields t b.children) et ∙ ap (λ (f : Forest). begin_node b.head b.stop b.fields None f) ec

no_children : (b : Begun) (outer : List Begun) → IsOpenTree (b ∷ outer) → due b ≡ ATail → b.children ≡ none
unfolding IsOpenTree
no_children b outer s d = elim s.0.children_after [ inl e ↦ e | inr r ↦ absurd (let z : ATail ≡ Rest = sym d ∙ r in cc) ]

due_bare : (b : Begun) → due b ≡ ATail → b.tail ≡ None
unfolding due
due_bare b d = tail_not_read _ (form b) b.tail d

pub text_bare : (tree : List Begun) (rest : List Bool) (bit : ℕ) (reason : Reason) → IsOpenTree tree → next_fault tree rest ≡ Some (bit, reason) → reason ≡ Utf8 → tree ≡ without_tail tree
unfolding next_fault next_part
text_bare [] rest bit reason s e is = refl
text_bare (b ∷ outer) rest bit reason s e is =
    let at : ℕ = length (covers (b ∷ outer)) in
    let d = by_turn b outer at rest bit reason (due b) (has_ended b.head (nat_le b.stop at)) (has_none (groups b)) (first_digit rest) e is in
    ap (λ (x : Begun). x ∷ outer) (bare_node b (due_bare b d) (no_children b outer s d))
