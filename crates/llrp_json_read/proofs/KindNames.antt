-- The kind that a member names.
use Rattle.std.proofs.Common.{◌≡◌, ℕ, List, Option, Some, None, true, inr, sym, ap, ◌∙◌}
use Rattle.std.specs.Prelude.{codes, is_some, option_and_then, option_map}
use Rattle.json.specs.Find.{as_object, as_str, get}
use Rattle.json.specs.Json.{Json, Members}
use Rattle.llrp_schema.specs.declared.kinds.Kind.{Kind}
use Rattle.llrp_schema.specs.declared.kinds.Kind.TheVariants.{Message, Parameter}
use Rattle.llrp_schema.specs.declared.kinds.KindSet.{KindSet}
use Rattle.llrp_schema.specs.declared.kinds.MsgKind.{MsgKind}
use Rattle.llrp_schema.specs.declared.kinds.ParamKind.{ParamKind}
use Rattle.llrp_schema.specs.Schema.{name_of, set_of_kind}
use Rattle.llrp_schema.specs.Calls.Schema.{message_named_in, param_named_in}
use Rattle.llrp_schema.proofs.TableLaws.{message_name_found, param_name_found}
use Rattle.llrp_json_read.specs.declared.refusal.Reason.TheVariants as reason
use Rattle.llrp_json_read.specs.ObjectSays.{IsOfKind}
use Rattle.llrp_json_read.specs.ObjectRefused.{IsMessage, IsParameter, Refused, RefusesKind, at_member}

pub object_there : {X : Type 0} (f : X → Members) (o : Option X) (j : Json) → option_map f o ≡ as_object j → is_some o ≡ true → (ms : Members) × (as_object j ≡ Some ms)
object_there f (Some x) j e some = (f x, sym e)
object_there f None j e some = absurd cc

-- a parameter that is found by its name
pub parameter_named : (p : KindSet) (kind : ParamKind) (j : Json) (bytes text : List ℕ) → (ms : Members) × (as_object j ≡ Some ms) → option_and_then as_str (get (codes "parameter") j) ≡ Some text → bytes ≡ text → param_named_in p bytes ≡ Some kind → IsOfKind p (Parameter kind) j
parameter_named p kind j bytes text there member same e =
    let found = (param_name_found p bytes kind).0 e in
    record { members = there.0; object = there.1; own = found.0; named = member ∙ ap (λ (t : List ℕ). Some t) (sym same ∙ sym found.1) }

-- and a name of none
pub parameter_unnamed : (p : KindSet) (j : Json) (bytes text : List ℕ) (r : Refused) → (ms : Members) × (as_object j ≡ Some ms) → option_and_then as_str (get (codes "parameter") j) ≡ Some text → bytes ≡ text → param_named_in p bytes ≡ None → r ≡ at_member (codes "parameter") reason.Name → RefusesKind p IsParameter (codes "parameter") j r
parameter_unnamed p j bytes text r there member same e is = inr (inr (there.0, there.1, text, member, other, is))
  where
    other : (kind : Kind) → IsParameter kind → set_of_kind kind ≡ p → name_of kind ≡ text → ⊥
    other (Parameter kind) such own name = let found = (param_name_found p bytes kind).1 (own, name ∙ sym same) in cc (sym e ∙ found)
    other (Message kind) such own name = such

-- a message that is found by its name
pub message_named : (p : KindSet) (kind : MsgKind) (j : Json) (bytes text : List ℕ) → (ms : Members) × (as_object j ≡ Some ms) → option_and_then as_str (get (codes "message") j) ≡ Some text → bytes ≡ text → message_named_in p bytes ≡ Some kind → IsOfKind p (Message kind) j
message_named p kind j bytes text there member same e =
    let found = (message_name_found p bytes kind).0 e in
    record { members = there.0; object = there.1; own = found.0; named = member ∙ ap (λ (t : List ℕ). Some t) (sym same ∙ sym found.1) }

-- and a name of none
pub message_unnamed : (p : KindSet) (j : Json) (bytes text : List ℕ) (r : Refused) → (ms : Members) × (as_object j ≡ Some ms) → option_and_then as_str (get (codes "message") j) ≡ Some text → bytes ≡ text → message_named_in p bytes ≡ None → r ≡ at_member (codes "message") reason.Name → RefusesKind p IsMessage (codes "message") j r
message_unnamed p j bytes text r there member same e is = inr (inr (there.0, there.1, text, member, other, is))
  where
    other : (kind : Kind) → IsMessage kind → set_of_kind kind ≡ p → name_of kind ≡ text → ⊥
    other (Message kind) such own name = let found = (message_name_found p bytes kind).1 (own, name ∙ sym same) in cc (sym e ∙ found)
    other (Parameter kind) such own name = such
