-- What the places of the engine are below.
use Rattle.llrp_schema.specs.declared.kinds.KindSet.{KindSet}
use Rattle.std.proofs.Common.{◌≡◌, ℕ, ◌+◌, ◌*◌, ◌≤◌, List, [], ◌∷◌, length, refl, subst, arith}
use Rattle.std.specs.Prelude.{nat_le}
use Rattle.std.proofs.lemmas.Bool.{leb-true}
use Rattle.tag_bits.specs.Digits.{digits_of_bytes}
use Rattle.tag_bits.proofs.ByteLemmas.{length-bytes}
use Rattle.llrp_schema.specs.declared.kinds.Kind.{Kind}
use Rattle.llrp_schema.specs.Schema.{FieldRule, fields_of, rule_of, message_rule, param_rule, message_kinds, param_kinds, whole_message_kinds, whole_param_kinds}
use Rattle.llrp_schema.proofs.TableLaws.{every_rule}
use Rattle.llrp_tree.specs.declared.TheConstants.{MAX_LIMIT}
use Rattle.llrp_tree.specs.OpenTree.{Begun, kind_of_head, covers, AreLeading, IsOpenTree}
use Rattle.llrp_tree.specs.Calls.Standing.{end_of}
use Rattle.llrp_tree.proofs.ReadDigits.{length_covered}
use Rattle.llrp_tree.proofs.Growing.{stops_within}
use Rattle.llrp_stream.specs.declared.engine.body_reader.BodyReader.{BodyReader}
use Rattle.llrp_stream.specs.declared.engine.body_reader.Stage.{Stage}
use Rattle.llrp_stream.specs.declared.engine.body_reader.Stage.TheVariants.{Leading, Tail, Children}
use Rattle.llrp_stream.specs.Calls.Front.{Reaches}
use Rattle.llrp_stream.specs.Calls.Reading.{HasReadTo, bit_of, settled, IsAtStage, IsLeading}

pub few_fields : (kind : Kind) → length (fields_of kind) ≤ 16
unfolding fields_of rule_of message_rule param_rule message_kinds param_kinds whole_message_kinds whole_param_kinds
few_fields kind = leb-true (length (fields_of kind)) 16 (every_rule (λ row. nat_le (length row.fields) 16) (refl, refl) (refl, refl) kind)

pub covered_length : {p : KindSet} (front : List ℕ) (n : ℕ) (t : List Begun) (at : ℕ) → Reaches p front n t at → length (covers t) ≡ at
covered_length front n t at r = length_covered (covers t) at (digits_of_bytes front) r.covered (let l = length-bytes front in omega (arith, r.within))

inside_of : (b : Begun) (outer : List Begun) → IsOpenTree (b ∷ outer) → length (covers (b ∷ outer)) ≤ b.stop
unfolding IsOpenTree
inside_of b outer s = s.0.inside

pub open_at : (s : Stage) (r : BodyReader) (front : List ℕ) (b : Begun) (outer : List Begun) → IsAtStage s r front b outer → IsOpenTree (settled s b ∷ outer) × (end_of (settled s b ∷ outer) ≡ 8 * r.octets)
open_at (Leading next) r front b outer i = (i.reaches.is_open, i.reaches.ends)
open_at (Tail left) r front b outer i = (i.reaches.is_open, i.reaches.ends)
open_at Children r front b outer i = (i.reaches.is_open, i.reaches.ends)

same_stop : (s : Stage) (b : Begun) → (settled s b).stop ≡ b.stop
same_stop (Leading next) b = refl
same_stop (Tail left) b = refl
same_stop Children b = refl

pub fields_in : (b : Begun) (outer : List Begun) → IsOpenTree (b ∷ outer) → AreLeading (fields_of (kind_of_head b.head)) b.fields
unfolding IsOpenTree
fields_in b outer s = s.0.fields

pub leading_few : (rules : List FieldRule) (values : List ℕ) → AreLeading rules values → length values ≤ length rules
leading_few rules [] h = omega arith
leading_few [] (v ∷ values) h = absurd h
leading_few (r ∷ rules) (v ∷ values) h = let a = leading_few rules values h.2 in omega arith

pub stop_small : (r : BodyReader) (front : List ℕ) (b : Begun) (outer : List Begun) → HasReadTo r front b outer → r.top.stop ≤ MAX_LIMIT
stop_small r front b outer rd =
    let o = open_at r.stage r front b outer rd.stage in
    let w = stops_within (settled r.stage b) outer o.0 in
    omega (arith, rd.small, rd.level.stop, o.1, same_stop r.stage b)

pub before_stop : (r : BodyReader) (front : List ℕ) (b : Begun) (outer : List Begun) (next : ℕ) → HasReadTo r front b outer → r.stage ≡ Leading next → 8 * r.at + r.bit ≤ 8 * r.top.stop
before_stop r front b outer next rd s =
    let l : IsLeading next r front b outer = subst (λ (x : Stage). IsAtStage x r front b outer) s rd.stage in
    let i = inside_of b outer l.reaches.is_open in
    let c = covered_length front r.octets (b ∷ outer) (bit_of r) l.reaches in
    omega (arith, rd.level.stop)

-- no node stops after the frame
pub stop_within : (r : BodyReader) (front : List ℕ) (b : Begun) (outer : List Begun) → HasReadTo r front b outer → r.top.stop ≤ r.octets
stop_within r front b outer rd =
    let o = open_at r.stage r front b outer rd.stage in
    let w = stops_within (settled r.stage b) outer o.0 in
    omega (arith, rd.level.stop, o.1, same_stop r.stage b)
