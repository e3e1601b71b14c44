-- A node that has all its leading parts, as a step of the engine.
use Rattle.llrp_schema.specs.declared.kinds.KindSet.{KindSet}
use Rattle.std.proofs.Common.{◌≡◌, ℕ, ◌+◌, ◌-◌, ◌*◌, ◌<◌, List, [], ◌∷◌, Option, None, ap, ◌∙◌, arith, length, drop}
use Rattle.tag_bits.specs.Digits.{digits_of_bytes}
use Rattle.tag_bits.proofs.ByteLemmas.{length-bytes}
use Rattle.llrp_schema.specs.declared.kinds.Kind.{Kind}
use Rattle.llrp_schema.specs.declared.kinds.Tail.{Tail}
use Rattle.llrp_schema.specs.declared.kinds.Tail.TheVariants.{Absent}
use Rattle.llrp_schema.specs.Schema.{FieldRule, fields_of, tail_of}
use Rattle.llrp_tree.specs.OpenTree.{Begun, kind_of_head, due, Rest, covers, field_due, tail_due}
use Rattle.llrp_tree.proofs.ReadDigits.{length_covered}
use Rattle.arrayvec.specs.ArrayVec.{ArrayVec}
use Rattle.llrp_stream.specs.declared.engine.stack.StackNode.{StackNode}
use Rattle.llrp_stream.specs.declared.engine.body_reader.BodyReader.{BodyReader}
use Rattle.llrp_stream.specs.Calls.Front.{Reaches}
use Rattle.llrp_stream.specs.Private.Reading.{rank, work}
use Rattle.llrp_tree.proofs.Totality.{covered_octets}

pub resting : (b : Begun) (kind : Kind) → kind_of_head b.head ≡ kind → b.tail ≡ None → drop (length b.fields) (fields_of kind) ≡ [] → tail_of kind ≡ Absent → due b ≡ Rest
unfolding due
resting b kind k t e a =
    ap (λ (j : Kind). field_due (drop (length b.fields) (fields_of j)) (tail_due (tail_of j) b.tail)) k
    ∙ ap (λ (x : List FieldRule). field_due x (tail_due (tail_of kind) b.tail)) e
    ∙ ap (λ (x : Tail). tail_due x b.tail) a ∙ ap (λ (x : Option (List ℕ)). tail_due Absent x) t

pub aligned : {p : KindSet} (front : List ℕ) (n : ℕ) (b : Begun) (outer : List Begun) (a bit : ℕ) → Reaches p front n (b ∷ outer) (8 * a + bit) → due b ≡ Rest → bit < 8 → bit ≡ 0
aligned front n b outer a bit r d lt =
    let c = covered_octets b outer r.is_open d in
    let long = length_covered (covers (b ∷ outer)) (8 * a + bit) (digits_of_bytes front) r.covered (let l = length-bytes front in omega (arith, r.within)) in
    omega (arith, c.1, long)

pub ready_work : (r n : BodyReader) (left : ℕ) → n.bit ≡ r.bit → n.outer ≡ r.outer → rank r.stage ≡ 3 → rank n.stage ≡ 1 → work n (left - 0) < work r left
unfolding work
ready_work r n left b o s t = let e = ap (λ (x : ArrayVec StackNode). length x.items) o in omega arith
