-- The octet in which an open tree ends.
use Rattle.std.proofs.Common.{◌≡◌, ℕ, ◌+◌, ◌*◌, ◌<◌, List, [], ◌∷◌, ◌++◌, length, Some, ap, ◌∙◌, arith, length-append}
use Rattle.llrp_tree.specs.Tree.{none}
use Rattle.llrp_tree.specs.Lawful.{count_octets}
use Rattle.llrp_tree.specs.Spelling.{Head, head_digits, field_digits, tail_digits, forest_digits}
use Rattle.llrp_schema.specs.Schema.{fields_of, tail_of}
use Rattle.llrp_tree.specs.OpenTree.{Begun, kind_of_head, leading_digits, part, covers}
use Rattle.llrp_tree.specs.Calls.Standing.{begin_node, leading}
use Rattle.llrp_tree.proofs.LengthLemmas.{length-tail_digits}
use Rattle.llrp_stream.specs.declared.engine.body_reader.BodyReader.{BodyReader}
use Rattle.llrp_stream.specs.declared.engine.body_reader.Stage.{Stage}
use Rattle.llrp_stream.specs.declared.engine.body_reader.Stage.TheVariants as stage
use Rattle.llrp_stream.specs.Calls.Received.{EndsInOctet}
use Rattle.llrp_stream.specs.Calls.Reading.{HasReadTo, IsAtStage}
use Rattle.llrp_stream.proofs.Bounds.{covered_length}

-- the octets of a tail, and its count
tail_length : (h : Head) (stop : ℕ) (fields os : List ℕ) (outer : List Begun) → length (covers (begin_node h stop fields (Some os) none ∷ outer)) ≡ length (covers (leading h stop fields ∷ outer)) + 8 * (count_octets (tail_of (kind_of_head h)) + length os)
unfolding covers part leading_digits forest_digits
tail_length h stop fields os outer =
    let a = field_digits (fields_of (kind_of_head h)) fields in
    let t = tail_digits (tail_of (kind_of_head h)) os in
    omega (
      arith,
      length-append (covers outer) (head_digits h ++ ((a ++ t) ++ [])),
      length-append (head_digits h) ((a ++ t) ++ []),
      length-append (a ++ t) [],
      length-append a t,
      length-append (covers outer) (head_digits h ++ ((a ++ []) ++ [])),
      length-append (head_digits h) ((a ++ []) ++ []),
      length-append (a ++ []) [],
      length-append a [],
      length-tail_digits (tail_of (kind_of_head h)) os,
    )

at_stage : (s : Stage) (r : BodyReader) (front : List ℕ) (b : Begun) (outer : List Begun) → IsAtStage s r front b outer → r.bit < 8 → EndsInOctet (b ∷ outer) r.at
at_stage (stage.Leading next) r front b outer st small = let c = covered_length front r.octets (b ∷ outer) (8 * r.at + r.bit) st.reaches in (omega (arith, c), omega (arith, c, small))
at_stage (stage.Tail left) r front b outer st small =
    let c = covered_length front r.octets (leading b.head b.stop b.fields ∷ outer) (8 * st.from) st.reaches in
    let is = ap (λ (x : Begun). length (covers (x ∷ outer))) st.is ∙ tail_length b.head b.stop b.fields st.so_far outer in
    let place = st.place in
    (omega (arith, c, is, place), omega (arith, c, is, place))
at_stage stage.Children r front b outer st small = let c = covered_length front r.octets (b ∷ outer) (8 * r.at) st.reaches in (omega (arith, c), omega (arith, c))

-- a listener's tree ends in the octet that the engine has come to
pub ends_in : (r : BodyReader) (front : List ℕ) (b : Begun) (outer : List Begun) → HasReadTo r front b outer → EndsInOctet (b ∷ outer) r.at
ends_in r front b outer rd = at_stage r.stage r front b outer rd.stage rd.bit_small
