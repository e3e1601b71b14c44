-- The front of a frame, and what stays of it when more bytes come.
use Rattle.std.proofs.Common.{◌≡◌, ℕ, ◌+◌, ◌≤◌, List, ◌++◌, length, take, refl, sym, subst, ◌∙◌, arith, inl, length-append, append_assoc}
use Rattle.std.proofs.lemmas.List.{length-take-le}
use Rattle.llrp_schema.specs.declared.kinds.KindSet.{KindSet}
use Rattle.llrp_tree.specs.declared.fault.Fault.{Fault}
use Rattle.llrp_tree.specs.FirstFault.{FirstFaultIn}
use Rattle.llrp_stream.specs.declared.header.FaultyHeader.{FaultyHeader}
use Rattle.llrp_stream.specs.Cuts.{length_field, IsFrame, Breaks}
use Rattle.llrp_stream.specs.Items.{id_field}
use Rattle.llrp_stream.specs.Calls.Items.{header_fault_in, IsSkipped}
use Rattle.llrp_stream.specs.Private.Headers.{IsFaulty}
use Rattle.llrp_stream.proofs.HeaderLemmas.{number-append}

pub length_field-append : (xs ys : List ℕ) → 6 ≤ length xs → length_field (xs ++ ys) ≡ length_field xs
unfolding length_field
length_field-append xs ys le = number-append xs ys 16 32 (omega arith)

pub id_field-append : (xs ys : List ℕ) → 10 ≤ length xs → id_field (xs ++ ys) ≡ id_field xs
unfolding id_field
id_field-append xs ys le = number-append xs ys 48 32 (omega arith)

pub header_fault-append : (p : KindSet) (limit : ℕ) (xs ys : List ℕ) → 10 ≤ length xs → header_fault_in p limit (xs ++ ys) ≡ header_fault_in p limit xs
unfolding header_fault_in
header_fault-append p limit xs ys le =
    rw (number-append xs ys 0 3 (omega arith), number-append xs ys 3 3 (omega arith), number-append xs ys 6 10 (omega arith), number-append xs ys 16 32 (omega arith)) refl

pub no_frame_breaks : (bytes more : List ℕ) → Breaks bytes → Breaks (bytes ++ more)
no_frame_breaks bytes more b = (omega (arith, b.0, length-append bytes more), omega (arith, b.1, length_field-append bytes more b.0))

-- the bytes up to the length that the front says are a frame
pub frame_ends : (front piece : List ℕ) (octets left : ℕ) → 6 ≤ length front → 10 ≤ octets → octets ≡ length_field front → length front + left ≡ octets → left ≤ length piece → IsFrame (front ++ take left piece)
frame_ends front piece octets left six ten is long le =
    let all : length (front ++ take left piece) ≡ octets = omega (arith, length-append front (take left piece), length-take-le left piece le) in
    record { header = omega arith; whole = length_field-append front (take left piece) six ∙ sym is ∙ sym all }

-- a frame with a fault in its header is skipped
pub faulty_is_skipped : {p : KindSet} (limit : ℕ) (header : FaultyHeader) (front : List ℕ) (count : ℕ) → count ≡ length front → IsFaulty p limit front header → IsSkipped p limit count header.octets header.id header.fault front
unfolding header_fault_in
faulty_is_skipped limit header front count e f = record {
  count_is = e;
  octets_are = f.octets_are;
  id_is = f.id_is;
  faulty = λ more is. inl (header_fault-append _ limit front more f.long ∙ f.fault_is);
}

pub skipped-append : (p : KindSet) (limit count octets id n : ℕ) (fault : Fault) (front piece : List ℕ) → 10 ≤ count → n ≡ length piece → IsSkipped p limit count octets id fault front → IsSkipped p limit (count + n) octets id fault (front ++ piece)
skipped-append p limit count octets id n fault front piece ten e s = record {
  count_is = omega (arith, e, s.count_is, length-append front piece);
  octets_are = s.octets_are ∙ sym (length_field-append front piece (omega (arith, s.count_is)));
  id_is = s.id_is ∙ sym (id_field-append front piece (omega (arith, s.count_is)));
  faulty = λ more is.
      let e2 = append_assoc front piece more in
      subst (λ (x : List ℕ). FirstFaultIn p x limit fault.bit fault.reason) (sym e2) (s.faulty (piece ++ more) (subst (λ (x : List ℕ). IsFrame x) e2 is));
}
