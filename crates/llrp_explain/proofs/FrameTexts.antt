-- The text of a frame of which a printer received what there is.
use Rattle.std.specs.Prelude.{codes, decimal}
use Rattle.std.proofs.Common.{None, ◌≡◌, ◌⊎◌, inl, inr, ℕ, zero, suc, ◌+◌, ◌*◌, ◌/◌, ◌%◌, ◌<◌, ◌≤◌, List, [], ◌∷◌, ◌++◌, length, take, drop, Bool, true, false, ◌&&◌, Option, Some, refl, sym, ap, subst, ◌∙◌, arith, append_assoc}
use Rattle.std.proofs.lemmas.List.{append-nil}
use Rattle.tag_bits.specs.Digits.{digits_of_bytes}
use Rattle.tag_bits.proofs.ByteLemmas.{bytes-append, length-bytes}
use Rattle.llrp_schema.specs.declared.kinds.KindSet.{KindSet}
use Rattle.llrp_tree.specs.declared.fault.Fault.{Fault}
use Rattle.llrp_tree.specs.declared.fault.Reason.{Reason}
use Rattle.llrp_tree.specs.declared.fault.Reason.TheVariants.{Utf8, MessageType, MessageLength}
use Rattle.llrp_tree.specs.Tree.{MessageTree}
use Rattle.llrp_tree.specs.OpenTree.{Begun, covers}
use Rattle.llrp_tree.specs.FirstFault.{next_fault, number}
use Rattle.llrp_tree.specs.Calls.Deciding.{deciding}
use Rattle.llrp_tree.specs.Calls.Standing.{IsAt}
use Rattle.llrp_tree.proofs.ReadDigits.{length_covered}
use Rattle.llrp_stream.specs.Cuts.{length_field}
use Rattle.llrp_stream.specs.Items.{FrameIn, id_field}
use Rattle.llrp_stream.specs.Calls.Front.{AreDeciding}
use Rattle.llrp_stream.specs.Calls.Items.{header_fault_in}
use Rattle.llrp_stream.specs.Calls.Received.{FailsAt, IsFaultIn, StandAfter, without_tail}
use Rattle.llrp_stream.specs.Calls.Frames.{IsRefused}
use Rattle.llrp_stream.proofs.Reached.{seen}
use Rattle.llrp_explain.specs.declared.form.Form.{Form}
use Rattle.llrp_explain.specs.declared.printer.FramePrinter.{FramePrinter}
use Rattle.llrp_explain.specs.Calls.ExplainLines.{bits_of_lines, open_lines, message_lines}
use Rattle.llrp_explain.specs.Calls.ExplainText.{lines_text, readings_text, fault_place}
use Rattle.llrp_explain.specs.Calls.FaultLines.{IsFaultTree, NamedBits, header_fields, refused_lines, taken_lines}
use Rattle.llrp_explain.specs.Calls.HeaderFaults.{header_sentence, refused_text, set_words}
use Rattle.llrp_explain.specs.Calls.Explained.{IsExplained, fault_text, in_form, is_asked, written_if}
use Rattle.llrp_explain.specs.Calls.FaultSentences.{refusal_text}
use Rattle.llrp_explain.specs.Private.RefusedHeads.{header_head}
use Rattle.llrp_explain.specs.Calls.Printed.{Holds}
use Rattle.llrp_explain.specs.Calls.Printing.{AreHanded, IsRefusal, IsTreeOf, RefusesPart}
use Rattle.llrp_explain.specs.Private.Printing.{Ends, IsAppended, IsOutcomeText, IsRefusedText}
use Rattle.llrp_explain.proofs.LineDigits.{open_is, bits_are, frame_bits}
use Rattle.llrp_explain.proofs.PrintedLemmas.{four_parts}
use Rattle.llrp_explain.proofs.TextFaults.{text_bare}

-- ---- a fault in the header

no_tree : {Q : Type 0} (rest : List Bool) (bit : ℕ) (reason : Reason) → next_fault [] rest ≡ Some (bit, reason) → Q
unfolding next_fault
no_tree rest bit reason e = absurd cc

nothing_received : {Q : Type 0} (p : KindSet) (front : List ℕ) (n : ℕ) (fault : Fault) → length (front ++ []) ≡ n → IsFaultIn p front n [] fault → Q
nothing_received p front n fault long f =
    let fails = f.fails [] long in
    let none : [] ≡ f.tree = elim f.is [ inl e ↦ e | inr e ↦ e.1 ] in
    let here = subst (λ (t : List Begun). FailsAt (digits_of_bytes (front ++ [])) t fault.bit fault.reason) (sym none) fails in
    no_tree (drop here.at (digits_of_bytes (front ++ []))) fault.bit fault.reason here.fails

-- the octets that were handed on begin the frame
handed_first : (front : List ℕ) (octets : ℕ) (handed : List ℕ) (fault : Fault) → StandAfter [] front octets handed fault → (later : List ℕ) × (front ≡ handed ++ later)
unfolding covers
handed_first front octets handed fault s =
    let zero : s.place ≡ 0 = (let i = s.is.0 in omega (arith, i)) in
    (s.later, subst (λ (n : ℕ). drop n front ≡ handed ++ s.later) zero s.are)

header_tree : (p : KindSet) (limit : ℕ) (frame : List ℕ) (bit : ℕ) (reason : Reason) → header_fault_in p limit frame ≡ Some (bit, reason) → IsFaultTree p limit frame bit reason [] 0
unfolding header_fault_in
header_tree p limit frame bit reason e = inl (refl, refl, e)

-- the octets that were handed on begin with the digits after the tree
handed_at : (frame : List ℕ) (tree : List Begun) (at octets : ℕ) (handed : List ℕ) (fault : Fault) → IsAt (digits_of_bytes frame) tree at → octets ≡ length frame → (after : StandAfter tree frame octets handed fault) → AreDeciding (8 * (after.place + length handed)) frame octets tree → AreHanded tree handed (drop at (digits_of_bytes frame))
handed_at frame tree at octets handed fault st whole after decides =
    let ds : List Bool = digits_of_bytes frame in
    let long : length (covers tree) ≡ at = length_covered (covers tree) at ds st.covered st.within in
    let low = after.is.0 in
    let high = after.is.1 in
    let place : at ≡ 8 * after.place + at % 8 = omega (arith, long, low, high) in
    let all : digits_of_bytes (frame ++ []) ≡ ds = ap digits_of_bytes (append-nil frame) in
    let later : List Bool = digits_of_bytes after.later ++ digits_of_bytes [] in
    record {
      later = later;
      are = ap (λ (k : ℕ). drop k ds) place ∙ sym (ap (λ (x : List Bool). drop (8 * after.place + at % 8) x) all) ∙ seen frame [] (handed ++ after.later) after.place (at % 8) after.within after.are
          ∙ ap (λ (x : List Bool). drop (at % 8) x) (ap (λ (x : List Bool). x ++ digits_of_bytes []) (bytes-append handed after.later) ∙ append_assoc (digits_of_bytes handed) (digits_of_bytes after.later) (digits_of_bytes []))
          ∙ ap (λ (k : ℕ). drop (k % 8) (digits_of_bytes handed ++ later)) (sym long);
      decide = (
          let size : length (frame ++ []) ≡ octets = ap (λ (x : List ℕ). length x) (append-nil frame) ∙ sym whole in
          let same : drop (length (covers tree)) (digits_of_bytes (frame ++ [])) ≡ drop at ds = ap (λ (k : ℕ). drop k (digits_of_bytes (frame ++ []))) long ∙ ap (λ (x : List Bool). drop at x) all in
          let most = decides [] size in
          let moved = ap (λ (x : List Bool). deciding tree x) same in
          omega (arith, most, moved, low, high));
    }

abbrev HeaderOrBody : KindSet → ℕ → List ℕ → ℕ → List Begun → List ℕ → Fault → Type 0
HeaderOrBody p limit frame n t handed fault = ((t ≡ []) × (header_fault_in p limit frame ≡ Some (fault.bit, fault.reason)) × (length handed ≡ 10)) ⊎ (IsFaultIn p frame n t fault × (n ≤ limit))

module _ (p : KindSet) (limit : ℕ) (frame : List ℕ) (fault : Fault) (printer : FramePrinter) where
  -- of a fault in the header, this is known of what is kept
  in_header : (t : List Begun) (handed : List ℕ) → IsRefusal printer t handed fault → HeaderOrBody p limit frame (length_field frame) t handed fault → length_field frame ≡ length frame → printer.of_header ≡ true → printer.failed ≡ false
      → (t ≡ []) × (header_fault_in p limit frame ≡ Some (fault.bit, fault.reason)) × (length handed ≡ 10) × (printer.tail.items ≡ handed)
  in_header [] handed f (inl h) whole of_header kept = (refl, h.1, h.2, f.1 kept)
  in_header [] handed f (inr b) whole of_header kept = nothing_received p frame (length_field frame) fault (ap (λ (x : List ℕ). length x) (append-nil frame) ∙ sym whole) b.0
  in_header (b ∷ outer) handed f is whole of_header kept = absurd (let z : true ≡ false = sym of_header ∙ f.0 in cc)

  pub header_long : IsRefused (IsRefusal printer) p limit frame fault → length_field frame ≡ length frame → printer.of_header ≡ true → printer.failed ≡ false → 10 ≤ length printer.tail.items
  header_long r whole of_header kept =
      let h = in_header r.0 r.1 r.2 r.3.fault_is whole of_header kept in
      let same = ap (λ (x : List ℕ). length x) h.3 in
      let ten = h.2 in
      omega (arith, same, ten)

  pub header_refused_text : (old new : List ℕ) → IsRefused (IsRefusal printer) p limit frame fault → length_field frame ≡ length frame → printer.of_header ≡ true → printer.failed ≡ false
      → ((later : List Bool) → new ≡ old ++ fault_text p limit [] fault.bit fault.reason (digits_of_bytes printer.tail.items ++ later)) → IsRefusedText p limit frame fault.bit fault.reason old new
  header_refused_text old new r whole of_header kept text =
      let h = in_header r.0 r.1 r.2 r.3.fault_is whole of_header kept in
      let after = subst (λ (t : List Begun). StandAfter t frame (length_field frame) r.1 fault) h.0 r.3.after in
      let first = handed_first frame (length_field frame) r.1 fault after in
      let ds : digits_of_bytes printer.tail.items ++ digits_of_bytes first.0 ≡ digits_of_bytes frame = ap (λ (x : List ℕ). digits_of_bytes x ++ digits_of_bytes first.0) h.3 ∙ sym (bytes-append r.1 first.0) ∙ ap digits_of_bytes (sym first.1) in
      ([], 0, header_tree p limit frame fault.bit fault.reason h.1, text (digits_of_bytes first.0) ∙ ap (λ (x : List Bool). old ++ fault_text p limit [] fault.bit fault.reason x) ds)

  -- ---- a fault after it

  in_body : (t : List Begun) (handed : List ℕ) → IsRefusal printer t handed fault → HeaderOrBody p limit frame (length_field frame) t handed fault → printer.of_header ≡ false → printer.failed ≡ false
      → (IsFaultIn p frame (length_field frame) t fault × (length_field frame ≤ limit)) × ((tree : List Begun) → IsTreeOf t fault tree → (fault.reason ≡ Utf8 → tree ≡ without_tail tree) → Holds [] (open_lines tree) printer.lines) × RefusesPart t handed fault printer.refused.items
  in_body [] handed f is of_header kept = absurd (let z : true ≡ false = sym f.0 ∙ of_header in cc)
  in_body (b ∷ outer) handed f (inl h) of_header kept = absurd (let z : b ∷ outer ≡ [] = h.0 in cc)
  in_body (b ∷ outer) handed f (inr b2) of_header kept = (b2, f.1, f.2 kept)

  tree_text : (tree : List Begun) (old new : List ℕ) (rest : List Bool) → next_fault tree rest ≡ Some (fault.bit, fault.reason) → new ≡ (old ++ readings_text None 0 (open_lines tree)) ++ refusal_text tree fault.bit fault.reason rest
      → new ≡ old ++ fault_text p limit tree fault.bit fault.reason rest
  unfolding fault_text
  tree_text [] old new rest e t = no_tree rest fault.bit fault.reason e
  tree_text (b ∷ outer) old new rest e t = t ∙ append_assoc old (readings_text None 0 (open_lines (b ∷ outer))) (refusal_text (b ∷ outer) fault.bit fault.reason rest)

  -- an open tree covers fewer bits than a frame may have
  covered_few : (tree : List Begun) (at : ℕ) → IsAt (digits_of_bytes frame) tree at → length frame ≤ limit → limit ≤ 1048576 → length (covers tree) ≤ 8388608
  covered_few tree at st le small =
      let long = length_covered (covers tree) at (digits_of_bytes frame) st.covered st.within in
      let within = st.within in
      omega (arith, long, within, length-bytes frame, le, small)

  lines_are : (tree : List Begun) → length (covers tree) ≤ 8388608 → Holds [] (open_lines tree) printer.lines → printer.lines.text.items ≡ readings_text None 0 (open_lines tree)
  unfolding Holds
  lines_are tree few h =
      let bits : bits_of_lines (open_lines tree) ≡ length (covers tree) = bits_are (open_lines tree) ∙ ap (λ (ds : List Bool). length ds) (open_is tree) in
      (h (omega (arith, bits, few))).0

  -- the octets that were handed on are those after the tree
  are_handed : (tree t : List Begun) (at : ℕ) (handed : List ℕ) → IsAt (digits_of_bytes frame) tree at → StandAfter t frame (length_field frame) handed fault → length_field frame ≡ length frame → IsTreeOf t fault tree → (fault.reason ≡ Utf8) ⊎ AreHanded tree handed (drop at (digits_of_bytes frame))
  are_handed tree t at handed st after whole (inr e) = inl e.0
  are_handed tree t at handed st after whole (inl same) = elim after.decide [
    | inl text ↦ inl text
    | inr decides ↦ inr (subst (λ (x : List Begun). AreHanded x handed (drop at (digits_of_bytes frame))) same (handed_at frame t at (length_field frame) handed fault (subst (λ (x : List Begun). IsAt (digits_of_bytes frame) x at) (sym same) st) whole after decides))
  ]

  pub body_refused_text : (old mid new : List ℕ) → limit ≤ 1048576 → IsRefused (IsRefusal printer) p limit frame fault → length_field frame ≡ length frame → printer.of_header ≡ false → printer.failed ≡ false → mid ≡ old ++ printer.lines.text.items → new ≡ mid ++ printer.refused.items
      → IsRefusedText p limit frame fault.bit fault.reason old new
  body_refused_text old mid new small r whole of_header kept a b =
      let f = in_body r.0 r.1 r.2 r.3.fault_is of_header kept in
      let is = f.0.0 in
      let le : length frame ≤ limit = (let l = f.0.1 in omega (arith, l, whole)) in
      let fails = subst (λ (x : List ℕ). FailsAt (digits_of_bytes x) is.tree fault.bit fault.reason) (append-nil frame) (is.fails [] (ap (λ (x : List ℕ). length x) (append-nil frame) ∙ sym whole)) in
      let rest : List Bool = drop fails.at (digits_of_bytes frame) in
      let holds = f.1 is.tree is.is (text_bare is.tree rest fault.bit fault.reason fails.stands.is_open fails.fails) in
      let few = covered_few is.tree fails.at fails.stands le small in
      let lines = lines_are is.tree few holds in
      let refused : printer.refused.items ≡ refusal_text is.tree fault.bit fault.reason rest = f.2 is.tree rest is.is fails.stands.is_open (omega (arith, few)) (are_handed is.tree r.0 fails.at r.1 fails.stands r.3.after whole is.is) fails.fails in
      (is.tree, fails.at, inr (fails.stands, fails.fails), tree_text is.tree old new rest fails.fails (b ∙ ap (λ (x : List ℕ). x ++ printer.refused.items) (a ∙ ap (λ (x : List ℕ). old ++ x) lines) ∙ ap (λ (x : List ℕ). (old ++ readings_text None 0 (open_lines is.tree)) ++ x) refused))

-- ---- a frame that ends

message_lines_are : (m : MessageTree) (frame : List ℕ) (limit : ℕ) (p : KindSet) (printer : FramePrinter) → FrameIn p m frame limit → limit ≤ 1048576 → Ends printer m → printer.lines.text.items ≡ readings_text None 0 (message_lines m)
unfolding Holds
message_lines_are m frame limit p printer f small h =
    let bits = frame_bits m frame limit f.frame in
    let short = f.frame.short in
    (h (omega (arith, bits, short, small))).0

pub whole_outcome : (p : KindSet) (limit : ℕ) (frame old new slice : List ℕ) (printer : FramePrinter) → limit ≤ 1048576 → ((m : MessageTree) × FrameIn p m frame limit × Ends printer m) → slice ≡ printer.lines.text.items → new ≡ old ++ slice → IsOutcomeText p limit frame old new true
whole_outcome p limit frame old new slice printer small g s e = (g.0, g.1, e ∙ ap (λ (x : List ℕ). old ++ x) (s ∙ message_lines_are g.0 frame limit p printer g.1 small g.2))

-- the lines of a frame, after no text
explained : (p : KindSet) (limit : ℕ) (frame lines : List ℕ) (this : Bool) → IsOutcomeText p limit frame [] lines this → IsExplained p limit frame lines this
explained p limit frame lines true r = (r.0, r.1, r.2)
explained p limit frame lines false r = (r.0, r.1, r.2, r.3.0, r.3.1, r.3.2, r.3.3)

pub appended : (form : Form) (only : Option ℕ) (p : KindSet) (limit number octets : ℕ) (frame none lines old new : List ℕ) (before this asked : Bool) → octets ≡ length frame → asked ≡ is_asked only (id_field frame) → none ≡ [] → IsOutcomeText p limit frame none lines this → new ≡ old ++ written_if asked (in_form form number octets lines)
    → IsAppended form only p limit number frame old new before (before && this)
appended form only p limit number octets frame none lines old new before this asked long same empty r grown = (
  written_if (is_asked only (id_field frame)) (in_form form number (length frame) lines),
  this,
  grown ∙ ap (λ (n : ℕ). old ++ written_if asked (in_form form number n lines)) long ∙ ap (λ (b : Bool). old ++ written_if b (in_form form number (length frame) lines)) same,
  (lines, explained p limit frame lines this (subst (λ (x : List ℕ). IsOutcomeText p limit frame x lines this) empty r), refl),
  refl,
)

-- ---- the text of a fault in a header

first_taken : (count : ℕ) (reason : Reason) (rest : List Bool) → 0 < count → take count header_head ≡ header_fields reason → codes "then, refused:\n" ++ lines_text 0 (taken_lines 0 (take count header_head) 0 rest) ≡ refused_text 0 (refused_lines [] reason rest)
unfolding refused_lines taken_lines
first_taken zero reason rest some e = absurd (omega (arith, some))
first_taken (suc n) reason rest some e = ap (λ (fs : List NamedBits). refused_text 0 (taken_lines 0 fs 0 rest)) e

none_taken : (count : ℕ) (reason : Reason) (rest : List Bool) → count ≡ 0 → take count header_head ≡ header_fields reason → lines_text 0 (taken_lines 0 (take count header_head) 0 rest) ≡ refused_text 0 (refused_lines [] reason rest)
unfolding refused_lines taken_lines lines_text
none_taken zero reason rest none e = ap (λ (fs : List NamedBits). refused_text 0 (taken_lines 0 fs 0 rest)) e
none_taken (suc n) reason rest none e = absurd (omega (arith, none))

pub heading_text : (count : ℕ) (reason : Reason) (rest : List Bool) (t0 t1 t2 : List ℕ) → (0 < count → t1 ≡ t0 ++ codes "then, refused:\n") → (count ≡ 0 → t1 ≡ t0) → take count header_head ≡ header_fields reason → t2 ≡ t1 ++ lines_text 0 (taken_lines 0 (take count header_head) 0 rest)
    → t2 ≡ t0 ++ refused_text 0 (refused_lines [] reason rest)
heading_text zero reason rest t0 t1 t2 some none e t = t ∙ ap (λ (x : List ℕ). x ++ lines_text 0 (taken_lines 0 (take 0 header_head) 0 rest)) (none refl) ∙ ap (λ (x : List ℕ). t0 ++ x) (none_taken 0 reason rest refl e)
heading_text (suc n) reason rest t0 t1 t2 some none e t =
    let lines = lines_text 0 (taken_lines 0 (take (suc n) header_head) 0 rest) in
    t ∙ ap (λ (x : List ℕ). x ++ lines) (some (omega arith)) ∙ append_assoc t0 (codes "then, refused:\n") lines ∙ ap (λ (x : List ℕ). t0 ++ x) (first_taken (suc n) reason rest (omega arith) e)

pub header_fault_text : (p : KindSet) (limit bit : ℕ) (reason : Reason) (ds : List Bool) (t0 t2 t3 t4 t5 : List ℕ) → t2 ≡ t0 ++ refused_text 0 (refused_lines [] reason ds) → t3 ≡ t2 ++ fault_place bit (bit / 8) → t4 ≡ t3 ++ header_sentence p limit reason ds → t5 ≡ t4 ++ codes "\n" → t5 ≡ t0 ++ fault_text p limit [] bit reason ds
unfolding fault_text
header_fault_text p limit bit reason ds t0 t2 t3 t4 t5 a b c d = four_parts t0 t2 t3 t4 t5 (refused_text 0 (refused_lines [] reason ds)) (fault_place bit (bit / 8)) (header_sentence p limit reason ds) (codes "\n") a b c d

pub type_sentence : (p : KindSet) (limit n : ℕ) (reason : Reason) (ds : List Bool) (t0 t1 t2 t3 t4 w : List ℕ) → reason ≡ MessageType → n ≡ number ds 6 10 → w ≡ set_words p → t1 ≡ t0 ++ codes "MessageType: " → t2 ≡ t1 ++ decimal n → t3 ≡ t2 ++ codes " is of no message of " → t4 ≡ t3 ++ w
    → t4 ≡ t0 ++ header_sentence p limit reason ds
unfolding header_sentence
type_sentence p limit n reason ds t0 t1 t2 t3 t4 w r e f a b c d = rw (r, sym e, sym f) (four_parts t0 t1 t2 t3 t4 (codes "MessageType: ") (decimal n) (codes " is of no message of ") w a b c d)

pub length_sentence : (p : KindSet) (limit n : ℕ) (reason : Reason) (ds : List Bool) (t0 t1 t2 t3 t4 : List ℕ) → reason ≡ MessageLength → n ≡ number ds 16 32 → t1 ≡ t0 ++ codes "MessageLength: " → t2 ≡ t1 ++ decimal n → t3 ≡ t2 ++ codes " octets, the limit is " → t4 ≡ t3 ++ decimal limit
    → t4 ≡ t0 ++ header_sentence p limit reason ds
unfolding header_sentence
length_sentence p limit n reason ds t0 t1 t2 t3 t4 r e a b c d = rw (r, sym e) (four_parts t0 t1 t2 t3 t4 (codes "MessageLength: ") (decimal n) (codes " octets, the limit is ") (decimal limit) a b c d)
