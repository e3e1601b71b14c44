-- The frames that spell messages, one after another, and what run_encode refuses.
use Rattle.std.proofs.Common.{◌≡◌, ℕ, suc, ◌==◌, ◌<◌, ◌≤◌, Bool, true, false, List, [], ◌∷◌, ◌++◌, length, take, drop, refl, sym, ap, subst, ◌∙◌, inl, inr, arith, length-append, Result, Err}
use Rattle.std.proofs.lemmas.Bool.Decides.{nat_tests}
use Rattle.std.proofs.lemmas.List.{append-nil, take-append-drop}
use Rattle.std.specs.Prelude.{Option, Some, None, IfErr}
use Rattle.std.specs.List.{AllZip, flat_map}
use Rattle.std.specs.Io.KnownBytes.{Appends, Consumes, IsAtEnd}
use Rattle.llrp_schema.specs.declared.kinds.Kind.TheVariants.{Message}
use Rattle.llrp_schema.specs.declared.kinds.KindSet.{KindSet}
use Rattle.llrp_schema.specs.Schema.{set_of_kind}
use Rattle.llrp_tree.specs.declared.fault.Fault.{Fault}
use Rattle.llrp_tree.specs.Tree.{MessageTree}
use Rattle.llrp_tree.specs.Frame.{Frame}
use Rattle.llrp_tree.specs.FirstFault.{FirstFaultIn}
use Rattle.llrp_stream.specs.declared.item.Item.TheVariants.{Msg, Bad}
use Rattle.llrp_stream.specs.Cuts.{IsFrame, joined, length_field}
use Rattle.llrp_stream.specs.Device.{SourceLog, SinkLog}
use Rattle.llrp_stream.specs.Items.{FrameIn, id_field}
use Rattle.llrp_stream.proofs.FrontLemmas.{length_field-append}
use Rattle.llrp_stream.proofs.Unique.{same_item}
use Rattle.llrp_listing.specs.declared.outcome.Refusal.{Refusal}
use Rattle.llrp_listing.specs.declared.outcome.ToolErr.{ToolErr}
use Rattle.llrp_listing.specs.declared.outcome.ToolErr.TheVariants.{Listing}
use Rattle.llrp_listing.specs.Encoding.{AreSpelled, EncodesIn, RefusesIn, ListingRefusedIn, EncodeStoppedIn}
use Rattle.llrp_listing.specs.Calls.ListingLaws.{IsListing, IsRefused}
use Rattle.llrp_listing.proofs.PrintsBack as spellings

-- ---- the first of some messages, and its frame

pub record Begins (p : KindSet) (limit : ℕ) (ms : List MessageTree) (bytes : List ℕ) : Type 0 where
  pub m : MessageTree
  pub left : List MessageTree
  pub f : List ℕ
  pub more : List ℕ
  pub are : ms ≡ m ∷ left
  pub frame : FrameIn p m f limit
  pub bytes_are : bytes ≡ f ++ more
  pub spelled : AreSpelled p limit left more

go : (p : KindSet) (limit : ℕ) (ms : List MessageTree) (fs : List (List ℕ)) (bytes : List ℕ) → AllZip (λ m frame. FrameIn p m frame limit) ms fs → bytes ≡ joined fs → (length bytes == 0) ≡ false → Begins p limit ms bytes
go p limit [] [] bytes z e some = let none : (length bytes == 0) ≡ true = ap (λ (b : List ℕ). length b == 0) e in let bad : true ≡ false = sym none ∙ some in cc
go p limit [] (f ∷ fs) bytes z e some = absurd z
go p limit (m ∷ ms) [] bytes z e some = absurd z
go p limit (m ∷ ms) (f ∷ fs) bytes z e some = record { m = m; left = ms; f = f; more = joined fs; are = refl; frame = z.0; bytes_are = e; spelled = record { frames = fs; each = z.1; bytes_are = refl } }

pub begins : (p : KindSet) (limit : ℕ) (ms : List MessageTree) (bytes : List ℕ) → AreSpelled p limit ms bytes → (length bytes == 0) ≡ false → Begins p limit ms bytes
begins p limit ms bytes s some = go p limit ms s.frames bytes s.each s.bytes_are some

-- no octets spell no message
none_left : (p : KindSet) (limit : ℕ) (ms : List MessageTree) (fs : List (List ℕ)) (bytes : List ℕ) → AllZip (λ m frame. FrameIn p m frame limit) ms fs → bytes ≡ joined fs → (length bytes == 0) ≡ true → ms ≡ []
none_left p limit [] fs bytes z e none = refl
none_left p limit (m ∷ ms) [] bytes z e none = absurd z
none_left p limit (m ∷ ms) (f ∷ fs) bytes z e none =
    let zero : length bytes ≡ 0 = grind (arith, nat_tests) in
    let h = (spellings.is_frame limit m f z.0.frame).header in
    absurd (omega (arith, h, zero, ap (λ (b : List ℕ). length b) e, length-append f (joined fs)))

pub spells_none : (p : KindSet) (limit : ℕ) (ms : List MessageTree) (bytes : List ℕ) → AreSpelled p limit ms bytes → (length bytes == 0) ≡ true → ms ≡ []
spells_none p limit ms bytes s none = none_left p limit ms s.frames bytes s.each s.bytes_are none

pub frame_is : {p : KindSet} {limit : ℕ} {ms : List MessageTree} {bytes : List ℕ} (b : Begins p limit ms bytes) → IsFrame b.f
frame_is {p} {limit} b = spellings.is_frame limit b.m b.f b.frame.frame

pub own_field : {p : KindSet} {limit : ℕ} {ms : List MessageTree} {bytes : List ℕ} (b : Begins p limit ms bytes) → length_field bytes ≡ length b.f
own_field b = let is = frame_is b in let h = is.header in ap length_field b.bytes_are ∙ length_field-append b.f b.more (omega arith) ∙ is.whole

pub long_enough : {p : KindSet} {limit : ℕ} {ms : List MessageTree} {bytes : List ℕ} (b : Begins p limit ms bytes) → (10 ≤ length b.f) × (length b.f ≤ length bytes)
long_enough {p} {limit} {ms} {bytes} b =
    let h = (frame_is b).header in
    (h, omega (arith, ap (λ (x : List ℕ). length x) b.bytes_are, length-append b.f b.more))

-- two cuts of one list at one place
pub same_cut : (f more front back : List ℕ) → f ++ more ≡ front ++ back → length f ≡ length front → (f ≡ front) × (more ≡ back)
same_cut [] more [] back e n = (refl, e)
same_cut [] more (x ∷ front) back e n = absurd (omega (arith, n))
same_cut (x ∷ f) more [] back e n = absurd (omega (arith, n))
same_cut (x ∷ f) more (y ∷ front) back e n =
    let tails : f ++ more ≡ front ++ back = cc in
    let heads : x ≡ y = cc in
    let ih = same_cut f more front back tails (omega (arith, n)) in
    (ap (λ (z : ℕ). z ∷ f) heads ∙ ap (λ (l : List ℕ). y ∷ l) ih.0, ih.1)

-- what is decoded is the message
pub same_message : (p : KindSet) (limit : ℕ) (f : List ℕ) (m k : MessageTree) → FrameIn p m f limit → Frame k f limit → set_of_kind (Message k.kind) ≡ p → k ≡ m
same_message p limit f m k is frame own =
    let same : Msg k ≡ Msg m = same_item p limit f (Msg k) (Msg m) (record { frame = frame; own = own }) is in cc

pub not_bad : (p : KindSet) (limit : ℕ) (f : List ℕ) (m : MessageTree) (fault : Fault) → FrameIn p m f limit → FirstFaultIn p f limit fault.bit fault.reason → ⊥
not_bad p limit f m fault is bad = let same : Msg m ≡ Bad (id_field f) fault = same_item p limit f (Msg m) (Bad (id_field f) fault) is (refl, bad) in cc

-- ---- how far the messages are decoded

pub record Decodes (p : KindSet) (limit : ℕ) (ms done : List MessageTree) (rest : List ℕ) : Type 0 where
  pub left : List MessageTree
  pub are : ms ≡ done ++ left
  pub spelled : AreSpelled p limit left rest

pub all_decoded : (p : KindSet) (limit : ℕ) (ms done : List MessageTree) (rest : List ℕ) → Decodes p limit ms done rest → (length rest == 0) ≡ true → done ≡ ms
all_decoded p limit ms done rest d none = sym (d.are ∙ ap (λ (l : List MessageTree). done ++ l) (spells_none p limit d.left rest d.spelled none) ∙ append-nil done)

append-assoc-one : (xs : List MessageTree) (x : MessageTree) (ys : List MessageTree) → (xs ++ x ∷ []) ++ ys ≡ xs ++ x ∷ ys
append-assoc-one [] x ys = refl
append-assoc-one (z ∷ xs) x ys = ap (λ (l : List MessageTree). z ∷ l) (append-assoc-one xs x ys)

pub one_more : (p : KindSet) (limit : ℕ) (ms done : List MessageTree) (rest front back : List ℕ) (k : MessageTree) (d : Decodes p limit ms done rest) → (length rest == 0) ≡ false → rest ≡ front ++ back → length front ≡ length_field rest
    → Frame k front limit → set_of_kind (Message k.kind) ≡ p → Decodes p limit ms (done ++ k ∷ []) back
one_more p limit ms done rest front back k d some cut n frame own =
    let b = begins p limit d.left rest d.spelled some in
    let same = same_cut b.f b.more front back (sym b.bytes_are ∙ cut) (sym (own_field b) ∙ sym n) in
    let is : FrameIn p b.m front limit = subst (λ (x : List ℕ). FrameIn p b.m x limit) same.0 b.frame in
    let m : k ≡ b.m = same_message p limit front b.m k is frame own in
    record {
      left = b.left;
      are = d.are ∙ ap (λ (l : List MessageTree). done ++ l) b.are ∙ ap (λ (x : MessageTree). done ++ x ∷ b.left) (sym m) ∙ sym (append-assoc-one done k b.left);
      spelled = subst (λ (x : List ℕ). AreSpelled p limit b.left x) same.1 b.spelled;
    }

-- ---- what run_encode refuses

consumed : (old new : Option (List ℕ)) (text read : List ℕ) → old ≡ Some text → Consumes old new read → (back : List ℕ) × (text ≡ read ++ back) × (new ≡ Some back)
consumed None new text read e c = cc
consumed (Some xs) None text read e c = absurd c
consumed (Some xs) (Some ys) text read e c = let same : xs ≡ text = cc in (ys, sym same ∙ c, refl)

at_end : (new : Option (List ℕ)) (back : List ℕ) → new ≡ Some back → IsAtEnd new → back ≡ []
at_end None back e a = cc
at_end (Some xs) back e a = let same : xs ≡ back = cc in sym same ∙ a

refused_all : (p : KindSet) (limit : ℕ) (r0 r1 : SourceLog) (text bytes : List ℕ) (line : ℕ) (reason : Refusal) → r0.left ≡ Some text → ListingRefusedIn p limit r0 r1 line reason bytes → RefusesIn p limit text line reason bytes
refused_all p limit r0 r1 text bytes line reason e (inl (all, read, refuses)) =
    let c = consumed r0.left r1.left text all e read.bytes_are in
    let none = at_end r1.left c.0 c.2 read.all in
    subst (λ (x : List ℕ). RefusesIn p limit x line reason bytes) (sym (c.1 ∙ ap (λ (b : List ℕ). all ++ b) none ∙ append-nil all)) refuses
refused_all p limit r0 r1 text bytes line reason e (inr (n, front, gave, refuses)) =
    let c = consumed r0.left r1.left text front e gave.bytes_are in
    subst (λ (x : List ℕ). RefusesIn p limit x line reason bytes) (sym c.1) (refuses c.0)

pub listing_refused : (p : KindSet) (limit : ℕ) (result : Result (Unit {0}) ToolErr) (error : ToolErr) (line : ℕ) (reason : Refusal) (r0 r1 : SourceLog) (w0 w1 : SinkLog) (text : List ℕ) → result ≡ Err error → error ≡ Listing line reason
    → IfErr result (λ e. EncodeStoppedIn p limit r0 r1 w0 w1 e) → r0.left ≡ Some text → (ms : List MessageTree) × IsRefused p limit text line reason ms
listing_refused p limit result error line reason r0 r1 w0 w1 text e l stopped left =
    let h : EncodeStoppedIn p limit r0 r1 w0 w1 (Listing line reason) =
    subst (λ (x : ToolErr). EncodeStoppedIn p limit r0 r1 w0 w1 x) l (subst (λ (x : Result (Unit {0}) ToolErr). IfErr x (λ e. EncodeStoppedIn p limit r0 r1 w0 w1 e)) e stopped) in
    let all = refused_all p limit r0 r1 text h.0 line reason left h.2 in
    (all.messages, all.refused)

-- ---- a cut at the length field

pub record Next (p : KindSet) (limit : ℕ) (left : List MessageTree) (rest front back : List ℕ) : Type 0 where
  pub m : MessageTree
  pub frame : FrameIn p m front limit
  pub is : IsFrame front
  pub less : length back < length rest

pub next : (p : KindSet) (limit : ℕ) (left : List MessageTree) (rest front back : List ℕ) → AreSpelled p limit left rest → (length rest == 0) ≡ false → rest ≡ front ++ back → length front ≡ length_field rest → Next p limit left rest front back
next p limit left rest front back s some cut n =
    let b = begins p limit left rest s some in
    let same = same_cut b.f b.more front back (sym b.bytes_are ∙ cut) (sym (own_field b) ∙ sym n) in
    let is : IsFrame front = subst IsFrame same.0 (frame_is b) in
    let h = is.header in
    record {
      m = b.m;
      frame = subst (λ (x : List ℕ). FrameIn p b.m x limit) same.0 b.frame;
      is = is;
      less = omega (arith, h, ap (λ (x : List ℕ). length x) cut, length-append front back);
    }

pub halves : (rest front back : List ℕ) (n : ℕ) → front ≡ take n rest → back ≡ drop n rest → rest ≡ front ++ back
halves rest front back n is_front is_back = rw (is_front, is_back) (sym (take-append-drop n rest))
