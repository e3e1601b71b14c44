-- The lines of a text, and what a listing of one message below its line is.
use Rattle.std.proofs.Common.{◌≡◌, ℕ, suc, ◌==◌, ◌<◌, ◌≤◌, Bool, true, false, cond, List, [], ◌∷◌, ◌++◌, length, get_or, refl, sym, ap, subst, ◌∙◌, inl, inr, arith, length-append, Result, Err}
use Rattle.std.proofs.lemmas.Bool.Decides.{nat_tests}
use Rattle.std.proofs.lemmas.Fmt.{decimal_digit}
use Rattle.std.proofs.lemmas.List.{append-nil}
use Rattle.std.specs.Prelude.{codes, decimal, Option, Some, None, IfErr}
use Rattle.std.specs.List.{AllZip, flat_map}
use Rattle.std.specs.Io.KnownBytes.{Appends, Consumes, IsAtEnd}
use Rattle.llrp_schema.specs.declared.kinds.MsgKind.{MsgKind}
use Rattle.llrp_schema.specs.declared.kinds.ParamKind.{ParamKind}
use Rattle.llrp_schema.specs.declared.kinds.Kind.TheVariants.{Message}
use Rattle.llrp_schema.specs.declared.kinds.KindSet.{KindSet}
use Rattle.llrp_schema.specs.declared.kinds.KindSet.TheVariants.{Profile, Standard}
use Rattle.llrp_schema.specs.Schema.{one, fields_of, groups_of, rule_of, message_rule, tail_of, set_of_kind, name_of, number_of, key_of}
use Rattle.llrp_tree.specs.declared.fault.Fault.{Fault}
use Rattle.llrp_tree.specs.Tree.{Forest, none, and, Tree, MessageTree, trees, forest}
use Rattle.llrp_tree.specs.Lawful.{count, ArePlaced, NoneTooMany, NoneMissing, IsLawfulMessage}
use Rattle.llrp_tree.specs.Frame.{Frame}
use Rattle.llrp_tree.specs.FirstFault.{FirstFaultIn}
use Rattle.llrp_tree.proofs.TreeLemmas.{forest-trees}
use Rattle.llrp_stream.specs.declared.item.Item.TheVariants.{Msg, Bad}
use Rattle.llrp_stream.specs.Cuts.{IsFrame, joined, length_field}
use Rattle.llrp_stream.specs.Device.{SourceLog, SinkLog}
use Rattle.llrp_stream.specs.Items.{FrameIn, id_field}
use Rattle.llrp_stream.proofs.FrontLemmas.{length_field-append}
use Rattle.llrp_stream.proofs.Unique.{same_item}
use Rattle.llrp_session.proofs.OnlyRoSpec.{last_of, all_members, nothing}
use Rattle.llrp_listing.specs.declared.outcome.Refusal.{Refusal}
use Rattle.llrp_listing.specs.declared.outcome.ToolErr.{ToolErr}
use Rattle.llrp_listing.specs.declared.outcome.ToolErr.TheVariants.{Listing}
use Rattle.llrp_listing.specs.Encoding.{AreSpelled, EncodesIn, RefusesIn, ListingRefusedIn, EncodeStoppedIn}
use Rattle.llrp_listing.specs.LineChecks.{SaysNode, SaysLine}
use Rattle.llrp_listing.specs.Lines.{TextLine, Ended, lines_of}
use Rattle.llrp_listing.specs.ListingRules.{row}
use Rattle.llrp_listing.specs.MessageListing.{IsListingOf}
use Rattle.llrp_listing.specs.NodeLine.{NodeLine, message_line, number_forms}
use Rattle.llrp_listing.specs.OpenText.{nodes}
use Rattle.llrp_listing.specs.Calls.ListingLaws.{IsListing, IsRefused}
use Rattle.llrp_listing.specs.Calls.Splits.{IsSplit, Lacks}
use Rattle.llrp_listing.proofs.Clear.{clear}
use Rattle.llrp_listing.proofs.Cutting.{ended, unended}
use Rattle.llrp_listing.proofs.LawfulLines.{lists}
use Rattle.llrp_listing.proofs.PrintsBack as spellings
use Rattle.llrp_endpoints.specs.Calls.Plans.{rospec_kind}
use Rattle.llrp_endpoints.specs.Calls.PlanTexts.{heading, adding, adding_kind, longest_adding, ListsRoSpec, line_below, IsRefusedFirst, HasAnother, first_top}

-- ---- the first line that begins with 0

split_lines : (text before after : List ℕ) → IsSplit 10 text before after → lines_of text ≡ Ended before ∷ lines_of after
split_lines text before after p = ap lines_of p.1 ∙ ended before after p.0

pub top_here : (text before after : List ℕ) → IsSplit 10 text before after → (get_or before 0 0 == 48) ≡ true → first_top (lines_of text) ≡ 1
top_here text before after p top = ap first_top (split_lines text before after p) ∙ ap (λ (b : Bool). cond b 1 (suc (first_top (lines_of after)))) top

pub top_later : (text before after : List ℕ) → IsSplit 10 text before after → (get_or before 0 0 == 48) ≡ false → first_top (lines_of text) ≡ suc (first_top (lines_of after))
top_later text before after p top = ap first_top (split_lines text before after p) ∙ ap (λ (b : Bool). cond b 1 (suc (first_top (lines_of after)))) top

pub shorter : (text before after : List ℕ) → IsSplit 10 text before after → length after < length text
shorter text before after p = omega (arith, ap (λ (x : List ℕ). length x) p.1, length-append before (10 ∷ after))

pub top_none : (text : List ℕ) → (length text == 0) ≡ true → first_top (lines_of text) ≡ 1
unfolding lines_of
top_none [] e = refl
top_none (b ∷ text) e = let zero : length (b ∷ text) ≡ 0 = grind (arith, nat_tests) in absurd (omega (arith, zero))

pub top_last : (text : List ℕ) → Lacks 10 text → (get_or text 0 0 == 48) ≡ true → first_top (lines_of text) ≡ 1
unfolding lines_of
top_last [] p top = refl
top_last (b ∷ text) p top = ap first_top (unended b text p) ∙ ap (λ (x : Bool). cond x 1 2) top

pub top_past : (text : List ℕ) → Lacks 10 text → (length text == 0) ≡ false → (get_or text 0 0 == 48) ≡ false → first_top (lines_of text) ≡ 2
top_past [] p some top = let no : true ≡ false = some in cc
top_past (b ∷ text) p some top = ap first_top (unended b text p) ∙ ap (λ (x : Bool). cond x 1 2) top

-- ---- the message of a listing below the line

abbrev added_line : KindSet → NodeLine
added_line p = record { kind = Message (adding_kind p); numbers = 1 ∷ 1 ∷ []; tail = [] }

-- the line itself, without its LF
abbrev head : List ℕ
head = codes "0 ADD_ROSPEC 1 1"

says_head : (p : KindSet) → SaysNode p head 0 (added_line p)
unfolding number_forms fields_of rule_of message_rule tail_of set_of_kind name_of number_of key_of
says_head Profile = record {
  short = omega arith;
  deep = omega arith;
  placed = refl;
  own = refl;
  numbers = (inl refl, (omega arith, tt));
  tail = refl;
  text = record { numbers = decimal 1 ∷ decimal 1 ∷ []; are = (refl, (refl, tt)); text_is = rw (decimal_digit 0 (omega arith), decimal_digit 1 (omega arith)) refl };
}
says_head Standard = record {
  short = omega arith;
  deep = omega arith;
  placed = refl;
  own = refl;
  numbers = (inl refl, (omega arith, tt));
  tail = refl;
  text = record { numbers = decimal 1 ∷ decimal 1 ∷ []; are = (refl, (refl, tt)); text_is = rw (decimal_digit 0 (omega arith), decimal_digit 1 (omega arith)) refl };
}

head_lines : (text : List ℕ) → lines_of (heading ++ text) ≡ Ended head ∷ lines_of text
head_lines text = ended head text (refl, (refl, (refl, (refl, (refl, (refl, (refl, (refl, (refl, (refl, (refl, (refl, (refl, (refl, (refl, (refl, tt))))))))))))))))

-- the first message is the one of that line
first_line : (p : KindSet) (text : List ℕ) (m : MessageTree) (ms : List MessageTree) → AllZip (SaysLine p) (lines_of (heading ++ text)) (nodes 0 (row (m ∷ ms))) → message_line m ≡ added_line p
first_line p text m ms says =
    let all : AllZip (SaysLine p) (Ended head ∷ lines_of text) (nodes 0 (row (m ∷ ms))) = subst (λ (x : List TextLine). AllZip (SaysLine p) x (nodes 0 (row (m ∷ ms)))) (head_lines text) says in
    ap (λ (p : ℕ × NodeLine). p.1) ((clear p longest_adding).one_said (Ended head) (0, message_line m) (0, added_line p) all.0 (says_head p))

-- ---- the messages of a listing below the line

-- the first of them, and its frame
pub record First (p : KindSet) (text bytes : List ℕ) : Type 0 where
  pub m : MessageTree
  pub ms : List MessageTree
  pub f : List ℕ
  pub fs : List (List ℕ)
  pub lists : IsListing p longest_adding (heading ++ text) (m ∷ ms)
  pub frame : FrameIn p m f longest_adding
  pub each : AllZip (λ m frame. FrameIn p m frame longest_adding) ms fs
  pub bytes_are : bytes ≡ f ++ joined fs
  pub line : message_line m ≡ added_line p

first_of : (p : KindSet) (text bytes : List ℕ) (ms : List MessageTree) (fs : List (List ℕ)) → IsListingOf ms (heading ++ text) → AllZip (λ m frame. FrameIn p m frame longest_adding) ms fs → bytes ≡ flat_map (λ frame. frame) fs → First p text bytes
first_of p text bytes ms fs l z e =
    let spelled : AreSpelled p longest_adding ms bytes = record { frames = fs; each = z; bytes_are = e } in
    let says : AllZip (SaysLine p) (lines_of (heading ++ text)) (nodes 0 (row ms)) = (lists longest_adding (heading ++ text) bytes ms l spelled).says in
    go ms fs l z e spelled says
  where
    go : (ms : List MessageTree) (fs : List (List ℕ)) → IsListingOf ms (heading ++ text) → AllZip (λ m frame. FrameIn p m frame longest_adding) ms fs → bytes ≡ flat_map (λ frame. frame) fs → AreSpelled p longest_adding ms bytes
        → AllZip (SaysLine p) (lines_of (heading ++ text)) (nodes 0 (row ms)) → First p text bytes
    go [] [] l z e s says = absurd (subst (λ (x : List TextLine). AllZip (SaysLine p) x []) (head_lines text) says)
    go [] (f ∷ fs) l z e s says = absurd z
    go (m ∷ ms) [] l z e s says = absurd z
    go (m ∷ ms) (f ∷ fs) l z e s says = record { m = m; ms = ms; f = f; fs = fs; lists = (l, (bytes, s)); frame = z.0; each = z.1; bytes_are = e; line = first_line p text m ms says }

pub first : (p : KindSet) (text bytes : List ℕ) → EncodesIn p longest_adding (heading ++ text) bytes → First p text bytes
first p text bytes e = first_of p text bytes e.messages e.spelled.frames e.listing e.spelled.each e.spelled.bytes_are

frame_is : (p : KindSet) (m : MessageTree) (f : List ℕ) → FrameIn p m f longest_adding → IsFrame f
frame_is p m f z = spellings.is_frame longest_adding m f z.frame

pub long_enough : (p : KindSet) (text bytes : List ℕ) → First p text bytes → 10 ≤ length bytes
long_enough p text bytes x =
    let h = (frame_is p x.m x.f x.frame).header in
    omega (arith, ap (λ (b : List ℕ). length b) x.bytes_are, length-append x.f (joined x.fs))

own_field : (p : KindSet) (text bytes : List ℕ) (x : First p text bytes) → length_field bytes ≡ length x.f
own_field p text bytes x =
    let is = frame_is p x.m x.f x.frame in
    let h = is.header in
    ap length_field x.bytes_are ∙ length_field-append x.f (joined x.fs) (omega arith) ∙ is.whole

-- ---- one message

no_more : (p : KindSet) (ms : List MessageTree) (fs : List (List ℕ)) → AllZip (λ m frame. FrameIn p m frame longest_adding) ms fs → length (joined fs) ≡ 0 → (ms ≡ []) × (fs ≡ [])
no_more p [] [] z e = (refl, refl)
no_more p [] (f ∷ fs) z e = absurd z
no_more p (m ∷ ms) [] z e = absurd z
no_more p (m ∷ ms) (f ∷ fs) z e = let h = (frame_is p m f z.0).header in absurd (omega (arith, e, length-append f (joined fs)))

-- the bytes are one frame
pub record Only (p : KindSet) (text bytes : List ℕ) : Type 0 where
  pub m : MessageTree
  pub listing : IsListingOf (m ∷ []) (heading ++ text)
  pub frame : FrameIn p m bytes longest_adding
  pub line : message_line m ≡ added_line p

pub only : (p : KindSet) (text bytes : List ℕ) → First p text bytes → length_field bytes ≡ length bytes → Only p text bytes
only p text bytes x e =
    let long = ap (λ (b : List ℕ). length b) x.bytes_are ∙ length-append x.f (joined x.fs) in
    let none = no_more p x.ms x.fs x.each (omega (arith, own_field p text bytes x, e, long)) in
    let same : bytes ≡ x.f = x.bytes_are ∙ ap (λ (fs : List (List ℕ)). x.f ++ joined fs) none.1 ∙ append-nil x.f in
    record {
      m = x.m;
      listing = subst (λ (ms : List MessageTree). IsListingOf (x.m ∷ ms) (heading ++ text)) none.0 x.lists.0;
      frame = subst (λ (b : List ℕ). FrameIn p x.m b longest_adding) (sym same) x.frame;
      line = x.line;
    }

pub more_there : (p : KindSet) (text bytes : List ℕ) → First p text bytes → (length_field bytes ≡ length bytes → ⊥) → HasAnother p text
more_there p text bytes x other = go x.ms x.fs x.each x.lists x.bytes_are
  where
    go : (ms : List MessageTree) (fs : List (List ℕ)) → AllZip (λ m frame. FrameIn p m frame longest_adding) ms fs → IsListing p longest_adding (heading ++ text) (x.m ∷ ms) → bytes ≡ x.f ++ joined fs → HasAnother p text
    go [] [] z l e = absurd (other (own_field p text bytes x ∙ ap (λ (b : List ℕ). length b) (sym (append-nil x.f) ∙ sym e)))
    go [] (f ∷ fs) z l e = absurd z
    go (m ∷ ms) fs z l e = inl (x.m, m, ms, l)

-- what is decoded is the message
pub decoded : (p : KindSet) (text bytes : List ℕ) (o : Only p text bytes) (k : MessageTree) → Frame k bytes longest_adding → set_of_kind (Message k.kind) ≡ p → k ≡ o.m
decoded p text bytes o k frame own =
    let same : Msg k ≡ Msg o.m = same_item p longest_adding bytes (Msg k) (Msg o.m) (record { frame = frame; own = own }) o.frame in cc

pub not_bad : (p : KindSet) (text bytes : List ℕ) → Only p text bytes → (fault : Fault) → FirstFaultIn p bytes longest_adding fault.bit fault.reason → ⊥
not_bad p text bytes o fault bad =
    let same : Msg o.m ≡ Bad (id_field bytes) fault = same_item p longest_adding bytes (Msg o.m) (Bad (id_field bytes) fault) o.frame (refl, bad) in cc

-- ---- its ROSpec

only_of : (kind : ParamKind) (f : Forest) → ArePlaced (one kind ∷ []) f → NoneTooMany (one kind ∷ []) f → NoneMissing (one kind ∷ []) f → (t : Tree) × (trees f ≡ t ∷ [])
unfolding ArePlaced NoneTooMany NoneMissing count
only_of kind none p m l = absurd (omega (arith, l.0))
only_of kind (and before k fields tail children) p m l =
    let t : Tree = record { kind = k; fields = fields; tail = tail; children = children } in
    let all = all_members (one kind) (and before k fields tail children) p in
    let size = length-append (trees before) (t ∷ []) in
    let empty : trees before ≡ [] = nothing (trees before) (omega (arith, all, size, m.0)) in
    (t, ap (λ (ts : List Tree). ts ++ t ∷ []) empty)

pub adding_groups : (set : KindSet) → groups_of (Message (adding_kind set)) ≡ one (rospec_kind set) ∷ []
unfolding groups_of rule_of message_rule
adding_groups Profile = refl
adding_groups Standard = refl

-- the message has one parameter
pub one_child : (p : KindSet) (m : MessageTree) → IsLawfulMessage m → message_line m ≡ added_line p → (t : Tree) × (trees m.children ≡ t ∷ [])
one_child p m h line =
    let same : Message m.kind ≡ Message (adding_kind p) = ap (λ (l : NodeLine). l.kind) line in
    let k : m.kind ≡ adding_kind p = cc in
    let groups : groups_of (Message m.kind) ≡ one (rospec_kind p) ∷ [] = ap (λ (kind : MsgKind). groups_of (Message kind)) k ∙ adding_groups p in
    only_of (rospec_kind p) m.children (rw groups at h.obeys.placed) (rw groups at h.obeys.most) (rw groups at h.obeys.least)

pub popped : (xs : List Tree) (s t : Tree) → t ∷ [] ≡ xs ++ s ∷ [] → s ≡ t
popped xs s t e = last_of xs s t (sym e)

same_message : (p : KindSet) (m : MessageTree) (t : Tree) → m.version ≡ 1 → m.id ≡ 1 → m.kind ≡ adding_kind p → m.fields ≡ [] → m.tail ≡ [] → m.children ≡ forest (t ∷ []) → m ≡ adding p t
same_message p m t v i k f l c =
    ap (λ (x : ℕ). record m { version = x }) v ∙ ap (λ (x : ℕ). record m { version = 1; id = x }) i ∙ ap (λ (x : MsgKind). record m { version = 1; id = 1; kind = x }) k
    ∙ ap (λ (x : List ℕ). record m { version = 1; id = 1; kind = adding_kind p; fields = x }) f ∙ ap (λ (x : List ℕ). record m { version = 1; id = 1; kind = adding_kind p; fields = []; tail = x }) l
    ∙ ap (λ (x : Forest). record m { version = 1; id = 1; kind = adding_kind p; fields = []; tail = []; children = x }) c

pub lists_one : (p : KindSet) (text bytes : List ℕ) (o : Only p text bytes) (t : Tree) → trees o.m.children ≡ t ∷ [] → ListsRoSpec p text t
lists_one p text bytes o t e =
    let kinds : Message o.m.kind ≡ Message (adding_kind p) = ap (λ (l : NodeLine). l.kind) o.line in
    let numbers : o.m.version ∷ o.m.id ∷ o.m.fields ≡ 1 ∷ 1 ∷ [] = ap (λ (l : NodeLine). l.numbers) o.line in
    let k : o.m.kind ≡ adding_kind p = cc in
    let v : o.m.version ≡ 1 = cc in
    let i : o.m.id ≡ 1 = cc in
    let f : o.m.fields ≡ [] = cc in
    let l : o.m.tail ≡ [] = ap (λ (l : NodeLine). l.tail) o.line in
    let c : o.m.children ≡ forest (t ∷ []) = sym (forest-trees o.m.children) ∙ ap forest e in
    subst (λ (m : MessageTree). IsListingOf (m ∷ []) (heading ++ text)) (same_message p o.m t v i k f l c) o.listing

-- ---- what run_encode refuses

consumed : (old new : Option (List ℕ)) (text read : List ℕ) → old ≡ Some text → Consumes old new read → (back : List ℕ) × (text ≡ read ++ back) × (new ≡ Some back)
consumed None new text read e c = cc
consumed (Some xs) None text read e c = absurd c
consumed (Some xs) (Some ys) text read e c = let same : xs ≡ text = cc in (ys, sym same ∙ c, refl)

at_end : (new : Option (List ℕ)) (back : List ℕ) → new ≡ Some back → IsAtEnd new → back ≡ []
at_end None back e a = cc
at_end (Some xs) back e a = let same : xs ≡ back = cc in sym same ∙ a

refused_all : (p : KindSet) (r0 r1 : SourceLog) (text bytes : List ℕ) (line : ℕ) (reason : Refusal) → r0.left ≡ Some text → ListingRefusedIn p longest_adding r0 r1 line reason bytes → RefusesIn p longest_adding text line reason bytes
refused_all p r0 r1 text bytes line reason e (inl (all, read, refuses)) =
    let c = consumed r0.left r1.left text all e read.bytes_are in
    let none = at_end r1.left c.0 c.2 read.all in
    subst (λ (x : List ℕ). RefusesIn p longest_adding x line reason bytes) (sym (c.1 ∙ ap (λ (b : List ℕ). all ++ b) none ∙ append-nil all)) refuses
refused_all p r0 r1 text bytes line reason e (inr (n, front, gave, refuses)) =
    let c = consumed r0.left r1.left text front e gave.bytes_are in
    subst (λ (x : List ℕ). RefusesIn p longest_adding x line reason bytes) (sym c.1) (refuses c.0)

appended : (old new : Option (List ℕ)) (bytes items : List ℕ) → old ≡ Some [] → Appends old new bytes → Some items ≡ new → items ≡ bytes
appended None new bytes items e a is = cc
appended (Some xs) None bytes items e a is = cc
appended (Some xs) (Some ys) bytes items e a is = let none : xs ≡ [] = cc in let same : items ≡ ys = cc in same ∙ a ∙ ap (λ (x : List ℕ). x ++ bytes) none

pub listing_refused : (p : KindSet) (result : Result (Unit {0}) ToolErr) (error : ToolErr) (line : ℕ) (reason : Refusal) (r0 r1 : SourceLog) (w0 w1 : SinkLog) (text octets : List ℕ) → result ≡ Err error → error ≡ Listing line reason
    → IfErr result (λ e. EncodeStoppedIn p longest_adding r0 r1 w0 w1 e) → r0.left ≡ Some (heading ++ text) → w0.taken ≡ Some [] → Some octets ≡ w1.taken → RefusesIn p longest_adding (heading ++ text) line reason octets
listing_refused p result error line reason r0 r1 w0 w1 text octets e l stopped left taken is =
    let h : EncodeStoppedIn p longest_adding r0 r1 w0 w1 (Listing line reason) =
    subst (λ (x : ToolErr). EncodeStoppedIn p longest_adding r0 r1 w0 w1 x) l (subst (λ (x : Result (Unit {0}) ToolErr). IfErr x (λ e. EncodeStoppedIn p longest_adding r0 r1 w0 w1 e)) e stopped) in
    let same : octets ≡ h.0 = appended w0.taken w1.taken h.0 octets taken h.1.bytes_are is in
    subst (λ (x : List ℕ). RefusesIn p longest_adding (heading ++ text) line reason x) (sym same) (refused_all p r0 r1 (heading ++ text) h.0 line reason left h.2)

none_spelled : (p : KindSet) (ms : List MessageTree) (fs : List (List ℕ)) (octets : List ℕ) → AllZip (λ m frame. FrameIn p m frame longest_adding) ms fs → octets ≡ joined fs → (length octets == 0) ≡ true → ms ≡ []
none_spelled p ms fs octets z e empty =
    let zero : length octets ≡ 0 = grind (arith, nat_tests) in
    (no_more p ms fs z (ap (λ (x : List ℕ). length x) (sym e) ∙ zero)).0

pub refused_first : (p : KindSet) (text octets : List ℕ) (number line : ℕ) (reason : Refusal) → RefusesIn p longest_adding (heading ++ text) number reason octets → (length octets == 0) ≡ true → line ≡ line_below number → IsRefusedFirst p text line reason
refused_first p text octets number line reason r empty is =
    let none = none_spelled p r.messages r.spelled.frames octets r.spelled.each r.spelled.bytes_are empty in
    (number, subst (λ (ms : List MessageTree). IsRefused p longest_adding (heading ++ text) number reason ms) none r.refused, is)

pub refused_later : (p : KindSet) (text octets : List ℕ) (number : ℕ) (reason : Refusal) → RefusesIn p longest_adding (heading ++ text) number reason octets → (length octets == 0) ≡ false → HasAnother p text
refused_later p text octets number reason r some = go r.messages r.spelled.frames r.spelled.each r.spelled.bytes_are r.refused
  where
    go : (ms : List MessageTree) (fs : List (List ℕ)) → AllZip (λ m frame. FrameIn p m frame longest_adding) ms fs → octets ≡ joined fs → IsRefused p longest_adding (heading ++ text) number reason ms → HasAnother p text
    go [] [] z e x = let no : (length octets == 0) ≡ true = ap (λ (b : List ℕ). length b == 0) e in let bad : true ≡ false = sym no ∙ some in cc
    go [] (f ∷ fs) z e x = absurd z
    go (m ∷ ms) fs z e x = inr (m, ms, number, reason, x)
